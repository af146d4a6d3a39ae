-- What a call of several calls of a disk says of the disk's counts, by what those say.
use Rattle.std.proofs.Common.{◌≡◌, ◌≢◌, ℕ, ◌^◌, ◌<◌, ◌≤◌, Result, Ok, Err, IsOk, IsErr, refl, sym, ◌∙◌, ap, subst, arith}
use Rattle.span_types.specs.declared.errors.Failed.{Failed}
use Rattle.disk_model.specs.Calls.{Counts, Calls, CountsFault, Passes}
use Rattle.disk_model.specs.Counts.{Plain}
use Rattle.disk_model.specs.declared.disk.Device.{Ghosts}
use Rattle.disk_model.proofs.CallRuns.{OneCall, counts_as, counts_then, passes_none, plain_calls}

not_both : {T E : Type 0} (r : Result T E) → IsOk r → IsErr r → ⊥
not_both (Ok x) ok err = absurd (cc)
not_both (Err e) ok err = absurd (cc)

-- ---- runs that were fine so far

-- the two kinds of a result
abbrev pub ok_in : (T E : Type 0) → T → Result T E
ok_in T E x = Ok x

abbrev pub err_in : (T E : Type 0) → E → Result T E
err_in T E error = Err error

no_fault : {T E : Type 0} (x : T) (fault : E) → ok_in T E x ≡ Err fault → ⊥
no_fault x fault is = cc

err_is : {T E : Type 0} (a b : E) → err_in T E a ≡ Err b → a ≡ b
err_is a b is = cc

-- calls that were fine, whatever they answered
pub went_well : {D : Type 0} (g : Ghosts D) (old new : D) {fine failed : Type 0} → Counts g 0 fine failed old new → fine → (failed → ⊥) → Counts g 0 (Unit {0}) ⊥ old new
went_well g old new {fine} {failed} run is never = counts_as g 0 fine failed (Unit {0}) ⊥ old new run (λ _. is) (λ bad. absurd bad)

pub fine_calls : {D T E : Type 0} (g : Ghosts D) (count end : ℕ) (old new : D) (x : T) → Calls g count end old new (ok_in T E x) → Counts g end (Unit {0}) ⊥ old new
fine_calls g count end old new x run = record {
  time = run.time;
  telling = run.telling;
  later = run.later;
  quiet = λ _. run.quiet refl;
  fault = λ bad. absurd bad;
  near = run.near;
}

pub fine_answer : {D T E : Type 0} (g : Ghosts D) (end : ℕ) (fault : E) (old new : D) (x : T) → CountsFault g end fault old new (ok_in T E x) → Counts g end (Unit {0}) ⊥ old new
fine_answer g end fault old new x run = counts_as g end _ _ (Unit {0}) ⊥ old new run (λ _. no_fault x fault) (λ bad. absurd bad)

-- so many calls, none of which failed
abbrev pub FineCalls : {D : Type 0} → Ghosts D → ℕ → ℕ → D → D → Type 0
FineCalls g count end old new = Calls g count end old new (ok_in (Unit {0}) Failed tt)

pub no_calls : {D : Type 0} (g : Ghosts D) (end : ℕ) (disk : D) → FineCalls g 0 end disk disk
no_calls g end disk = record {
  time = passes_none g disk;
  telling = refl;
  later = omega arith;
  quiet = λ _. refl;
  fault = λ err. absurd (let bad : IsErr (ok_in (Unit {0}) Failed tt) = err in cc);
  near = λ _. refl;
  calls = record { later = omega arith; at_most = omega arith; all = λ _ room. omega arith };
  no_read = refl;
}

-- as many calls
pub count_as : {D U : Type 0} (g : Ghosts D) (end : ℕ) (old new : D) (result : Result U Failed) (a b : ℕ) → a ≡ b → Calls g a end old new result → Calls g b end old new result
count_as g end old new result a b is run = subst (λ (n : ℕ). Calls g n end old new result) is run

-- a run that failed, of which more calls were to come
pub calls_short : {D U : Type 0} (g : Ghosts D) (end : ℕ) (old new : D) (result : Result U Failed) (count more : ℕ) → count ≤ more → IsErr result → Calls g count end old new result → Calls g more end old new result
calls_short g end old new result count more less err run = record {
  time = run.time;
  telling = run.telling;
  later = run.later;
  quiet = run.quiet;
  fault = run.fault;
  near = run.near;
  calls = record { later = run.calls.later; at_most = omega (arith, run.calls.at_most, less); all = λ ok. absurd (not_both result ok err) };
  no_read = run.no_read;
}

-- ---- runs that answer an error of their own

-- a refusal that is handed on
pub refused_answer : {D T E : Type 0} (g : Ghosts D) (end : ℕ) (fault : E) (old new : D) (error : E) → CountsFault g end fault old new (err_in T E error) → Counts g end (error ≢ fault) (error ≡ fault) old new
refused_answer {T = T} {E = E} g end fault old new error run =
    counts_as g end _ _ (error ≢ fault) (error ≡ fault) old new run (λ other is. other (err_is {T = T} error fault is)) (λ is. ap (λ (e : E). err_in T E e) is)

-- calls of which one failed
pub fault_answer : {D T U E : Type 0} (g : Ghosts D) (count end : ℕ) → end < 2 ^ 63 → (fault : E) (old new : D) (why : Failed) → Calls g count end old new (err_in U Failed why) → CountsFault g 0 fault old new (err_in T E fault)
fault_answer g count end short fault old new why run = record {
  time = run.time;
  telling = run.telling;
  later = run.later;
  quiet = λ other. absurd (other refl);
  fault = λ _. run.fault refl;
  near = λ _. run.near short;
}

-- calls none of which failed
pub well_answer : {D T U E : Type 0} (g : Ghosts D) (count end : ℕ) → end < 2 ^ 63 → (fault : E) (old new : D) (x : U) (result : Result T E) → (result ≡ Err fault → ⊥) → Calls g count end old new (ok_in U Failed x) → CountsFault g 0 fault old new result
well_answer g count end short fault old new x result other run = record {
  time = run.time;
  telling = run.telling;
  later = run.later;
  quiet = λ _. run.quiet refl;
  fault = λ is. absurd (other is);
  near = λ _. run.near short;
}

-- no call
pub still_answer : {D T E : Type 0} (g : Ghosts D) (fault : E) (disk : D) (result : Result T E) → (result ≡ Err fault → ⊥) → CountsFault g 0 fault disk disk result
still_answer g fault disk result other = record {
  time = passes_none g disk;
  telling = refl;
  later = omega arith;
  quiet = λ _. refl;
  fault = λ is. absurd (other is);
  near = λ _. refl;
}

-- calls that weren't fine, and so a fault
pub broke_answer : {D T E : Type 0} (g : Ghosts D) (fault : E) (old new : D) {fine failed : Type 0} → Counts g 0 fine failed old new → failed → CountsFault g 0 fault old new (err_in T E fault)
broke_answer g fault old new {fine} {failed} run is = counts_as g 0 fine failed _ _ old new run (λ other. absurd (other refl)) (λ _. is)

-- calls that were fine, and no fault
pub other_answer : {D T E : Type 0} (g : Ghosts D) (fault : E) (old new : D) (result : Result T E) → (result ≡ Err fault → ⊥) → Counts g 0 (Unit {0}) ⊥ old new → CountsFault g 0 fault old new result
other_answer g fault old new result other run = counts_as g 0 (Unit {0}) ⊥ _ _ old new run (λ _. tt) other

-- an answer after calls that were fine
pub then_answer : {D T E : Type 0} (g : Ghosts D) (fault : E) (old mid new : D) (result : Result T E) → Counts g 0 (Unit {0}) ⊥ old mid → CountsFault g 0 fault mid new result → CountsFault g 0 fault old new result
then_answer g fault old mid new result first second = counts_then g 0 (Unit {0}) ⊥ _ _ old mid new first tt second

-- an error that is handed on
pub handed_answer : {D S T E : Type 0} (g : Ghosts D) (fault : E) (old new : D) (error : E) → CountsFault g 0 fault old new (err_in S E error) → CountsFault g 0 fault old new (err_in T E error)
handed_answer {S = S} {T = T} {E = E} g fault old new error run =
    counts_as g 0 _ _ _ _ old new run (λ other is. other (ap (λ (e : E). err_in T E e) (err_is {T = S} error fault is))) (λ is. ap (λ (e : E). err_in S E e) (err_is {T = T} error fault is))

pub passed_answer : {D S T E : Type 0} (g : Ghosts D) (fault : E) (old new : D) (r : Result T E) (own given : E) → r ≡ Err own → own ≡ given → CountsFault g 0 fault old new (err_in S E given) → CountsFault g 0 fault old new r
passed_answer {S = S} {T = T} {E = E} g fault old new r own given is same run =
    subst (λ (x : Result T E). CountsFault g 0 fault old new x) (sym (is ∙ ap (λ (e : E). err_in T E e) same)) (handed_answer {S = S} {T = T} g fault old new given run)

-- a sync, a cut or a length
pub plain_fine : {D T : Type 0} (g : Ghosts D) (old new : D) (x : T) → Passes g old new → OneCall g Plain old new (ok_in T Failed x) → Counts g 0 (Unit {0}) ⊥ old new
plain_fine {T = T} g old new x time one = fine_calls g 1 0 old new x (plain_calls g old new (ok_in T Failed x) 0 time one)

pub plain_fault : {D T U E : Type 0} (g : Ghosts D) (fault : E) (old new : D) (why : Failed) → Passes g old new → OneCall g Plain old new (err_in U Failed why) → CountsFault g 0 fault old new (err_in T E fault)
plain_fault {U = U} g fault old new why time one = fault_answer g 1 0 (omega arith) fault old new why (plain_calls g old new (err_in U Failed why) 0 time one)
