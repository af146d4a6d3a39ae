-- How the counts of runs of calls join, and those of one call.
use Rattle.std.proofs.Common.{◌≡◌, ℕ, ◌+◌, ◌^◌, ◌<◌, ◌≤◌, Result, Ok, Err, IsOk, IsErr, refl, ◌∙◌, subst, arith}
use Rattle.std.specs.Prelude.{IsErrOf}
use Rattle.span_types.specs.Faults.{Rose}
use Rattle.disk_model.specs.Counts.{Kind, Plain, Writing, IsNear, Raised, RoseBy, MakesCalls, IsOneCall}
use Rattle.disk_model.specs.Calls.{Counts, Calls, CountsFault, Passes}
use Rattle.disk_model.specs.Crash.{Elapses, HasCause}
use Rattle.disk_model.specs.Images.{Image}
use Rattle.disk_model.proofs.Counting.{not_both}
use Rattle.disk_model.specs.declared.disk.Device.{Ghosts}

pub raised_rose : (before now : ℕ) → Raised before now → Rose before now
raised_rose before now r = omega (arith, r.is)

pub raised_by : (before now : ℕ) → Raised before now → RoseBy 1 before now
raised_by before now r = record { later = r.later; at_most = omega (arith, r.is); exact = λ room. omega (arith, r.is, room) }

ok_or_err : {T E : Type 0} (r : Result T E) (P : Type 0) → (IsOk r → P) → (IsErr r → P) → P
ok_or_err (Ok x) P ok err = ok refl
ok_or_err (Err e) P ok err = err refl

module _ {D : Type 0} (g : Ghosts D) where
  -- no call, a call, and two runs
  pub passes_none : (disk : D) → Passes g disk disk
  passes_none disk = record { later = omega arith; keeps = λ start image le left. left }

  pub passes_once : (old new : D) {may_leave : Image → Type 0} → Elapses (g.moment old) (g.moment new) (g.left_since old) (g.left_since new) may_leave → Passes g old new
  passes_once old new time = record { later = time.later; keeps = time.keeps }

  pub passes_then : (old mid new : D) → Passes g old mid → Passes g mid new → Passes g old new
  passes_then old mid new first second = record {
    later = omega (arith, first.later, second.later);
    keeps = λ start image le left. second.keeps start image (omega (arith, le, first.later)) (first.keeps start image le left);
  }

  -- one call, as the trait has it
  abbrev pub OneCall : {T E : Type 0} → Kind → D → D → Result T E → Type 0
  OneCall kind old new result = IsOneCall g.tells g.faults g.calls g.reads g.far_writes kind old new result

  module _ {T E : Type 0} (old new : D) (result : Result T E) where
    pub call_later : (kind : Kind) → OneCall kind old new result → g.faults old ≤ g.faults new
    call_later kind one = ok_or_err result (g.faults old ≤ g.faults new) (λ ok. omega (arith, one.quiet ok)) (λ err. (one.fault err).later)

    pub call_cause : (kind : Kind) → OneCall kind old new result → HasCause (g.faults old) (g.faults new) result
    call_cause kind one = record { later = call_later kind one; rose = λ err. raised_rose _ _ (one.fault err) }

    pub call_made : (kind : Kind) → OneCall kind old new result → MakesCalls 1 (g.calls old) (g.calls new) result
    call_made kind one = let r = raised_by _ _ one.call in record { later = r.later; at_most = r.at_most; all = λ ok room. r.exact room }

    -- any call, of a run that answers by it
    pub call_counts : (kind : Kind) (end : ℕ) → (end < 2 ^ 63 → IsNear kind) → Passes g old new → OneCall kind old new result
        → Counts g end (IsOk result) (IsErr result) old new
    call_counts kind end near time one = record {
      time = time;
      telling = one.telling;
      later = call_later kind one;
      quiet = one.quiet;
      fault = one.fault;
      near = λ low. one.near (near low);
    }

    -- `len`, `cut` or `sync`, and a write
    pub plain_calls : (end : ℕ) → Passes g old new → OneCall Plain old new result → Calls g 1 end old new result
    plain_calls end time one = record {
      time = time;
      telling = one.telling;
      later = call_later Plain one;
      quiet = one.quiet;
      fault = one.fault;
      near = λ low. one.near tt;
      calls = call_made Plain one;
      no_read = one.read;
    }

    pub write_calls : (end : ℕ) → Passes g old new → OneCall (Writing end) old new result → Calls g 1 end old new result
    write_calls end time one = record {
      time = time;
      telling = one.telling;
      later = call_later (Writing end) one;
      quiet = one.quiet;
      fault = one.fault;
      near = one.near;
      calls = call_made (Writing end) one;
      no_read = one.read;
    }

    -- what a run counts, without its calls
    pub calls_counts : (count end : ℕ) → Calls g count end old new result → Counts g end (IsOk result) (IsErr result) old new
    calls_counts count end run = record {
      time = run.time;
      telling = run.telling;
      later = run.later;
      quiet = run.quiet;
      fault = run.fault;
      near = run.near;
    }

    -- the cause of a run's failure
    pub calls_cause : (count end : ℕ) → Calls g count end old new result → HasCause (g.faults old) (g.faults new) result
    calls_cause count end run = record { later = run.later; rose = λ err. raised_rose _ _ (run.fault err) }

    -- a later end
    pub calls_wider : (count end more : ℕ) → end ≤ more → Calls g count end old new result → Calls g count more old new result
    calls_wider count end more wider run = record {
      time = run.time;
      telling = run.telling;
      later = run.later;
      quiet = run.quiet;
      fault = run.fault;
      near = λ low. run.near (omega (arith, low, wider));
      calls = run.calls;
      no_read = run.no_read;
    }

  -- other words for fine and failed
  pub counts_as : (end : ℕ) (fine failed fine' failed' : Type 0) (old new : D) → Counts g end fine failed old new → (fine' → fine) → (failed' → failed)
      → Counts g end fine' failed' old new
  counts_as end fine failed fine' failed' old new run to_fine to_failed = record {
    time = run.time;
    telling = run.telling;
    later = run.later;
    quiet = λ f. run.quiet (to_fine f);
    fault = λ f. run.fault (to_failed f);
    near = run.near;
  }

  -- a run that answers a fault by another error, or by another result
  pub fault_as : {S T E F : Type 0} (end : ℕ) (fault : E) (fault' : F) (old new : D) (first : Result S E) (result : Result T F) → CountsFault g end fault old new first
      → (IsErrOf first fault → IsErrOf result fault') → (IsErrOf result fault' → IsErrOf first fault) → CountsFault g end fault' old new result
  fault_as end fault fault' old new first result run to from =
      counts_as end (IsErrOf first fault → ⊥) (IsErrOf first fault) (IsErrOf result fault' → ⊥) (IsErrOf result fault') old new run (λ fine is. fine (to is)) from

  -- one that answered no fault
  pub fault_fine : {T E : Type 0} (end : ℕ) (fault : E) (old new : D) (result : Result T E) → CountsFault g end fault old new result
      → (IsErrOf result fault → ⊥) → Counts g end (Unit {0}) ⊥ old new
  fault_fine end fault old new result run fine =
      counts_as end (IsErrOf result fault → ⊥) (IsErrOf result fault) (Unit {0}) ⊥ old new run (λ _. fine) (λ f. absurd f)

  -- a fault that a run of calls answers, and none
  pub fault_of : {S E T F : Type 0} (count end : ℕ) (fault : F) (old new : D) (first : Result S E) (result : Result T F) → Calls g count end old new first
      → (IsErr first → IsErrOf result fault) → (IsOk first → IsErrOf result fault → ⊥) → CountsFault g end fault old new result
  fault_of count end fault old new first result run failed fine =
      counts_as end (IsOk first) (IsErr first) (IsErrOf result fault → ⊥) (IsErrOf result fault) old new (calls_counts old new first count end run)
      (λ no. ok_or_err first (IsOk first) (λ ok. ok) (λ err. absurd (no (failed err)))) (λ is. ok_or_err first (IsErr first) (λ ok. absurd (fine ok is)) (λ err. err))

  pub counts_wider : (end more : ℕ) (fine failed : Type 0) (old new : D) → end ≤ more → Counts g end fine failed old new → Counts g more fine failed old new
  counts_wider end more fine failed old new wider run = record {
    time = run.time;
    telling = run.telling;
    later = run.later;
    quiet = run.quiet;
    fault = run.fault;
    near = λ low. run.near (omega (arith, low, wider));
  }

  -- no call
  pub counts_none : (end : ℕ) (failed : Type 0) (disk : D) → (failed → ⊥) → Counts g end (Unit {0}) failed disk disk
  counts_none end failed disk never = record {
    time = passes_none disk;
    telling = refl;
    later = omega arith;
    quiet = λ _. refl;
    fault = λ f. absurd (never f);
    near = λ _. refl;
  }

  -- a run after one that was fine
  pub counts_then : (end : ℕ) (well not_well fine failed : Type 0) (old mid new : D) → Counts g end well not_well old mid → well → Counts g end fine failed mid new
      → Counts g end fine failed old new
  counts_then end well not_well fine failed old mid new first is second =
      let same = first.quiet is in
      record {
        time = passes_then old mid new first.time second.time;
        telling = second.telling ∙ first.telling;
        later = omega (arith, first.later, second.later);
        quiet = λ f. second.quiet f ∙ same;
        fault = λ f. subst (λ (n : ℕ). Raised n (g.faults new)) same (second.fault f);
        near = λ low. second.near low ∙ first.near low;
      }

  pub calls_then : {S T E F : Type 0} (one two end : ℕ) (old mid new : D) (first : Result S F) (second : Result T E)
      → Calls g one end old mid first → IsOk first → Calls g two end mid new second → Calls g (one + two) end old new second
  calls_then one two end old mid new first second a ok b =
      let same = a.quiet ok in
      record {
        time = passes_then old mid new a.time b.time;
        telling = b.telling ∙ a.telling;
        later = omega (arith, a.later, b.later);
        quiet = λ f. b.quiet f ∙ same;
        fault = λ f. subst (λ (n : ℕ). Raised n (g.faults new)) same (b.fault f);
        near = λ low. b.near low ∙ a.near low;
        calls = record {
          later = omega (arith, a.calls.later, b.calls.later);
          at_most = omega (arith, a.calls.at_most, b.calls.at_most);
          all = λ fine room. added (a.calls.all ok) (b.calls.all fine) room;
        };
        no_read = b.no_read ∙ a.no_read;
      }
    where
      added : (g.calls old + one < 2 ^ 64 → g.calls mid ≡ g.calls old + one) → (g.calls mid + two < 2 ^ 64 → g.calls new ≡ g.calls mid + two)
          → g.calls old + (one + two) < 2 ^ 64 → g.calls new ≡ g.calls old + (one + two)
      added first_all second_all room =
          let e = first_all (omega (arith, room)) in
          omega (arith, e, second_all (omega (arith, e, room)))

  -- a run that ends with its first part, which failed
  pub calls_failed : {S T E F : Type 0} (one two end : ℕ) (old mid : D) (first : Result S F) (result : Result T E)
      → Calls g one end old mid first → IsErr first → IsErr result → Calls g (one + two) end old mid result
  calls_failed one two end old mid first result a err failed = record {
    time = a.time;
    telling = a.telling;
    later = a.later;
    quiet = λ ok. absurd (not_both result ok failed);
    fault = λ f. a.fault err;
    near = a.near;
    calls = record {
      later = a.calls.later;
      at_most = omega (arith, a.calls.at_most);
      all = λ ok. absurd (not_both result ok failed);
    };
    no_read = a.no_read;
  }
