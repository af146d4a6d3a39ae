-- A text that is read is the text that was written, and what was written is read.
use Rattle.std.proofs.Common.{◌≡◌, ℕ, ◌+◌, ◌^◌, ◌<◌, Bool, true, false, cond, List, ◌++◌, length, append_assoc, Result, Ok, Err, refl, sym, ap, subst, ◌∙◌, arith, inl, inr, ◌⊎◌}
use Rattle.std.specs.Prelude.{◌↔◌, IfOk, IsOkAnd, IfErr, IsOk}
use Rattle.std.specs.Str.{IsUtf8, is_utf8}
use Rattle.std.proofs.lemmas.Bool.{false≢true}
use Rattle.std.proofs.lemmas.List.{length-append}
use Rattle.std.proofs.lemmas.Str.{IsUtf8-from_is_utf8, is_utf8-from_IsUtf8}
use Rattle.byte_fields.specs.declared.error.FieldError.{FieldError}
use Rattle.byte_fields.specs.declared.error.FieldError.TheVariants.{Short, NotShortest, NotText, Memory}
use Rattle.byte_fields.specs.Spelling.{var_bytes, text_bytes}
use Rattle.byte_fields.specs.Numbers.{IsLongNumber}
use Rattle.byte_fields.specs.Faults.{LacksBytes, EndsInText, IsNoText}
use Rattle.byte_fields.specs.Reading.{Stand, left, IsWithin, ahead, MovesPast, ◌>>=◌, Reads, MayRead, raw_at, var_at, text_at}
use Rattle.byte_fields.proofs.FieldLaws.{read_as, same_read, slices_are, left-ahead, raw_takes, raw_again, raw_short, raw_errors, var_takes, var_below, var_again, var_short, var_long, var_errors}
use Rattle.byte_fields.proofs.Texts.{text_at-text, text_at-other, text_at-no_length, text_at-cut}

-- one field after another
pub MovesPast-then : (a b : List ℕ) (s t u : Stand) → MovesPast a s t → MovesPast b t u → MovesPast (a ++ b) s u
MovesPast-then a b s t u p q =
    let at : t.at ≡ s.at + length a = ap (λ (x : Stand). x.at) p.place in
    let sum : t.at + length b ≡ s.at + length (a ++ b) = omega (arith, length-append a b) in
    record {
      spelled = p.spelled ∙ ap (λ (r : List ℕ). a ++ r) q.spelled ∙ sym (append_assoc a b (left u));
      place = q.place ∙ ap (λ (x : Stand). ahead (length b) x) p.place ∙ (let w : record { whole = t.whole; at = t.at } ≡ t = refl in ap (λ (k : ℕ). record { whole = s.whole; at = k }) (ap (λ (k : ℕ). k + length b) (sym at) ∙ sum));
    }

-- ---- the ways that reading a text may go

data Way (s : Stand) : Result (List ℕ × Stand) FieldError → Type 0 where
  no_length : (e : FieldError) → var_at s ≡ Err e → Way s (Err e)
  cut : (n : ℕ) (t : Stand) (e : FieldError) → var_at s ≡ read_as n t → raw_at n t ≡ Err e → Way s (Err e)
  other : (n : ℕ) (t u : Stand) (field : List ℕ) → var_at s ≡ read_as n t → raw_at n t ≡ read_as field u → is_utf8 field ≡ false → Way s (Err (NotText s.at))
  text : (n : ℕ) (t u : Stand) (field : List ℕ) → var_at s ≡ read_as n t → raw_at n t ≡ read_as field u → is_utf8 field ≡ true → Way s (read_as field u)

by_test : (s : Stand) (n : ℕ) (t u : Stand) (field : List ℕ) (b : Bool) → var_at s ≡ read_as n t → raw_at n t ≡ read_as field u → is_utf8 field ≡ b → Way s (cond b (read_as field u) (Err (NotText s.at)))
by_test s n t u field true length bytes test = text n t u field length bytes test
by_test s n t u field false length bytes test = other n t u field length bytes test

by_bytes : (s : Stand) (n : ℕ) (t : Stand) (r : Result (List ℕ × Stand) FieldError) → var_at s ≡ read_as n t → raw_at n t ≡ r → Way s (r >>= λ x. cond (is_utf8 x.0) (Ok x) (Err (NotText s.at)))
by_bytes s n t (Err e) length bytes = cut n t e length bytes
by_bytes s n t (Ok x) length bytes = by_test s n t x.1 x.0 (is_utf8 x.0) length bytes refl

by_length : (s : Stand) (r : Result (ℕ × Stand) FieldError) → var_at s ≡ r → Way s (r >>= λ n. raw_at n.0 n.1 >>= λ x. cond (is_utf8 x.0) (Ok x) (Err (NotText s.at)))
by_length s (Err e) length = no_length e length
by_length s (Ok n) length = by_bytes s n.0 n.1 (raw_at n.0 n.1) length refl

way : (s : Stand) → Way s (text_at s)
unfolding text_at
way s = by_length s (var_at s) refl

-- ---- the laws

-- where a number ended, in the same bytes
same_whole : (a : List ℕ) (s t : Stand) → MovesPast a s t → t.whole ≡ s.whole
same_whole a s t p = ap (λ (x : Stand). x.whole) p.place

taken : (s : Stand) → IsWithin s.whole s.at → (n : ℕ) (t u : Stand) (field : List ℕ) → var_at s ≡ read_as n t → raw_at n t ≡ read_as field u → (length field ≡ n) × MovesPast (text_bytes field) s u
taken s within n t u field length_read bytes_read =
    let a = var_takes s within t n length_read in
    let b = raw_takes n t field u bytes_read in
    (b.count, subst (λ (k : ℕ). MovesPast (var_bytes k ++ field) s u) (sym b.count) (MovesPast-then (var_bytes n) field s t u a b.passed))

-- what each way says of the bytes
abbrev Means : Stand → Result (List ℕ × Stand) FieldError → Type 0
Means s (Ok x) = IsUtf8 x.0 × MovesPast (text_bytes x.0) s x.1
Means s (Err (Short at)) = (at ≡ length s.whole) × EndsInText (left s)
Means s (Err (NotShortest at)) = (at ≡ s.at) × IsLongNumber 9 (left s)
Means s (Err (NotText at)) = (at ≡ s.at) × IsNoText (left s)
Means s (Err Memory) = ⊥

means_no_length : (s : Stand) → IsWithin s.whole s.at → (e : FieldError) → var_at s ≡ Err e → Means s (Err e)
means_no_length s within (Short at) is =
    let at-is : at ≡ length s.whole = elim (var_errors s (Short at) is) [ inl h ↦ cc | inr h ↦ absurd (let bad = h in cc) ] in
    (at-is, inl ((var_short s).0 (is ∙ ap (λ (k : ℕ). Err (Short k)) at-is)))
means_no_length s within (NotShortest at) is =
    let at-is : at ≡ s.at = elim (var_errors s (NotShortest at) is) [ inl h ↦ absurd (let bad = h in cc) | inr h ↦ cc ] in
    (at-is, (var_long s within).0 (is ∙ ap (λ (k : ℕ). Err (NotShortest k)) at-is))
means_no_length s within (NotText at) is = elim (var_errors s (NotText at) is) [ inl h ↦ absurd (let bad = h in cc) | inr h ↦ absurd (let bad = h in cc) ]
means_no_length s within Memory is = elim (var_errors s Memory is) [ inl h ↦ absurd (let bad = h in cc) | inr h ↦ absurd (let bad = h in cc) ]

means_cut : (s : Stand) → IsWithin s.whole s.at → (n : ℕ) (t : Stand) (e : FieldError) → var_at s ≡ read_as n t → raw_at n t ≡ Err e → Means s (Err e)
means_cut s within n t e length_read is =
    let a = var_takes s within t n length_read in
    let e-is : e ≡ Short (length s.whole) = raw_errors n t e is ∙ ap (λ (w : List ℕ). Short (length w)) (same_whole (var_bytes n) s t a) in
    let fewer : length (left t) < n = (raw_short n t).0 (is ∙ ap (λ (d : FieldError). Err d) (raw_errors n t e is)) in
    let lacks : LacksBytes (left s) = record { promised = n; there = left t; fits = var_below s within t n length_read; parts = a.spelled; fewer = fewer } in
    subst (λ (d : FieldError). Means s (Err d)) (sym e-is) (refl, inr lacks)

means : (s : Stand) → IsWithin s.whole s.at → (r : Result (List ℕ × Stand) FieldError) → Way s r → Means s r
means s within _ (no_length e is) = means_no_length s within e is
means s within _ (cut n t e length_read is) = means_cut s within n t e length_read is
means s within _ (other n t u field length_read bytes_read test) =
    let h = taken s within n t u field length_read bytes_read in
    let below : length field < 2 ^ 64 = rw h.0 (var_below s within t n length_read) in
    (refl, record { field = field; rest = left u; fits = below; parts = h.1.spelled; other = λ is. absurd (let yes = is_utf8-from_IsUtf8 field is in let no = test in cc) })
means s within _ (text n t u field length_read bytes_read test) = (IsUtf8-from_is_utf8 field test, (taken s within n t u field length_read bytes_read).1)

pub text_means : (s : Stand) → IsWithin s.whole s.at → Means s (text_at s)
text_means s within = means s within (text_at s) (way s)

-- ---- what stands there is what is read

again : (s : Stand) → IsWithin s.whole s.at → (field rest : List ℕ) → length field < 2 ^ 64 → left s ≡ text_bytes field ++ rest
    → (t : Stand) × (var_at s ≡ read_as (length field) t) × (raw_at (length field) t ≡ read_as field (ahead (length field) t))
again s within field rest below e =
    let grouped : left s ≡ var_bytes (length field) ++ (field ++ rest) = e ∙ append_assoc (var_bytes (length field)) field rest in
    let t = ahead (length (var_bytes (length field))) s in
    (t, var_again s within.no_further (length field) (field ++ rest) below grouped, raw_again t field rest (left-ahead s (var_bytes (length field)) (field ++ rest) grouped))

text_again : (s : Stand) → IsWithin s.whole s.at → (field rest : List ℕ) → IsUtf8 field → length field < 2 ^ 64 → left s ≡ text_bytes field ++ rest → (u : Stand) × (text_at s ≡ read_as field u)
text_again s within field rest is below e =
    let h = again s within field rest below e in
    (ahead (length field) h.0, text_at-text s h.0 (ahead (length field) h.0) (length field) field h.1 h.2 is)

text_other : (s : Stand) → IsWithin s.whole s.at → IsNoText (left s) → text_at s ≡ Err (NotText s.at)
text_other s within odd =
    let h = again s within odd.field odd.rest odd.fits odd.parts in
    text_at-other s h.0 (ahead (length odd.field) h.0) (length odd.field) odd.field h.1 h.2 odd.other

text_ends : (s : Stand) → IsWithin s.whole s.at → EndsInText (left s) → text_at s ≡ Err (Short (length s.whole))
text_ends s within ends =
    elim ends [
      | inl cut_length ↦ text_at-no_length s (Short (length s.whole)) ((var_short s).1 cut_length)
      | inr lacks ↦
          let t = ahead (length (var_bytes lacks.promised)) s in
          let number = var_again s within.no_further lacks.promised lacks.there lacks.fits lacks.parts in
          let rest : left t ≡ lacks.there = left-ahead s (var_bytes lacks.promised) lacks.there lacks.parts in
          let fewer : length (left t) < lacks.promised = rw rest lacks.fewer in
          text_at-cut s t lacks.promised (Short (length s.whole)) number ((raw_short lacks.promised t).1 fewer)
    ]

-- ---- what the call of the reader comes to

-- `view` gives the bytes of the text that was answered
pub record TextAnswer {X : Type 0} (view : X → List ℕ) (r : Result X FieldError) (old new : Stand) : Type 0 where
  pub value : IfOk r (λ t. IsUtf8 (view t) × MovesPast (text_bytes (view t)) old new)
  pub only : (field rest : List ℕ) → IsUtf8 field → length field < 2 ^ 64 → left old ≡ text_bytes field ++ rest → IsOkAnd r (λ t. view t ≡ field) ⊎ (r ≡ Err Memory)
  pub short : (r ≡ Err (Short (length old.whole))) ↔ EndsInText (left old)
  pub not_shortest : (r ≡ Err (NotShortest old.at)) ↔ IsLongNumber 9 (left old)
  pub not_text : (r ≡ Err (NotText old.at)) ↔ IsNoText (left old)
  pub errors : IfErr r (λ e. (e ≡ Short (length old.whole)) ⊎ (e ≡ NotShortest old.at) ⊎ (e ≡ NotText old.at) ⊎ (e ≡ Memory))

value : {X : Type 0} (view : X → List ℕ) (r : Result X FieldError) (old new : Stand) → IsWithin old.whole old.at → MayRead view r old new (text_at old) → IfOk r (λ t. IsUtf8 (view t) × MovesPast (text_bytes (view t)) old new)
value view (Ok x) old new within reads = subst (λ (q : Result (List ℕ × Stand) FieldError). Means old q) reads (text_means old within)
value view (Err e) old new within reads = tt

only_if : {X : Type 0} (view : X → List ℕ) (r : Result X FieldError) (old new : Stand) (field : List ℕ) (u : Stand) → MayRead view r old new (text_at old) → text_at old ≡ read_as field u → IsOkAnd r (λ t. view t ≡ field) ⊎ (r ≡ Err Memory)
only_if view (Ok x) old new field u reads is = inl (same_read (view x) field new u (sym reads ∙ is)).0
only_if view (Err Memory) old new field u reads is = inr refl
only_if view (Err (Short at)) old new field u reads is = absurd (let bad = sym reads.0 ∙ is in cc)
only_if view (Err (NotShortest at)) old new field u reads is = absurd (let bad = sym reads.0 ∙ is in cc)
only_if view (Err (NotText at)) old new field u reads is = absurd (let bad = sym reads.0 ∙ is in cc)

ap_err : {X : Type 0} {d e : FieldError} (old : Stand) → text_at old ≡ Err d → text_at old ≡ Err e → (let a : Result X FieldError = Err e in let b : Result X FieldError = Err d in a ≡ b)
ap_err {X} {d} {e} old a b = let same : d ≡ e = (let both = sym a ∙ b in cc) in ap (λ (z : FieldError). Err z) (sym same)

-- the call gives an error that isn't out of memory where reading gives it
gives_error : {X : Type 0} (view : X → List ℕ) (r : Result X FieldError) (old new : Stand) (e : FieldError) → MayRead view r old new (text_at old) → text_at old ≡ Err e → r ≡ Err e
gives_error view (Ok x) old new e reads is = absurd (let bad = sym reads ∙ is in cc)
gives_error view (Err Memory) old new e reads is = absurd (false≢true (subst (λ (q : Result (List ℕ × Stand) FieldError). IsOk q) is reads.0))
gives_error view (Err (Short at)) old new e reads is = sym (ap_err old reads.0 is)
gives_error view (Err (NotShortest at)) old new e reads is = sym (ap_err old reads.0 is)
gives_error view (Err (NotText at)) old new e reads is = sym (ap_err old reads.0 is)

has_error : {X : Type 0} (view : X → List ℕ) (r : Result X FieldError) (old new : Stand) (e : FieldError) → (e ≡ Memory → ⊥) → MayRead view r old new (text_at old) → r ≡ Err e → text_at old ≡ Err e
has_error view (Ok x) old new e differs reads is = absurd (let bad = is in cc)
has_error view (Err Memory) old new e differs reads is = absurd (differs (let same : Memory ≡ e = (let h = is in cc) in sym same))
has_error view (Err (Short at)) old new e differs reads is = reads.0 ∙ ap (λ (d : FieldError). Err d) (let same : Short at ≡ e = (let h = is in cc) in same)
has_error view (Err (NotShortest at)) old new e differs reads is = reads.0 ∙ ap (λ (d : FieldError). Err d) (let same : NotShortest at ≡ e = (let h = is in cc) in same)
has_error view (Err (NotText at)) old new e differs reads is = reads.0 ∙ ap (λ (d : FieldError). Err d) (let same : NotText at ≡ e = (let h = is in cc) in same)

errors_of : {X : Type 0} (view : X → List ℕ) (r : Result X FieldError) (old new : Stand) → IsWithin old.whole old.at → MayRead view r old new (text_at old) → IfErr r (λ e. (e ≡ Short (length old.whole)) ⊎ (e ≡ NotShortest old.at) ⊎ (e ≡ NotText old.at) ⊎ (e ≡ Memory))
errors_of view (Ok x) old new within reads = tt
errors_of view (Err Memory) old new within reads = inr (inr (inr refl))
errors_of view (Err (Short at)) old new within reads =
    let m = subst (λ (q : Result (List ℕ × Stand) FieldError). Means old q) reads.0 (text_means old within) in
    inl (ap (λ (k : ℕ). Short k) m.0)
errors_of view (Err (NotShortest at)) old new within reads =
    let m = subst (λ (q : Result (List ℕ × Stand) FieldError). Means old q) reads.0 (text_means old within) in
    inr (inl (ap (λ (k : ℕ). NotShortest k) m.0))
errors_of view (Err (NotText at)) old new within reads =
    let m = subst (λ (q : Result (List ℕ × Stand) FieldError). Means old q) reads.0 (text_means old within) in
    inr (inr (inl (ap (λ (k : ℕ). NotText k) m.0)))

pub text_answer : {X : Type 0} (view : X → List ℕ) (r : Result X FieldError) (old new : Stand) → IsWithin old.whole old.at → MayRead view r old new (text_at old) → TextAnswer view r old new
text_answer view r old new within reads =
    let meaning = λ (e : FieldError) (is : text_at old ≡ Err e). subst (λ (q : Result (List ℕ × Stand) FieldError). Means old q) is (text_means old within) in
    record {
      value = value view r old new within reads;
      only = λ field rest is below e. let h = text_again old within field rest is below e in only_if view r old new field h.0 reads h.1;
      short = (
        λ e. (meaning (Short (length old.whole)) (has_error view r old new (Short (length old.whole)) (λ h. absurd (let bad = h in cc)) reads e)).1,
        λ h. gives_error view r old new (Short (length old.whole)) reads (text_ends old within h),
      );
      not_shortest = (
        λ e. (meaning (NotShortest old.at) (has_error view r old new (NotShortest old.at) (λ h. absurd (let bad = h in cc)) reads e)).1,
        λ h. gives_error view r old new (NotShortest old.at) reads (text_at-no_length old (NotShortest old.at) ((var_long old within).1 h)),
      );
      not_text = (
        λ e. (meaning (NotText old.at) (has_error view r old new (NotText old.at) (λ h. absurd (let bad = h in cc)) reads e)).1,
        λ h. gives_error view r old new (NotText old.at) reads (text_other old within h),
      );
      errors = errors_of view r old new within reads;
    }

-- what is refused before memory is wanted
pub may_read : (old : Stand) (e : FieldError) → IsWithin old.whole old.at → text_at old ≡ Err e → MayRead (λ (x : List ℕ). x) (Err e) old old (text_at old)
may_read old (Short at) within is = (is, refl)
may_read old (NotShortest at) within is = (is, refl)
may_read old (NotText at) within is = (is, refl)
may_read old Memory within is = absurd (subst (λ (q : Result (List ℕ × Stand) FieldError). Means old q) is (text_means old within))

pub reads_may : {X : Type 0} (view : X → List ℕ) (r : Result X FieldError) (old new : Stand) → IsWithin old.whole old.at → Reads view r old new (text_at old) → MayRead view r old new (text_at old)
reads_may view (Ok x) old new within reads = reads
reads_may view (Err (Short at)) old new within reads = reads
reads_may view (Err (NotShortest at)) old new within reads = reads
reads_may view (Err (NotText at)) old new within reads = reads
reads_may view (Err Memory) old new within reads = absurd (subst (λ (q : Result (List ℕ × Stand) FieldError). Means old q) reads.0 (text_means old within))

pub ok_is : {X : Type 0} (r : Result X FieldError) (x : X) → IsOkAnd r (λ t. t ≡ x) → r ≡ Ok x
ok_is {X} (Ok y) x is = ap (λ (z : X). Ok z) is
ok_is (Err e) x is = absurd is

-- of a text that takes no memory
pub record StrAnswer {X : Type 0} (view : X → List ℕ) (r : Result X FieldError) (old new : Stand) : Type 0 where
  pub any : TextAnswer view r old new
  pub only : (field rest : List ℕ) → IsUtf8 field → length field < 2 ^ 64 → left old ≡ text_bytes field ++ rest → IsOkAnd r (λ t. view t ≡ field)
  pub errors : IfErr r (λ e. (e ≡ Short (length old.whole)) ⊎ (e ≡ NotShortest old.at) ⊎ (e ≡ NotText old.at))

three : (old : Stand) (e : FieldError) → Means old (Err e) → (e ≡ Short (length old.whole)) ⊎ (e ≡ NotShortest old.at) ⊎ (e ≡ NotText old.at)
three old (Short at) m = inl (ap (λ (k : ℕ). Short k) m.0)
three old (NotShortest at) m = inr (inl (ap (λ (k : ℕ). NotShortest k) m.0))
three old (NotText at) m = inr (inr (ap (λ (k : ℕ). NotText k) m.0))
three old Memory m = absurd m

str_errors : {X : Type 0} (view : X → List ℕ) (r : Result X FieldError) (old new : Stand) → IsWithin old.whole old.at → Reads view r old new (text_at old)
    → IfErr r (λ e. (e ≡ Short (length old.whole)) ⊎ (e ≡ NotShortest old.at) ⊎ (e ≡ NotText old.at))
str_errors view (Ok x) old new within reads = tt
str_errors view (Err e) old new within reads = three old e (subst (λ (q : Result (List ℕ × Stand) FieldError). Means old q) reads.0 (text_means old within))

pub str_answer : {X : Type 0} (view : X → List ℕ) (r : Result X FieldError) (old new : Stand) → IsWithin old.whole old.at → Reads view r old new (text_at old) → StrAnswer view r old new
str_answer view r old new within reads = record {
  any = text_answer view r old new within (reads_may view r old new within reads);
  only = λ field rest is below e. let h = text_again old within field rest is below e in slices_are view r old new field (text_at old) h.0 reads h.1;
  errors = str_errors view r old new within reads;
}
