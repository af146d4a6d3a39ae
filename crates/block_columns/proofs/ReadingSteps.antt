-- What the calls of the reader come to.
use Rattle.std.proofs.Common.{◌≡◌, ℕ, zero, suc, ◌+◌, ◌-◌, ◌<◌, ◌≤◌, max, Bool, true, false, not, cond, leb, List, [], ◌∷◌, ◌++◌, Option, Some, None, Result, Ok, Err, append_assoc, refl, sym, ap, ◌∙◌, arith}
use Rattle.std.specs.List.{slice_get, list_any}
use Rattle.std.proofs.lemmas.Bool.{le-leb, lt-leb}
use Rattle.std.proofs.lemmas.List.{append-nil}
use Rattle.byte_fields.specs.Reading.{Stand, ◌>>=◌}
use Rattle.byte_fields.specs.declared.breaks.Break.{Break}
use Rattle.byte_fields.specs.declared.breaks.Break.TheVariants as breaks
use Rattle.byte_fields.specs.Breaks.{Fails, Gives}
use Rattle.byte_fields.proofs.Meant.{Bound, bound}
use Rattle.block_columns.specs.Tables.{AllAfter}
use Rattle.block_columns.specs.ColumnReadings.{Spot, Read, at_spot, malformed, field, number_at, reference_at, items_at, unless_at, new_at}
use Rattle.block_columns.specs.ColumnLaws.{read_to}
use Rattle.block_columns.specs.Outcomes.{Finds}
use Rattle.block_columns.proofs.Basics.{same_read}
use Rattle.block_columns.proofs.MeantParts.{at_spot_ok}

pub finds_field : {X Y : Type 0} (view : X → Y) (result : Result X Break) (read : Bool → Stand → Result (Y × Stand) ℕ) (s t : Spot) → Gives view result t.stand (read s.within s.stand) → t ≡ record { within = s.within; stand = t.stand; used = s.used } → Finds view result t (field read s)
unfolding field
finds_field view (Ok x) read s t given is = ap (at_spot s) given ∙ ap (λ (u : Spot). read_to (view x) u) (sym is)
finds_field view (Err breaks.Memory) read s t given is = tt
finds_field view (Err (breaks.At place)) read s t given is = ap (at_spot s) given

pub malformed_any : (B : Type 0) (e : Break) (r : Result ℕ ℕ) → Fails e (malformed {B = ℕ} r) → Fails e (malformed {B = B} r)
malformed_any B breaks.Memory r h = tt
malformed_any B (breaks.At place) (Ok at) h = let same : at ≡ place = cc in ap (λ (k : ℕ). Err k) same
malformed_any B (breaks.At place) (Err at) h = let same : at ≡ place = cc in ap (λ (k : ℕ). Err k) same

pub number_kept : (s : Spot) (n : ℕ) (t : Spot) → number_at s ≡ read_to n t → s.used ≡ t.used
unfolding field
number_kept s n t e = (at_spot_ok s _ n t e).used

pub reference_high : {T : Type 0} (table : List T) (s : Spot) (n : ℕ) (t : Spot) → number_at s ≡ read_to n t → s.used < n → reference_at table s ≡ Err s.stand.at
unfolding reference_at
reference_high table s n t e lt = rw (e, lt-leb n s.used lt) refl

pub reference_past : {T : Type 0} (table : List T) (s : Spot) (n : ℕ) (t : Spot) → number_at s ≡ read_to n t → n ≤ s.used → slice_get table n ≡ None → reference_at table s ≡ Err s.stand.at
unfolding reference_at
reference_past table s n t e le none = rw (e, le-leb n s.used le, none) refl

pub reference_found : {T : Type 0} (table : List T) (s : Spot) (n : ℕ) (t : Spot) (x : T) (u : Spot) → number_at s ≡ read_to n t → n ≤ s.used → slice_get table n ≡ Some x
    → u ≡ record { within = t.within; stand = t.stand; used = max s.used (n + 1) } → reference_at table s ≡ read_to x u
unfolding reference_at
reference_found table s n t x u e le some is = rw (e, le-leb n s.used le, some) (ap (λ (v : Spot). read_to x v) (sym is))

pub reference_broken : {T : Type 0} (e : Break) (table : List T) (s : Spot) → Fails e (number_at s) → Fails e (reference_at table s)
unfolding reference_at
reference_broken breaks.Memory table s h = tt
reference_broken (breaks.At place) table s h = rw h refl

-- ---- items, as a loop reads them

pub items_go_on : {A : Type 0} (read : List A → Read A) (count i : ℕ) (before new : List A) (s : Spot) (x : A) (t : Spot) (total : Result (List A × Spot) ℕ)
    → i < count → read before s ≡ read_to x t → new ≡ before ++ x ∷ [] → items_at read (count - i) before s ≡ total → items_at read (count - (i + 1)) new t ≡ total
unfolding items_at
items_go_on {A} read count i before new s x t total lt h is so_far =
    let k : count - i ≡ suc (count - (i + 1)) = omega arith in
    let one : items_at read (count - i) before s ≡ items_at read (count - (i + 1)) (before ++ x ∷ []) t = rw (k, h) refl in
    ap (λ (l : List A). items_at read (count - (i + 1)) l t) is ∙ sym one ∙ so_far

pub items_fail : {A : Type 0} (e : Break) (read : List A → Read A) (count i : ℕ) (before : List A) (s : Spot) (total : Result (List A × Spot) ℕ)
    → i < count → Fails e (read before s) → items_at read (count - i) before s ≡ total → Fails e total
unfolding items_at
items_fail breaks.Memory read count i before s total lt h so_far = tt
items_fail (breaks.At place) read count i before s total lt h so_far =
    let k : count - i ≡ suc (count - (i + 1)) = omega arith in
    let one : items_at read (count - i) before s ≡ Err place = rw (k, h) refl in
    sym so_far ∙ one

pub items_done : {A : Type 0} (read : List A → Read A) (count i : ℕ) (before : List A) (s : Spot) (total : Result (List A × Spot) ℕ)
    → count ≤ i → items_at read (count - i) before s ≡ total → total ≡ read_to before s
unfolding items_at
items_done read count i before s total le so_far =
    let k : count - i ≡ 0 = omega arith in
    let one : items_at read (count - i) before s ≡ read_to before s = rw k refl in
    sym so_far ∙ one

-- what holds of each item that is read, holds of all
pub record GoodItems {A : Type 0} (Good : List A → A → Type 0) (before all : List A) : Type 0 where
  pub more : List A
  pub is : all ≡ before ++ more
  pub good : AllAfter Good before more

pub items_good : {A : Type 0} (read : List A → Read A) (Good : List A → A → Type 0) → ((before : List A) (s : Spot) (x : A) (t : Spot) → read before s ≡ read_to x t → Good before x)
    → (n : ℕ) (before : List A) (s : Spot) (all : List A) (t : Spot) → items_at read n before s ≡ read_to all t → GoodItems Good before all
unfolding items_at
items_good read Good each zero before s all t e = record { more = []; is = sym (same_read before all s t e).0 ∙ sym (append-nil before); good = tt }
items_good read Good each (suc n) before s all t e =
    let a = bound (read before s) (λ x. items_at read n (before ++ x.0 ∷ []) x.1) (all, t) e in
    let x = a.value.0 in
    let rest = items_good read Good each n (before ++ x ∷ []) a.value.1 all t a.last in
    record { more = x ∷ rest.more; is = rest.is ∙ append_assoc before (x ∷ []) rest.more; good = (each before s x a.value.1 a.first, rest.good) }

-- ---- new values

pub new_broken : {T : Type 0} (e : Break) (same : T → T → Bool) (read : Read T) (before : List T) (s : Spot) → Fails e (read s) → Fails e (new_at same read before s)
unfolding unless_at
new_broken breaks.Memory same read before s h = tt
new_broken (breaks.At place) same read before s h = rw h refl

pub new_given : {T : Type 0} (same : T → T → Bool) (read : Read T) (before : List T) (s : Spot) (x : T) (t : Spot) (new : Bool) → read s ≡ read_to x t → new ≡ not (list_any (same x) before) → new ≡ true
    → (new_at same read before s ≡ read_to x t) × (cond (list_any (same x) before) before (before ++ x ∷ []) ≡ before ++ x ∷ [])
unfolding unless_at
new_given same read before s x t new is_read is good =
    let none : list_any (same x) before ≡ false = from_not (list_any (same x) before) (sym is ∙ good) in
    (rw (is_read, none) refl, rw none refl)
  where
    from_not : (a : Bool) → not a ≡ true → a ≡ false
    from_not true e = absurd (cc)
    from_not false e = refl

pub new_refused : {T : Type 0} (same : T → T → Bool) (read : Read T) (before : List T) (s : Spot) (x : T) (t : Spot) (new : Bool) → read s ≡ read_to x t → new ≡ not (list_any (same x) before) → new ≡ false
    → new_at same read before s ≡ Err s.stand.at
unfolding unless_at
new_refused same read before s x t new is_read is there =
    let some : list_any (same x) before ≡ true = from_not (list_any (same x) before) (sym is ∙ there) in
    rw (is_read, some) refl
  where
    from_not : (a : Bool) → not a ≡ false → a ≡ true
    from_not true e = refl
    from_not false e = absurd (cc)
