-- What passing over values, one after another, comes to.
use Rattle.std.proofs.Common.{◌≡◌, ℕ, zero, suc, ◌+◌, ◌-◌, ◌<◌, ◌≤◌, ◌==◌, ◌||◌, Bool, true, false, not, List, [], ◌∷◌, ◌++◌, length, Result, Ok, Err, refl, sym, ◌∙◌, ap, arith}
use Rattle.std.specs.Prelude.{IsTrue, is_ok}
use Rattle.std.proofs.lemmas.List.{length-append}
use Rattle.std.proofs.lemmas.List.Folds.{list_any-append}
use Rattle.std.proofs.Math.Bool.{or-false}
use Rattle.byte_fields.specs.declared.breaks.Break.{Break}
use Rattle.byte_fields.proofs.Meant.{bound}
use Rattle.byte_fields.specs.Reading.{◌>>=◌}
use Rattle.block_columns.specs.ColumnReadings.{Spot, Read, column_at, counted_at, items_at, number_at, only_if_at}
use Rattle.block_columns.specs.ColumnLaws.{read_to}
use Rattle.block_columns.specs.Outcomes.{Finds}
use Rattle.block_columns.proofs.Basics.{same_read}
use Rattle.block_columns.proofs.ReadingSteps.{items_done, items_go_on}
use Rattle.stripe_skims.specs.Sure.{Passes, Skims, TellsFilled, some_filled}

pub found : {X : Type 0} (r : Result X Break) (s : Spot) (read : Result (X × Spot) ℕ) → Finds (λ x. x) r s read → IsTrue (is_ok r) → Passes read s
found (Ok x) s read is ok = (x, is)
found (Err e) s read is ok = cc

-- so many values that are read are so many
pub items_sized : {A : Type 0} (read : List A → Read A) (n : ℕ) (before all : List A) (s t : Spot) → items_at read n before s ≡ read_to all t → length all ≡ length before + n
unfolding items_at
items_sized read zero before all s t e = (let same = same_read before all s t e in omega (arith, ap length same.0))
items_sized {A} read (suc n) before all s t e =
    let a = bound (read before s) (λ x. items_at read n (before ++ x.0 ∷ []) x.1) (all, t) e in
    let more = items_sized read n (before ++ a.value.0 ∷ []) all a.value.1 t a.last in
    omega (arith, more, length-append before (a.value.0 ∷ []))

-- ---- values

-- The values so far were read; reading goes on from here.
pub record Going {A : Type 0} (read : Read A) (left : ℕ) (s : Spot) (total : Result (List A × Spot) ℕ) : Type 0 where
  pub before : List A
  pub rest : items_at (λ _. read) left before s ≡ total

pub going_first : {A : Type 0} (read : Read A) (count left : ℕ) (s : Spot) → left ≡ count → Going read left s (column_at read count s)
going_first read count left s all = record { before = []; rest = ap (λ (n : ℕ). items_at (λ _. read) n [] s) all }

pub going_more : {A : Type 0} (read now : Read A) (count i : ℕ) (s t : Spot) (total : Result (List A × Spot) ℕ) → i < count → Going read (count - i) s total
    → ((u : Spot) → now u ≡ read u) → Passes (now s) t → Going read (count - (i + 1)) t total
going_more read now count i s t total low far same one = record {
  before = far.before ++ one.0 ∷ [];
  rest = items_go_on (λ _. read) count i far.before (far.before ++ one.0 ∷ []) s one.0 t total low (sym (same s) ∙ one.1) refl far.rest;
}

pub going_done : {A : Type 0} (read : Read A) (count i : ℕ) (s : Spot) (total : Result (List A × Spot) ℕ) → count ≤ i → Going read (count - i) s total → Passes total s
going_done read count i s total high far = (far.before, items_done (λ _. read) count i far.before s total high far.rest)

-- ---- lists

pub then_same : {A B : Type 0} (r : Result A ℕ) (f g : A → Result B ℕ) → ((x : A) → f x ≡ g x) → (r >>= f) ≡ (r >>= g)
then_same (Ok x) f g same = same x
then_same (Err at) f g same = refl

items_same : {A : Type 0} (now read : Read A) → ((u : Spot) → now u ≡ read u) → (n : ℕ) (before : List A) (s : Spot) → items_at (λ _. now) n before s ≡ items_at (λ _. read) n before s
unfolding items_at
items_same now read same zero before s = refl
items_same {A} now read same (suc n) before s =
    ap (λ (r : Result (A × Spot) ℕ). r >>= λ x. items_at (λ _. now) n (before ++ x.0 ∷ []) x.1) (same s) ∙ then_same (read s) _ _ (λ x. items_same now read same n (before ++ x.0 ∷ []) x.1)

counted_same : {A : Type 0} (now read : Read A) → ((u : Spot) → now u ≡ read u) → (s : Spot) → counted_at (λ _. now) s ≡ counted_at (λ _. read) s
unfolding counted_at
counted_same {A} now read same s = then_same (number_at s) _ _ (λ n. items_same now read same n.0 [] n.1)

abbrev pub list_at : {A : Type 0} → Bool → Read A → Read (List A)
list_at there read = only_if_at there (counted_at (λ _. read))

list_same : {A : Type 0} (there : Bool) (now read : Read A) → ((u : Spot) → now u ≡ read u) → (s : Spot) → list_at there now s ≡ list_at there read s
unfolding only_if_at
list_same true now read same s = counted_same now read same s
list_same false now read same s = refl

-- a list that was read, and whether it has items
abbrev pub List_found : {A : Type 0} → Result (List A × Spot) ℕ → Bool → Spot → Type 0
List_found {A} read some new = (items : List A) × (read ≡ Ok (items, new)) × (some ≡ not (length items == 0))

pub list_not_there : {A : Type 0} (there : Bool) (read : Read A) (s : Spot) → there ≡ false → List_found (list_at there read s) false s
unfolding only_if_at
list_not_there true read s none = cc
list_not_there false read s none = ([], refl, refl)

pub list_there : {A : Type 0} (there : Bool) (read : Read A) (s t u : Spot) (n : ℕ) → there ≡ true → number_at s ≡ read_to n t → Passes (column_at read n t) u → List_found (list_at there read s) (not (n == 0)) u
unfolding only_if_at counted_at
list_there false read s t u n is number passes = cc
list_there {A} true read s t u n is number passes =
    let size = items_sized (λ _. read) n [] passes.0 t u passes.1 in
    let same : n ≡ length passes.0 = omega (arith, size) in
    (passes.0, rw number passes.1, ap (λ (k : ℕ). not (k == 0)) same)

-- The lists so far were read, and it is known whether one has items; reading goes on from here.
pub record GoingLists {A : Type 0} (read : Read (List A)) (left : ℕ) (s : Spot) (some : Bool) (total : Result (List (List A) × Spot) ℕ) : Type 0 where
  pub before : List (List A)
  pub rest : items_at (λ _. read) left before s ≡ total
  pub some_is : some ≡ some_filled before

pub lists_first : {A : Type 0} (read : Read (List A)) (count left : ℕ) (s : Spot) → left ≡ count → GoingLists read left s false (column_at read count s)
lists_first read count left s all = record { before = []; rest = ap (λ (n : ℕ). items_at (λ _. read) n [] s) all; some_is = refl }

one_more : {A : Type 0} (before : List (List A)) (l : List A) → some_filled (before ++ l ∷ []) ≡ (some_filled before || not (length l == 0))
one_more {A} before l = list_any-append (λ (m : List A). not (length m == 0)) before (l ∷ []) ∙ ap (λ (b : Bool). some_filled before || b) (or-false (not (length l == 0)))

pub lists_more : {A : Type 0} (there : Bool) (read now : Read A) (count i : ℕ) (s t : Spot) (some filled : Bool) (total : Result (List (List A) × Spot) ℕ) → i < count → GoingLists (list_at there read) (count - i) s some total
    → ((u : Spot) → now u ≡ read u) → List_found (list_at there now s) filled t → GoingLists (list_at there read) (count - (i + 1)) t (some || filled) total
lists_more there read now count i s t some filled total low far same one = record {
  before = far.before ++ one.0 ∷ [];
  rest = items_go_on (λ _. list_at there read) count i far.before (far.before ++ one.0 ∷ []) s one.0 t total low (sym (list_same there now read same s) ∙ one.1) refl far.rest;
  some_is = ap (λ (b : Bool). b || filled) far.some_is ∙ ap (λ (b : Bool). some_filled far.before || b) one.2 ∙ sym (one_more far.before one.0);
}

pub lists_done : {A : Type 0} (read : Read (List A)) (count i : ℕ) (s0 s : Spot) (some : Bool) → count ≤ i → GoingLists read (count - i) s some (column_at read count s0) → Skims TellsFilled count (column_at read count s0) some s
lists_done read count i s0 s some high far =
    let is = items_done (λ _. read) count i far.before s (column_at read count s0) high far.rest in
    let size = items_sized (λ _. read) count [] far.before s0 s is in
    record { items = far.before; is = is; sized = omega (arith, size); shown = far.some_is }
