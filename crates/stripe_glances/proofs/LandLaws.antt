-- Where reading stands after values in parts, and after values one after another.
use Rattle.std.proofs.Common.{◌≡◌, ℕ, suc, ◌+◌, ◌-◌, ◌<◌, ◌≤◌, Bool, cond, List, [], ◌∷◌, ◌++◌, Ok, Err, sym, ◌∙◌, ap, subst, arith}
use Rattle.byte_fields.specs.Reading.{Stand, ◌>>=◌}
use Rattle.byte_fields.proofs.Meant.{bound, kept_else}
use Rattle.block_columns.specs.ColumnLaws.{read_to}
use Rattle.block_columns.specs.ColumnReadings.{Read, Spot, counted_at, items_at, made_at, number_at, pair_at, unless_at}
use Rattle.block_columns.proofs.Basics.{same_read}
use Rattle.stripe_glances.specs.Leaps.{Keeps, Lands, Leaps}

pub stands : {s t : Spot} → s ≡ t → s.stand ≡ t.stand
stands e = ap (λ (u : Spot). u.stand) e

-- whatever is said of it, it is jumped over
pub leaps : {A : Type 0} {so : A → Type 0} {read : Read A} {old new : Stand} → Lands so read old new → Leaps read old new
leaps one = record { lands = λ s t x at e. ((one.lands s t x at e).0, tt) }

pub unless_lands : {A : Type 0} {so : A → Type 0} {read : Read A} {old new : Stand} (bad : A → Bool) → Lands so read old new → Lands so (unless_at bad read) old new
unfolding unless_at
unless_lands {A} {so} {read} bad one = record {
  lands = λ s t x at e.
      let a = bound (read s) (λ y. cond (bad y.0) (Err s.stand.at) (Ok y)) (x, t) e in
      let kept = kept_else (bad a.value.0) s.stand.at (Ok a.value) (x, t) a.last in
      one.lands s t x at (a.first ∙ kept.1);
}

pub made_leaps : {A B : Type 0} {read : Read A} {old new : Stand} (make : A → B) → Leaps read old new → Leaps (made_at make read) old new
unfolding made_at
made_leaps {A} {B} {read} make one = record {
  lands = λ s t y at e.
      let a = bound (read s) (λ x. Ok (make x.0, x.1)) (y, t) e in
      let same = same_read (make a.value.0) y a.value.1 t a.last in
      (sym (stands same.1) ∙ (one.lands s a.value.1 a.value.0 at a.first).0, tt);
}

pub pair_leaps : {A B : Type 0} {first : Read A} {second : Read B} {old mid new : Stand} → Leaps first old mid → Leaps second mid new → Leaps (pair_at first second) old new
unfolding pair_at
pair_leaps {A} {B} {first} {second} one two = record {
  lands = λ s t z at e.
      let a = bound (first s) (λ x. second x.1 >>= λ y. Ok ((x.0, y.0), y.1)) (z, t) e in
      let b = bound (second a.value.1) (λ y. Ok ((a.value.0, y.0), y.1)) (z, t) a.last in
      let pair : A × B = (a.value.0, b.value.0) in
      let same = same_read pair z b.value.1 t b.last in
      let mid = (one.lands s a.value.1 a.value.0 at a.first).0 in
      (sym (stands same.1) ∙ (two.lands a.value.1 b.value.1 b.value.0 mid b.first).0, tt);
}

-- ---- items

-- reading has given items, of which this is so, and goes on from here
record Between {A : Type 0} (so : List A → Type 0) (read : List A → Read A) (left : ℕ) (now : Stand) (all : List A) (end : Spot) : Type 0 where
  before : List A
  at : Spot
  stand : at.stand ≡ now
  is : so before
  rest : items_at read left before at ≡ read_to all end

-- If reading gives so many items from the old place on, it comes by here, with so many left.
pub record Comes {A : Type 0} (so : List A → Type 0) (read : List A → Read A) (count left : ℕ) (old now : Stand) : Type 0 where
  comes : (s t : Spot) (all : List A) → s.stand ≡ old → items_at read count [] s ≡ read_to all t → Between so read left now all t

pub comes_first : {A : Type 0} (so : List A → Type 0) (read : List A → Read A) (count left : ℕ) (old : Stand) → left ≡ count → so [] → Comes so read count left old old
comes_first so read count left old same none = record {
  comes = λ s t all at e. record { before = []; at = s; stand = at; is = none; rest = ap (λ (n : ℕ). items_at read n [] s) same ∙ e };
}

pub comes_more : {A : Type 0} {so more : List A → Type 0} {P : A → Type 0} {read : List A → Read A} {old now : Stand} (count i : ℕ) (next : Stand) → i < count → Comes so read count (count - i) old now
    → ((before : List A) (x : A) → so before → P x → more (before ++ x ∷ [])) → ((before : List A) → Lands P (read before) now next) → Comes more read count (count - (i + 1)) old next
unfolding items_at
comes_more {A} {so} {more} {P} {read} count i next low far step one = record {
  comes = λ s t all at e.
      let here = far.comes s t all at e in
      let k : suc (count - (i + 1)) ≡ count - i = omega arith in
      let go : items_at read (suc (count - (i + 1))) here.before here.at ≡ read_to all t = ap (λ (n : ℕ). items_at read n here.before here.at) k ∙ here.rest in
      let a = bound (read here.before here.at) (λ x. items_at read (count - (i + 1)) (here.before ++ x.0 ∷ []) x.1) (all, t) go in
      let landed = (one here.before).lands here.at a.value.1 a.value.0 here.stand a.first in
      record { before = here.before ++ a.value.0 ∷ []; at = a.value.1; stand = landed.0; is = step here.before a.value.0 here.is landed.1; rest = a.last };
}

pub comes_last : {A : Type 0} {so : List A → Type 0} {read : List A → Read A} {old now : Stand} (count i : ℕ) → count ≤ i → Comes so read count (count - i) old now → Lands so (items_at read count []) old now
unfolding items_at
comes_last {A} {so} {read} count i high far = record {
  lands = λ s t all at e.
      let here = far.comes s t all at e in
      let k : 0 ≡ count - i = omega arith in
      let done : items_at read 0 here.before here.at ≡ read_to all t = ap (λ (n : ℕ). items_at read n here.before here.at) k ∙ here.rest in
      let same = same_read here.before all here.at t done in
      (sym (stands same.1) ∙ here.stand, subst so same.0 here.is);
}

pub counted_leaps : {A : Type 0} (read : List A → Read A) {old mid new : Stand} (n : ℕ) → Keeps number_at old n mid → Leaps (items_at read n []) mid new → Leaps (counted_at read) old new
unfolding counted_at
counted_leaps read n number one = record {
  lands = λ s t all at e.
      let a = bound (number_at s) (λ n. items_at read n.0 [] n.1) (all, t) e in
      let found = number.lands s a.value.1 a.value.0 at a.first in
      one.lands a.value.1 t all found.0 (ap (λ (k : ℕ). items_at read k [] a.value.1) (sym found.1) ∙ a.last);
}
