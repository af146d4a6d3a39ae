-- Fronts of lists, and lists beside each other.
use Rattle.std.proofs.Common.{◌≡◌, ℕ, suc, ◌+◌, ◌-◌, ◌<◌, ◌≤◌, List, [], ◌∷◌, ◌++◌, length, map, take, Result, Ok, Err, append_assoc, refl, sym, ap, subst, ◌∙◌, arith}
use Rattle.std.proofs.lemmas.List.{append-nil, length-append, take_at}
use Rattle.byte_fields.specs.Reading.{Stand, ahead}
use Rattle.block_columns.specs.ColumnReadings.{Spot, beside}
use Rattle.block_columns.specs.ColumnLaws.{read_to, Begins}

pub same_read : {A S : Type 0} (x y : A) (s t : S) → read_to x s ≡ read_to y t → (x ≡ y) × (s ≡ t)
same_read {A} {S} x y s t is =
    let pair : (let a : A × S = (x, s) in let b : A × S = (y, t) in a ≡ b) = cc in
    (ap (λ (p : A × S). p.0) pair, ap (λ (p : A × S). p.1) pair)

pub begins_take : {A : Type 0} (front whole : List A) → Begins front whole → take (length front) whole ≡ front
begins_take {A} front whole b = ap (λ (l : List A). take (length front) l) b.is ∙ take_at front b.rest (length front) refl

pub begins_few : {A : Type 0} (front whole : List A) → Begins front whole → length front ≤ length whole
begins_few front whole b = let size : length whole ≡ length front + length b.rest = ap length b.is ∙ length-append front b.rest in omega (arith, size)

pub begins_self : {A : Type 0} (l : List A) → Begins l l
begins_self l = record { rest = []; is = sym (append-nil l) }

pub begins_trans : {A : Type 0} (a b c : List A) → Begins a b → Begins b c → Begins a c
begins_trans {A} a b c p q = record { rest = p.rest ++ q.rest; is = q.is ∙ ap (λ (l : List A). l ++ q.rest) p.is ∙ append_assoc a p.rest q.rest }

pub ahead_twice : (s : Stand) (a b : List ℕ) → ahead (length b) (ahead (length a) s) ≡ ahead (length (a ++ b)) s
ahead_twice s a b =
    let e : s.at + length a + length b ≡ s.at + length (a ++ b) = omega (arith, length-append a b) in
    ap (λ (k : ℕ). record { whole = s.whole; at = k }) e

-- ---- pairs of columns

pub beside_lefts : {A B : Type 0} (xs : List A) (ys : List B) → length xs ≡ length ys → map (λ (r : A × B). r.0) (beside xs ys) ≡ xs
beside_lefts [] [] e = refl
beside_lefts [] (y ∷ ys) e = refl
beside_lefts (x ∷ xs) [] e = absurd (omega (arith, e))
beside_lefts {A} {B} (x ∷ xs) (y ∷ ys) e = ap (λ (l : List A). x ∷ l) (beside_lefts xs ys (omega (arith, e)))

pub beside_rights : {A B : Type 0} (xs : List A) (ys : List B) → length xs ≡ length ys → map (λ (r : A × B). r.1) (beside xs ys) ≡ ys
beside_rights [] [] e = refl
beside_rights [] (y ∷ ys) e = absurd (omega (arith, e))
beside_rights (x ∷ xs) [] e = absurd (omega (arith, e))
beside_rights {A} {B} (x ∷ xs) (y ∷ ys) e = ap (λ (l : List B). y ∷ l) (beside_rights xs ys (omega (arith, e)))

pub beside_parts : {A B : Type 0} (rows : List (A × B)) → beside (map (λ (r : A × B). r.0) rows) (map (λ (r : A × B). r.1) rows) ≡ rows
beside_parts [] = refl
beside_parts {A} {B} (r ∷ rows) = ap (λ (l : List (A × B)). r ∷ l) (beside_parts rows)

pub beside_no_left : {A B : Type 0} (xs : List A) (ys : List B) → length xs ≡ 0 → beside xs ys ≡ []
beside_no_left [] ys e = refl
beside_no_left (x ∷ xs) ys e = absurd (omega (arith, e))

pub beside_no_right : {A B : Type 0} (xs : List A) (ys : List B) → length ys ≡ 0 → beside xs ys ≡ []
beside_no_right [] ys e = refl
beside_no_right (x ∷ xs) [] e = refl
beside_no_right (x ∷ xs) (y ∷ ys) e = absurd (omega (arith, e))
