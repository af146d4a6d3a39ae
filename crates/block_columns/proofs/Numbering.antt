-- Numbers in a table of distinct values.
use Rattle.std.proofs.Common.{◌≡◌, ℕ, zero, suc, ◌+◌, ◌<◌, ◌≤◌, max, min, Bool, true, false, ◌||◌, cond, ltb, leb, List, [], ◌∷◌, ◌++◌, length, take, Option, Some, None, append_assoc, refl, sym, ap, subst, ◌∙◌, arith}
use Rattle.std.specs.Prelude.{Decides}
use Rattle.std.specs.List.{slice_get, position_or_len, list_any}
use Rattle.std.proofs.lemmas.Bool.{ltb-true, ltb-false}
use Rattle.std.proofs.lemmas.List.{length-append}
use Rattle.std.proofs.lemmas.Grind.{common_steps}
use Rattle.block_columns.specs.Tables.{number_in, with_value, AllAfter, IsNew}

-- each value of the table has its own number
pub record IsTable {T : Type 0} (same : T → T → Bool) (table : List T) : Type 0 where
  pub number : (i : ℕ) (x : T) → slice_get table i ≡ Some x → position_or_len (same x) table ≡ i

pub position_step : {T : Type 0} (p : T → Bool) (x : T) (xs : List T) → position_or_len p (x ∷ xs) ≡ cond (p x) 0 (suc (position_or_len p xs))
position_step p x xs = grind (arith, common_steps)

take_step : {T : Type 0} (p : T → Bool) (x : T) (xs : List T) (k : ℕ) → position_or_len p (take k xs) ≡ min k (position_or_len p xs) → position_or_len p (x ∷ take k xs) ≡ min (suc k) (position_or_len p (x ∷ xs))
take_step p x xs k h = by (p x) refl
  where
    by : (b : Bool) → p x ≡ b → position_or_len p (x ∷ take k xs) ≡ min (suc k) (position_or_len p (x ∷ xs))
    by true is = rw (position_step p x (take k xs), position_step p x xs, is) (omega arith)
    by false is = rw (position_step p x (take k xs), position_step p x xs, is) (omega (arith, h))

pub position_take : {T : Type 0} (p : T → Bool) (xs : List T) (k : ℕ) → k ≤ length xs → position_or_len p (take k xs) ≡ min k (position_or_len p xs)
position_take p [] zero le = refl
position_take p [] (suc k) le = absurd (omega (arith, le))
position_take p (x ∷ xs) zero le = omega arith
position_take p (x ∷ xs) (suc k) le = take_step p x xs k (position_take p xs k (omega (arith, le)))

ltb_suc : (a b : ℕ) → ltb a b ≡ ltb (suc a) (suc b)
ltb_suc a b = grind arith

-- a value that is in a list is one before its end
pub any_position : {T : Type 0} (p : T → Bool) (xs : List T) → list_any p xs ≡ ltb (position_or_len p xs) (length xs)
any_position p [] = refl
any_position p (x ∷ xs) = rw (position_step p x xs) (by (p x) (any_position p xs))
  where
    by : (b : Bool) → list_any p xs ≡ ltb (position_or_len p xs) (length xs) → (b || list_any p xs) ≡ ltb (cond b 0 (suc (position_or_len p xs))) (suc (length xs))
    by true h = grind arith
    by false h = h ∙ ltb_suc (position_or_len p xs) (length xs)

-- the new value stands at its number
pub value_stands : {T : Type 0} (same : T → T → Bool) → ((a b : T) → Decides (same a b) (a ≡ b)) → (x : T) (table : List T) → slice_get (with_value same table x) (number_in same table x) ≡ Some x
value_stands same decides x [] = refl
value_stands same decides x (y ∷ table) = rw (position_step (same x) y table) (by same decides x y table (value_stands same decides x table) (same x y) refl (list_any (same x) table) refl)
  where
    by : {T : Type 0} (same : T → T → Bool) → ((a b : T) → Decides (same a b) (a ≡ b)) → (x y : T) (table : List T) → slice_get (with_value same table x) (number_in same table x) ≡ Some x
        → (b : Bool) → same x y ≡ b → (c : Bool) → list_any (same x) table ≡ c → slice_get (cond (b || c) (y ∷ table) ((y ∷ table) ++ x ∷ [])) (cond b 0 (suc (position_or_len (same x) table))) ≡ Some x
    by {T} same decides x y table h true is c any = ap (λ (a : T). Some a) (sym ((decides x y).0 is))
    by same decides x y table h false is true any = rw any at h
    by same decides x y table h false is false any = rw any at h

pub position_le : {T : Type 0} (p : T → Bool) (xs : List T) → position_or_len p xs ≤ length xs
position_le p [] = omega arith
position_le p (x ∷ xs) = rw (position_step p x xs) (by (p x) (position_le p xs))
  where
    by : (b : Bool) → position_or_len p xs ≤ length xs → cond b 0 (suc (position_or_len p xs)) ≤ suc (length xs)
    by true h = omega arith
    by false h = omega (arith, h)

pub value_size : {T : Type 0} (same : T → T → Bool) (x : T) (table : List T) → length (with_value same table x) ≡ max (length table) (number_in same table x + 1)
value_size same x table = by same x table (ltb (position_or_len (same x) table) (length table)) refl (position_le (same x) table)
  where
    by : {T : Type 0} (same : T → T → Bool) (x : T) (table : List T) (b : Bool) → ltb (position_or_len (same x) table) (length table) ≡ b → position_or_len (same x) table ≤ length table → length (with_value same table x) ≡ max (length table) (position_or_len (same x) table + 1)
    by same x table true is le = rw (any_position (same x) table ∙ is) (let lt = ltb-true _ _ is in omega (arith, lt))
    by same x table false is le = rw (any_position (same x) table ∙ is) (let ge = ltb-false _ _ is in omega (arith, ge, le, length-append table (x ∷ [])))

pub get_front : {T : Type 0} (xs ys : List T) (i : ℕ) (x : T) → slice_get xs i ≡ Some x → slice_get (xs ++ ys) i ≡ Some x
get_front [] ys i x e = absurd (cc)
get_front (y ∷ xs) ys zero x e = e
get_front (y ∷ xs) ys (suc i) x e = get_front xs ys i x e

-- ---- values that are each new make a table

neither : (a b : Bool) → (a || b) ≡ false → (a ≡ false) × (b ≡ false)
neither true b e = absurd (cc)
neither false b e = (refl, e)

position_behind : {T : Type 0} (p : T → Bool) (before rest : List T) (x : T) → list_any p before ≡ false → p x ≡ true → position_or_len p (before ++ x ∷ rest) ≡ length before
position_behind p [] rest x none is = position_step p x rest ∙ ap (λ (b : Bool). cond b 0 (suc (position_or_len p rest))) is
position_behind p (y ∷ before) rest x none is =
    let parts = neither (p y) (list_any p before) none in
    position_step p y (before ++ x ∷ rest) ∙ ap (λ (b : Bool). cond b 0 (suc (position_or_len p (before ++ x ∷ rest)))) parts.0 ∙ ap suc (position_behind p before rest x parts.1 is)

new_position : {T : Type 0} (same : T → T → Bool) → ((a b : T) → Decides (same a b) (a ≡ b)) → (before more : List T) → AllAfter (IsNew same) before more → (i : ℕ) (x : T) → slice_get more i ≡ Some x → position_or_len (same x) (before ++ more) ≡ length before + i
new_position same decides before [] new i x e = absurd (cc)
new_position {T} same decides before (y ∷ more) new zero x e =
    let equal : y ≡ x = cc in
    position_behind (same x) before more y (subst (λ (z : T). list_any (same z) before ≡ false) equal new.0) ((decides x y).1 (sym equal)) ∙ omega arith
new_position same decides before (y ∷ more) new (suc i) x e =
    ap (position_or_len (same x)) (sym (append_assoc before (y ∷ []) more)) ∙ new_position same decides (before ++ y ∷ []) more new.1 i x e ∙ omega (arith, length-append before (y ∷ []))

pub new_is_table : {T : Type 0} (same : T → T → Bool) → ((a b : T) → Decides (same a b) (a ≡ b)) → (table : List T) → AllAfter (IsNew same) [] table → IsTable same table
new_is_table same decides table new = record { number = λ i x e. new_position same decides [] table new i x e ∙ omega arith }
