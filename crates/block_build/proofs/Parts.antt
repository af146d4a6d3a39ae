-- Parts of rows in block order: each of them can be a stripe.
use Rattle.std.proofs.Common.{◌≡◌, ℕ, zero, suc, ◌≤◌, min, Bool, true, false, not, ◌||◌, ◌&&◌, eqb, ltb, List, [], ◌∷◌, length, take, drop, if◌then◌else◌, refl, ap, ◌∙◌, arith}
use Rattle.std.specs.List.{list_all, list_any}
use Rattle.std.specs.Ordering.{is_lt}
use Rattle.std.proofs.lemmas.Bool.{and_from, and_parts, le-ltb, ne_eqb}
use Rattle.std.proofs.lemmas.List.{length-take}
use Rattle.span_types.specs.declared.spans.Row.{Row}
use Rattle.span_types.specs.Orders.{block_order}
use Rattle.block_format.specs.Blocks.{form_of_rows, is_rich}
use Rattle.block_stripes.specs.StripeReadings.{ascend, ascend_after, is_no_size}
use Rattle.block_stripes.specs.Stripes.{can_be_stripe, has_form, is_extended}

-- ---- order

after_front : (n : ℕ) (row : Row) (rows : List Row) → ascend_after row rows ≡ true → ascend_after row (take n rows) ≡ true
after_front zero row rows e = refl
after_front (suc n) row [] e = refl
after_front (suc n) row (next ∷ rows) e =
    let both = and_parts (is_lt (block_order row next)) (ascend_after next rows) e in
    and_from (is_lt (block_order row next)) (ascend_after next (take n rows)) both.0 (after_front n next rows both.1)

pub ascend_front : (n : ℕ) (rows : List Row) → ascend rows ≡ true → ascend (take n rows) ≡ true
unfolding ascend
ascend_front zero rows e = refl
ascend_front (suc n) [] e = refl
ascend_front (suc n) (row ∷ rows) e = after_front n row rows e

ascend_tail : (row : Row) (rows : List Row) → ascend_after row rows ≡ true → ascend rows ≡ true
unfolding ascend
ascend_tail row [] e = refl
ascend_tail row (next ∷ rows) e = (and_parts (is_lt (block_order row next)) (ascend_after next rows) e).1

pub ascend_rest : (n : ℕ) (rows : List Row) → ascend rows ≡ true → ascend (drop n rows) ≡ true
unfolding ascend
ascend_rest zero rows e = e
ascend_rest (suc n) [] e = refl
ascend_rest (suc n) (row ∷ rows) e = ascend_rest n rows (ascend_tail row rows e)

-- ---- form

pub all_front : {X : Type 0} (p : X → Bool) (n : ℕ) (xs : List X) → list_all p xs ≡ true → list_all p (take n xs) ≡ true
all_front p zero xs e = refl
all_front p (suc n) [] e = refl
all_front p (suc n) (x ∷ xs) e = (let both = and_parts (p x) (list_all p xs) e in and_from (p x) (list_all p (take n xs)) both.0 (all_front p n xs both.1))

pub all_rest : {X : Type 0} (p : X → Bool) (n : ℕ) (xs : List X) → list_all p xs ≡ true → list_all p (drop n xs) ≡ true
all_rest p zero xs e = e
all_rest p (suc n) [] e = refl
all_rest p (suc n) (x ∷ xs) e = all_rest p n xs (and_parts (p x) (list_all p xs) e).1

all_rich : (rows : List Row) → list_all (has_form true) rows ≡ true
all_rich [] = refl
all_rich (row ∷ rows) = all_rich rows

plain : (a b : Bool) → (not a || not b) ≡ false → (a && b) ≡ true
plain true true e = refl
plain true false e = cc
plain false true e = cc
plain false false e = cc

none_either : (a b : Bool) → (a || b) ≡ false → (a ≡ false) × (b ≡ false)
none_either true b e = cc
none_either false b e = (refl, e)

all_plain : (rows : List Row) → list_any is_rich rows ≡ false → list_all (has_form false) rows ≡ true
all_plain [] e = refl
all_plain (row ∷ rows) e =
    let both = none_either (is_rich row) (list_any is_rich rows) e in
    and_from (has_form false row) (list_all (has_form false) rows) (plain (eqb (length row.span.events) 0) (eqb (length row.span.links) 0) both.0) (all_plain rows both.1)

have_form_by : (any : Bool) (rows : List Row) → list_any is_rich rows ≡ any → list_all (has_form (is_extended (if any then 2 else 1))) rows ≡ true
have_form_by true rows e = all_rich rows
have_form_by false rows e = all_plain rows e

pub have_form : (form : ℕ) (rows : List Row) → form ≡ form_of_rows rows → list_all (has_form (is_extended form)) rows ≡ true
have_form form rows e = ap (λ (f : ℕ). list_all (has_form (is_extended f)) rows) e ∙ have_form_by (list_any is_rich rows) rows refl

-- ---- stripes

neither : (a b : Bool) → a ≡ false → b ≡ false → not (a || b) ≡ true
neither true b e f = absurd (cc)
neither false b e f = ap not f

sized : (n : ℕ) → 1 ≤ n → n ≤ 256 → not (is_no_size n) ≡ true
sized n some few = neither (eqb n 0) (ltb 256 n) (ne_eqb n 0 (λ e. omega (arith, some, e))) (le-ltb 256 n few)

pub first_stripe : (form : ℕ) (rows : List Row) → 1 ≤ length rows → ascend rows ≡ true → list_all (has_form (is_extended form)) rows ≡ true → can_be_stripe (is_extended form) (take 256 rows) ≡ true
first_stripe form rows some order fits =
    let size : length (take 256 rows) ≡ min 256 (length rows) = length-take 256 rows in
    and_from (not (is_no_size (length (take 256 rows)))) (ascend (take 256 rows) && list_all (has_form (is_extended form)) (take 256 rows))
    (sized (length (take 256 rows)) (omega (arith, size)) (omega (arith, size)))
    (and_from (ascend (take 256 rows)) (list_all (has_form (is_extended form)) (take 256 rows)) (ascend_front 256 rows order) (all_front (has_form (is_extended form)) 256 rows fits))
