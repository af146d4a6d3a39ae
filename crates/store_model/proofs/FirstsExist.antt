-- Each list of rows has first occurrences: by insertion in block order.
use Rattle.std.proofs.Common.{◌≡◌, ℕ, ◌<◌, zero, suc, List, [], ◌∷◌, Option, None, Some, Bool, true, false, not, refl, sym, ◌∙◌, ap, subst, arith, add-one, length, filter, if◌then◌else◌, slice_index_or}
use Rattle.std.specs.List.{Contains, AllByRecursion}
use Rattle.std.specs.declared.cmp.Ordering.{Ordering}
use Rattle.std.specs.declared.cmp.Ordering.TheVariants.{Less, Equal, Greater}
use Rattle.std.specs.Ordering.{is_lt, is_eq, nat_cmp, ordering_then, ordering_reverse}
use Rattle.std.proofs.lemmas.Cmp.{tied_itself}
use Rattle.span_types.specs.declared.ids.Key.{Key}
use Rattle.span_types.specs.declared.spans.Row.{Row}
use Rattle.span_types.specs.Keys.{row_key}
use Rattle.span_types.specs.Orders.{trace_cmp, span_cmp, key_cmp, place_cmp, trace_order, block_order}
use Rattle.span_types.specs.First.{lesser, row_at, first_at, IsFirstOf}
use Rattle.span_types.proofs.FirstLaws.{block_order_total, key_cmp_total, key_cmp_exact, key_of_first}
use Rattle.store_model.proofs.RowSetLaws.{in_head, in_tail}

-- rows that ascend strictly in block order
abbrev Ascends : List Row → Type 0
Ascends [] = Unit {0}
Ascends (x ∷ xs) = AllByRecursion (λ y. block_order x y ≡ Less) xs × Ascends xs

abbrev insert : Row → List Row → List Row
insert r [] = r ∷ []
insert r (x ∷ xs) = if is_lt (block_order r x) then r ∷ x ∷ xs else x ∷ insert r xs

abbrev other_key : Key → Row → Bool
other_key k x = not (is_eq (key_cmp (row_key x) k))

abbrev without_key : Key → List Row → List Row
without_key k xs = filter (other_key k) xs

is_less : (o : Ordering) → is_lt o ≡ true → o ≡ Less
is_less Less h = refl
is_less Equal h = cc
is_less Greater h = cc

is_equal : (o : Ordering) → is_eq o ≡ true → o ≡ Equal
is_equal Less h = cc
is_equal Equal h = refl
is_equal Greater h = cc

less_trans : (a b c : Row) → block_order a b ≡ Less → block_order b c ≡ Less → block_order a c ≡ Less
less_trans a b c h g = block_order_total.trans a b c h g

all_above : (a b : Row) (xs : List Row) → block_order a b ≡ Less → AllByRecursion (λ y. block_order b y ≡ Less) xs → AllByRecursion (λ y. block_order a y ≡ Less) xs
all_above a b [] h all = tt
all_above a b (x ∷ xs) h all = (less_trans a b x h all.0, all_above a b xs h all.1)

-- another key is before or after
flipped : (o : Ordering) → is_lt o ≡ false → (o ≡ Equal → ⊥) → ordering_reverse o ≡ Less
flipped Less h e = cc
flipped Equal h e = absurd (e refl)
flipped Greater h e = refl

after : (r x : Row) → is_lt (block_order r x) ≡ false → (block_order r x ≡ Equal → ⊥) → block_order x r ≡ Less
after r x h e = block_order_total.antisymm x r ∙ flipped (block_order r x) h e

abbrev Apart : Row → List Row → Type 0
Apart r xs = AllByRecursion (λ x. block_order r x ≡ Equal → ⊥) xs

inserted_above : (a r : Row) (xs : List Row) → block_order a r ≡ Less → AllByRecursion (λ y. block_order a y ≡ Less) xs → AllByRecursion (λ y. block_order a y ≡ Less) (insert r xs)
inserted_above a r [] h all = (h, tt)
inserted_above a r (x ∷ xs) h all =
    elim (is_lt (block_order r x)) as (λ t. AllByRecursion (λ y. block_order a y ≡ Less) (if t then r ∷ x ∷ xs else x ∷ insert r xs)) [
      | true ↦ (h, all)
      | false ↦ (all.0, inserted_above a r xs h all.1)
    ]

inserted : (r : Row) (xs : List Row) → Ascends xs → Apart r xs → Ascends (insert r xs)
inserted r [] up apart = (tt, tt)
inserted r (x ∷ xs) up apart =
    elim (is_lt (block_order r x)) as (λ t. is_lt (block_order r x) ≡ t → Ascends (if t then r ∷ x ∷ xs else x ∷ insert r xs)) [
      | true ↦ λ e. ((is_less _ e, all_above r x xs (is_less _ e) up.0), up)
      | false ↦ λ e. (inserted_above x r xs (after r x e apart.0) up.0, inserted r xs up.1 apart.1)
    ] refl

filtered_above : (a : Row) (p : Row → Bool) (xs : List Row) → AllByRecursion (λ y. block_order a y ≡ Less) xs → AllByRecursion (λ y. block_order a y ≡ Less) (filter p xs)
filtered_above a p [] all = tt
filtered_above a p (x ∷ xs) all = by_test (p x) (filtered_above a p xs all.1)
  where
    by_test : (t : Bool) → AllByRecursion (λ y. block_order a y ≡ Less) (filter p xs) → AllByRecursion (λ y. block_order a y ≡ Less) (if t then x ∷ filter p xs else filter p xs)
    by_test true h = (all.0, h)
    by_test false h = h

filtered : (p : Row → Bool) (xs : List Row) → Ascends xs → Ascends (filter p xs)
filtered p [] up = tt
filtered p (x ∷ xs) up = by_test (p x) (filtered p xs up.1)
  where
    by_test : (t : Bool) → Ascends (filter p xs) → Ascends (if t then x ∷ filter p xs else filter p xs)
    by_test true h = (filtered_above x p xs up.0, h)
    by_test false h = h

-- ---- what is in a list

in_inserted : (r : Row) (xs : List Row) → Contains (insert r xs) r
in_inserted r [] = in_head r []
in_inserted r (x ∷ xs) = elim (is_lt (block_order r x)) as (λ t. Contains (if t then r ∷ x ∷ xs else x ∷ insert r xs) r) [
  | true ↦ in_head r (x ∷ xs)
  | false ↦ in_tail r x (insert r xs) (in_inserted r xs)
]

still_in : (y r : Row) (xs : List Row) → Contains xs y → Contains (insert r xs) y
still_in y r [] h = absurd (omega (arith, h.1))
still_in y r (x ∷ xs) (zero, l, e) = elim (is_lt (block_order r x)) as (λ t. Contains (if t then r ∷ x ∷ xs else x ∷ insert r xs) y) [
  | true ↦ in_tail y r (x ∷ xs) (zero, omega arith, e)
  | false ↦ (zero, omega arith, e)
]
still_in y r (x ∷ xs) (suc k, l, e) = elim (is_lt (block_order r x)) as (λ t. Contains (if t then r ∷ x ∷ xs else x ∷ insert r xs) y) [
  | true ↦ in_tail y r (x ∷ xs) (suc k, omega (arith, l), e)
  | false ↦ in_tail y x (insert r xs) (still_in y r xs (k, omega (arith, l), e))
]

in_filtered : (y : Row) (p : Row → Bool) (xs : List Row) → p y ≡ true → Contains xs y → Contains (filter p xs) y
in_filtered y p [] own h = absurd (omega (arith, h.1))
in_filtered y p (x ∷ xs) own (zero, l, e) = rw (ap p e ∙ own) (zero, omega arith, e)
in_filtered y p (x ∷ xs) own (suc k, l, e) = by_test (p x) (in_filtered y p xs own (k, omega (arith, l), e))
  where
    by_test : (t : Bool) → Contains (filter p xs) y → Contains (if t then x ∷ filter p xs else filter p xs) y
    by_test true h = in_tail y x (filter p xs) h
    by_test false h = h

all_inserted : (P : Row → Type 0) (r : Row) (xs : List Row) → P r → AllByRecursion P xs → AllByRecursion P (insert r xs)
all_inserted P r [] own all = (own, tt)
all_inserted P r (x ∷ xs) own all = elim (is_lt (block_order r x)) as (λ t. AllByRecursion P (if t then r ∷ x ∷ xs else x ∷ insert r xs)) [
  | true ↦ (own, all)
  | false ↦ (all.0, all_inserted P r xs own all.1)
]

-- what holds of all, and follows by a test, holds of those that pass it
all_filtered : (P Q : Row → Type 0) (p : Row → Bool) (xs : List Row) → AllByRecursion P xs → ((x : Row) → p x ≡ true → P x → Q x) → AllByRecursion Q (filter p xs)
all_filtered P Q p [] all so = tt
all_filtered P Q p (x ∷ xs) all so = elim (p x) as (λ t. p x ≡ t → AllByRecursion Q (if t then x ∷ filter p xs else filter p xs)) [
  | true ↦ λ e. (so x e all.0, all_filtered P Q p xs all.1 so)
  | false ↦ λ e. all_filtered P Q p xs all.1 so
] refl

-- ---- keys

then_equal : (o p : Ordering) → ordering_then o p ≡ Equal → (o ≡ Equal) × (p ≡ Equal)
then_equal Less p e = cc
then_equal Equal p e = (refl, e)
then_equal Greater p e = cc

equal_keys : (a b : Row) → block_order a b ≡ Equal → key_cmp (row_key a) (row_key b) ≡ Equal
equal_keys a b h =
    let outer = then_equal (trace_cmp a.span.trace b.span.trace) (trace_order a b) h in
    let inner = then_equal (nat_cmp a.span.start b.span.start) (span_cmp a.span.id b.span.id) outer.1 in
    ap (λ o. ordering_then o (span_cmp a.span.id b.span.id)) outer.0 ∙ inner.1

-- a row that passes the test has another key
passed : (t : Bool) → not t ≡ true → t ≡ false
passed true h = cc
passed false h = refl

apart_of : (r x : Row) → other_key (row_key r) x ≡ true → block_order r x ≡ Equal → ⊥
apart_of r x other e =
    let one : is_eq (key_cmp (row_key x) (row_key r)) ≡ false = passed (is_eq (key_cmp (row_key x) (row_key r))) other in
    let keys : row_key r ≡ row_key x = key_cmp_exact (row_key r) (row_key x) (equal_keys r x e) in
    let two : is_eq (key_cmp (row_key x) (row_key r)) ≡ true =
    ap (λ k. is_eq (key_cmp (row_key x) k)) keys ∙ ap is_eq (tied_itself key_cmp_total (row_key x)) in
    let both : true ≡ false = sym two ∙ one in
    cc

-- at another key a row more changes nothing
elsewhere : (k : Key) (r : Row) (rs : List Row) → is_eq (key_cmp (row_key r) k) ≡ false → first_at k (r ∷ rs) ≡ first_at k rs
elsewhere k r rs h = rw h refl

own_row : (r : Row) → row_at (row_key r) r ≡ Some r
own_row r = rw (tied_itself key_cmp_total (row_key r)) refl

flip_false : (a b : Key) → is_eq (key_cmp a b) ≡ false → is_eq (key_cmp b a) ≡ false
flip_false a b h = elim (is_eq (key_cmp b a)) as (λ t. is_eq (key_cmp b a) ≡ t → t ≡ false) [
  | true ↦ λ e. let same : b ≡ a = key_cmp_exact b a (is_equal (key_cmp b a) e) in
      let two : is_eq (key_cmp a b) ≡ true = ap (λ k. is_eq (key_cmp a k)) same ∙ ap is_eq (tied_itself key_cmp_total a) in
      let both : true ≡ false = sym two ∙ h in
      cc
  | false ↦ λ e. refl
] refl

-- ---- the step of the insertion

record AreFirst (rows firsts : List Row) : Type 0 where
  only : AllByRecursion (λ x. first_at (row_key x) rows ≡ Some x) firsts
  whole : (k : Key) (r : Row) → first_at k rows ≡ Some r → Contains firsts r
  up : Ascends firsts

some_same : (a b : Row) → Some a ≡ Some b → a ≡ b
some_same a b h = cc

-- the row comes first for its key
replaced : (r : Row) (rs fs : List Row) → first_at (row_key r) (r ∷ rs) ≡ Some r → AreFirst rs fs → AreFirst (r ∷ rs) (insert r (without_key (row_key r) fs))
replaced r rs fs own is = record {
  only = all_inserted P r others own others_only;
  whole = λ k y h. elim (is_eq (key_cmp (row_key r) k)) as (λ t. is_eq (key_cmp (row_key r) k) ≡ t → Contains (insert r others) y) [
    | true ↦ λ e. subst (λ z. Contains (insert r others) z)
        (some_same r y (sym own ∙ ap (λ q. first_at q (r ∷ rs)) (key_cmp_exact (row_key r) k (is_equal _ e)) ∙ h)) (in_inserted r others)
    | false ↦ λ e. let old : first_at k rs ≡ Some y = sym (elsewhere k r rs e) ∙ h in
        still_in y r others (in_filtered y (other_key (row_key r)) fs
        (ap (λ q. not (is_eq (key_cmp q (row_key r)))) (key_of_first k rs y old) ∙ ap not (flip_false (row_key r) k e)) (is.whole k y old))
  ] refl;
  up = inserted r others (filtered (other_key (row_key r)) fs is.up)
      (all_filtered (λ x. first_at (row_key x) rs ≡ Some x) (λ x. block_order r x ≡ Equal → ⊥) (other_key (row_key r)) fs is.only (λ x other _. apart_of r x other));
}
  where
    P : Row → Type 0
    P x = first_at (row_key x) (r ∷ rs) ≡ Some x

    others : List Row
    others = without_key (row_key r) fs

    others_only : AllByRecursion P others
    others_only = all_filtered (λ x. first_at (row_key x) rs ≡ Some x) P (other_key (row_key r)) fs is.only
        (λ x other old. elsewhere (row_key x) r rs (flip_false (row_key x) (row_key r) (passed (is_eq (key_cmp (row_key x) (row_key r))) other)) ∙ old)

-- another row comes first for its key
let_go : (r x : Row) (rs fs : List Row) → first_at (row_key r) rs ≡ Some x → is_lt (place_cmp x.place r.place) ≡ true → AreFirst rs fs → AreFirst (r ∷ rs) fs
let_go r x rs fs old lt is = record {
  only = all_same fs is.only;
  whole = λ k y h. is.whole k y (sym (same k) ∙ h);
  up = is.up;
}
  where
    same : (k : Key) → first_at k (r ∷ rs) ≡ first_at k rs
    same k = elim (is_eq (key_cmp (row_key r) k)) as (λ t. is_eq (key_cmp (row_key r) k) ≡ t → lesser (if t then Some r else None) (first_at k rs) ≡ first_at k rs) [
      | true ↦ λ e. let there : first_at k rs ≡ Some x = ap (λ q. first_at q rs) (sym (key_cmp_exact (row_key r) k (is_equal _ e))) ∙ old in
          ap (lesser (Some r)) there ∙ ap (λ t. if t then Some x else Some r) lt ∙ sym there
      | false ↦ λ e. refl
    ] refl

    all_same : (xs : List Row) → AllByRecursion (λ y. first_at (row_key y) rs ≡ Some y) xs → AllByRecursion (λ y. first_at (row_key y) (r ∷ rs) ≡ Some y) xs
    all_same [] all = tt
    all_same (y ∷ ys) all = (same (row_key y) ∙ all.0, all_same ys all.1)

exist : (rows : List Row) → (firsts : List Row) × AreFirst rows firsts
exist [] = ([], record { only = tt; whole = λ k r h. cc; up = tt })
exist (r ∷ rs) = by_first (first_at (row_key r) rs) refl (exist rs)
  where
    by_first : (o : Option Row) → first_at (row_key r) rs ≡ o → ((firsts : List Row) × AreFirst rs firsts) → (firsts : List Row) × AreFirst (r ∷ rs) firsts
    by_first None e (fs, is) = (insert r (without_key (row_key r) fs), replaced r rs fs (ap (λ o. lesser o (first_at (row_key r) rs)) (own_row r) ∙ ap (lesser (Some r)) e) is)
    by_first (Some x) e (fs, is) = elim (is_lt (place_cmp x.place r.place)) as (λ t. is_lt (place_cmp x.place r.place) ≡ t → (firsts : List Row) × AreFirst (r ∷ rs) firsts) [
      | true ↦ λ lt. (fs, let_go r x rs fs e lt is)
      | false ↦ λ ge. (
        insert r (without_key (row_key r) fs),
        replaced r rs fs
            (ap (λ o. lesser o (first_at (row_key r) rs)) (own_row r) ∙ ap (lesser (Some r)) e ∙ ap (λ t. if t then Some x else Some r) ge) is,
      )
    ] refl

-- ---- by index

from_recursion : (P : Row → Type 0) (xs : List Row) (k : ℕ) (d : Row) → AllByRecursion P xs → k < length xs → P (slice_index_or xs k d)
from_recursion P [] k d h l = absurd (omega arith)
from_recursion P (x ∷ xs) zero d h l = h.0
from_recursion P (x ∷ xs) (suc k) d h l = from_recursion P xs k d h.1 (omega arith)

neighbours : (xs : List Row) (k : ℕ) (d : Row) → suc k < length xs → Ascends xs → block_order (slice_index_or xs k d) (slice_index_or xs (suc k) d) ≡ Less
neighbours [] k d l up = absurd (omega arith)
neighbours (x ∷ []) k d l up = absurd (omega arith)
neighbours (x ∷ y ∷ ys) zero d l up = up.0.0
neighbours (x ∷ y ∷ ys) (suc k) d l up = neighbours (y ∷ ys) k d (omega arith) up.1

pub firsts_exist : (rows : List Row) → (firsts : List Row) × IsFirstOf rows firsts
firsts_exist rows =
    let it = exist rows in (
      it.0,
      record {
        only = λ k d l. from_recursion (λ x. first_at (row_key x) rows ≡ Some x) it.0 k d it.1.only l;
        whole = it.1.whole;
        ordered = λ k d l. subst (λ i. block_order (slice_index_or it.0 k d) (slice_index_or it.0 i d) ≡ Less) (sym (add-one k)) (neighbours it.0 k d (omega (arith, l)) it.1.up);
      },
    )
