-- What the tests of a stripe against its entry mean, and those of its order against the stripe before.
use Rattle.std.proofs.Common.{◌≡◌, ℕ, zero, suc, ◌-◌, ◌<◌, ◌≤◌, Bool, true, false, not, ◌&&◌, ◌||◌, eqb, leb, List, [], ◌∷◌, ◌++◌, length, take, drop, Contains, slice_index_or, Option, Some, None, refl, sym, ap, ◌∙◌, arith}
use Rattle.std.specs.List.{AllByRecursion, list_all, list_any, slice_get}
use Rattle.std.specs.Ordering.{is_lt}
use Rattle.std.proofs.lemmas.Bool.{and_from, and_parts, eq-eqb, eqb-true, le-leb, leb-true}
use Rattle.std.proofs.lemmas.List.{length-map}
use Rattle.span_types.specs.declared.spans.Row.{Row}
use Rattle.span_types.specs.Orders.{block_order}
use Rattle.block_info.specs.declared.info.StripeInfo.{StripeInfo}
use Rattle.block_format.specs.Blocks.{IsEarliest, IsLatest}
use Rattle.block_stripes.specs.StripeReadings.{ascend, ascend_after}
use Rattle.block_read.specs.BlockReadings.{agrees, can_agree, follow, is_earliest, is_latest, last_of, starts}

-- ---- moments

or_later : (b c : Bool) → c ≡ true → (b || c) ≡ true
or_later true c e = refl
or_later false c e = e

any_at : (moments : List ℕ) (m k : ℕ) → k < length moments → slice_index_or moments k m ≡ m → list_any (λ x. eqb x m) moments ≡ true
any_at [] m k low is = absurd (omega (arith, low))
any_at (x ∷ moments) m zero low is = ap (λ (t : Bool). t || list_any (λ x. eqb x m) moments) (eq-eqb x m is)
any_at (x ∷ moments) m (suc k) low is = or_later (eqb x m) (list_any (λ x. eqb x m) moments) (any_at moments m k (omega (arith, low)) is)

there_by : (moments : List ℕ) (m : ℕ) → list_any (λ x. eqb x m) moments ≡ true → Contains moments m
there_by [] m e = cc
there_by (x ∷ moments) m e =
    elim (eqb x m) as (λ t. eqb x m ≡ t → (t || list_any (λ x. eqb x m) moments) ≡ true → Contains (x ∷ moments) m) [
      | true ↦ λ here h. (0, omega arith, eqb-true x m here)
      | false ↦ λ other h. let later = there_by moments m h in (suc later.0, (let low = later.1 in omega (arith, low)), later.2)
    ] refl e

-- a test of each start, and what it means for the rows
all_test : (p : ℕ → Bool) (P : Row → Type 0) → ((row : Row) → P row → p row.span.start ≡ true) → (rows : List Row) → AllByRecursion P rows → list_all p (starts rows) ≡ true
all_test p P test [] all = refl
all_test p P test (row ∷ rows) all = and_from (p row.span.start) (list_all p (starts rows)) (test row all.0) (all_test p P test rows all.1)

all_mean : (p : ℕ → Bool) (P : Row → Type 0) → ((row : Row) → p row.span.start ≡ true → P row) → (rows : List Row) → list_all p (starts rows) ≡ true → AllByRecursion P rows
all_mean p P mean [] e = tt
all_mean p P mean (row ∷ rows) e = (let both = and_parts (p row.span.start) (list_all p (starts rows)) e in (mean row both.0, all_mean p P mean rows both.1))

earliest_passes : (rows : List Row) (m : ℕ) → IsEarliest rows m → is_earliest m (starts rows) ≡ true
earliest_passes rows m is =
    and_from (list_any (λ x. eqb x m) (starts rows)) (list_all (λ x. leb m x) (starts rows)) (any_at (starts rows) m is.0.0 is.0.1 is.0.2)
    (all_test (λ x. leb m x) (λ row. m ≤ row.span.start) (λ row h. le-leb m row.span.start h) rows is.1)

latest_passes : (rows : List Row) (m : ℕ) → IsLatest rows m → is_latest m (starts rows) ≡ true
latest_passes rows m is =
    and_from (list_any (λ x. eqb x m) (starts rows)) (list_all (λ x. leb x m) (starts rows)) (any_at (starts rows) m is.0.0 is.0.1 is.0.2)
    (all_test (λ x. leb x m) (λ row. row.span.start ≤ m) (λ row h. le-leb row.span.start m h) rows is.1)

earliest_means : (rows : List Row) (m : ℕ) → is_earliest m (starts rows) ≡ true → IsEarliest rows m
earliest_means rows m e =
    let both = and_parts (list_any (λ x. eqb x m) (starts rows)) (list_all (λ x. leb m x) (starts rows)) e in
    (there_by (starts rows) m both.0, all_mean (λ x. leb m x) (λ row. m ≤ row.span.start) (λ row h. leb-true m row.span.start h) rows both.1)

latest_means : (rows : List Row) (m : ℕ) → is_latest m (starts rows) ≡ true → IsLatest rows m
latest_means rows m e =
    let both = and_parts (list_any (λ x. eqb x m) (starts rows)) (list_all (λ x. leb x m) (starts rows)) e in
    (there_by (starts rows) m both.0, all_mean (λ x. leb x m) (λ row. row.span.start ≤ m) (λ row h. leb-true row.span.start m h) rows both.1)

-- ---- an entry and its rows

pub record Agree (entry : StripeInfo) (rows : List Row) : Type 0 where
  pub count : length rows ≡ entry.rows
  pub earliest : IsEarliest rows entry.earliest
  pub latest : IsLatest rows entry.latest

pub agree_passes : (entry : StripeInfo) (rows : List Row) → Agree entry rows → agrees entry (starts rows) ≡ true
agree_passes entry rows are =
    let count : length (starts rows) ≡ entry.rows = length-map rows (λ (row : Row). row.span.start) ∙ are.count in
    and_from (eqb (length (starts rows)) entry.rows) (is_earliest entry.earliest (starts rows) && is_latest entry.latest (starts rows)) (eq-eqb (length (starts rows)) entry.rows count)
    (and_from (is_earliest entry.earliest (starts rows)) (is_latest entry.latest (starts rows)) (earliest_passes rows entry.earliest are.earliest) (latest_passes rows entry.latest are.latest))

pub agree_means : (entry : StripeInfo) (rows : List Row) → agrees entry (starts rows) ≡ true → Agree entry rows
agree_means entry rows e =
    let two = and_parts (eqb (length (starts rows)) entry.rows) (is_earliest entry.earliest (starts rows) && is_latest entry.latest (starts rows)) e in
    let one = and_parts (is_earliest entry.earliest (starts rows)) (is_latest entry.latest (starts rows)) two.1 in
    let count : length rows ≡ entry.rows = sym (length-map rows (λ (row : Row). row.span.start)) ∙ eqb-true (length (starts rows)) entry.rows two.0 in
    record { count = count; earliest = earliest_means rows entry.earliest one.0; latest = latest_means rows entry.latest one.1 }

-- no row starts before the earliest, so the latest isn't before it either
none_less : (rows : List Row) (m x k : ℕ) → AllByRecursion (λ row. m ≤ row.span.start) rows → k < length (starts rows) → slice_index_or (starts rows) k x ≡ x → m ≤ x
none_less [] m x k all low is = absurd (omega (arith, low))
none_less (row ∷ rows) m x zero all low is = (let first = all.0 in omega (arith, first, is))
none_less (row ∷ rows) m x (suc k) all low is = none_less rows m x k all.1 (omega (arith, low)) is

in_order : (entry : StripeInfo) (rows : List Row) → IsEarliest rows entry.earliest → IsLatest rows entry.latest → leb entry.earliest entry.latest ≡ true
in_order entry rows early late = le-leb entry.earliest entry.latest (none_less rows entry.earliest entry.latest late.0.0 early.1 late.0.1 late.0.2)

-- the one start of one row
only_start : (start x k : ℕ) → k < 1 → slice_index_or (start ∷ []) k x ≡ x → start ≡ x
only_start start x zero low is = is
only_start start x (suc k) low is = absurd (omega (arith, low))

one_start : (rows : List Row) (x y : ℕ) → length rows ≡ 1 → Contains (starts rows) x → Contains (starts rows) y → x ≡ y
one_start [] x y one a b = absurd (omega (arith, one))
one_start (row ∷ []) x y one a b = sym (only_start row.span.start x a.0 a.1 a.2) ∙ only_start row.span.start y b.0 b.1 b.2
one_start (row ∷ next ∷ rows) x y one a b = absurd (omega (arith, one))

alone : (entry : StripeInfo) (rows : List Row) → Agree entry rows → (not (eqb entry.rows 1) || eqb entry.earliest entry.latest) ≡ true
alone entry rows are =
    elim (eqb entry.rows 1) as (λ t. eqb entry.rows 1 ≡ t → (not t || eqb entry.earliest entry.latest) ≡ true) [
      | true ↦ λ one. eq-eqb entry.earliest entry.latest (one_start rows entry.earliest entry.latest (are.count ∙ eqb-true entry.rows 1 one) are.earliest.0 are.latest.0)
      | false ↦ λ more. refl
    ] refl

-- with what agrees with rows, a stripe can agree
pub agreed_can : (entry : StripeInfo) (rows : List Row) → Agree entry rows → can_agree entry ≡ true
agreed_can entry rows are =
    and_from (leb entry.earliest entry.latest) (not (eqb entry.rows 1) || eqb entry.earliest entry.latest) (in_order entry rows are.earliest are.latest) (alone entry rows are)

-- ---- order

last_more : (x y : Row) (ys : List Row) → last_of (x ∷ y ∷ ys) ≡ last_of (y ∷ ys)
last_more x y ys = ap (slice_get (x ∷ y ∷ ys)) (index x y ys)
  where
    index : (x y : Row) (ys : List Row) → length (x ∷ y ∷ ys) - 1 ≡ suc (length (y ∷ ys) - 1)
    index x y ys = omega arith

-- rows that ascend, parted: the later ones come after the last of the first ones
pub parted : (k : ℕ) (rows : List Row) → ascend rows ≡ true → follow (last_of (take k rows)) (drop k rows) ≡ true
unfolding ascend
parted zero rows e = refl
parted (suc k) [] e = refl
parted (suc zero) (row ∷ []) e = refl
parted (suc zero) (row ∷ next ∷ rows) e = (and_parts (is_lt (block_order row next)) (ascend_after next rows) e).0
parted (suc (suc k)) (row ∷ []) e = refl
parted (suc (suc k)) (row ∷ next ∷ rows) e =
    ap (λ (o : Option Row). follow o (drop k rows)) (last_more row next (take k rows))
    ∙ parted (suc k) (next ∷ rows) (and_parts (is_lt (block_order row next)) (ascend_after next rows) e).1

pub joined : (xs ys : List Row) → ascend xs ≡ true → ascend ys ≡ true → follow (last_of xs) ys ≡ true → ascend (xs ++ ys) ≡ true
unfolding ascend
joined [] ys one two behind = two
joined (x ∷ []) [] one two behind = refl
joined (x ∷ []) (y ∷ ys) one two behind = and_from (is_lt (block_order x y)) (ascend_after y ys) behind two
joined (x ∷ y ∷ xs) ys one two behind =
    let both = and_parts (is_lt (block_order x y)) (ascend_after y xs) one in
    and_from (is_lt (block_order x y)) (ascend_after y (xs ++ ys)) both.0
    (joined (y ∷ xs) ys both.1 two (sym (ap (λ (o : Option Row). follow o ys) (last_more x y xs)) ∙ behind))

after_tail : (row : Row) (rows : List Row) → ascend_after row rows ≡ true → ascend rows ≡ true
unfolding ascend
after_tail row [] e = refl
after_tail row (next ∷ rows) e = (and_parts (is_lt (block_order row next)) (ascend_after next rows) e).1

pub later_ascend : (k : ℕ) (rows : List Row) → ascend rows ≡ true → ascend (drop k rows) ≡ true
unfolding ascend
later_ascend zero rows e = e
later_ascend (suc k) [] e = refl
later_ascend (suc k) (row ∷ rows) e = later_ascend k rows (after_tail row rows e)

-- the first of some rows is the first of all
pub follow_front : (last : Option Row) (k : ℕ) (rows : List Row) → follow last rows ≡ true → follow last (take k rows) ≡ true
follow_front None k rows e = refl
follow_front (Some last) zero rows e = refl
follow_front (Some last) (suc k) [] e = refl
follow_front (Some last) (suc k) (row ∷ rows) e = e

pub follow_more : (last : Option Row) (rows later : List Row) → 1 ≤ length rows → follow last rows ≡ true → follow last (rows ++ later) ≡ true
follow_more None rows later some e = refl
follow_more (Some last) [] later some e = absurd (omega (arith, some))
follow_more (Some last) (row ∷ rows) later some e = e
