-- Sorted lists: each element is no later one's follower. And the first of two lists' first elements.
use Rattle.std.proofs.Common.{◌≡◌, ◌⊎◌, inl, inr, ℕ, zero, suc, ◌+◌, ◌<◌, ◌≤◌, List, [], ◌∷◌, ◌++◌, Bool, true, false, cond, if◌then◌else◌, refl, sym, ◌∙◌, ap, ap₂, subst, arith, All, length, take, drop, slice_index_or, append-nil, append_assoc, length-append}
use Rattle.std.specs.Cmp.{IsStrictWeakOrder}
use Rattle.std.specs.List.{AllByRecursion, count_by}
use Rattle.std.specs.List.Sorted.{IsPermutation, IsSortedBy}
use Rattle.std.proofs.lemmas.Bool.{cases_Bool, cases_lt, cond-false, cond-true, true≢false}
use Rattle.std.proofs.lemmas.List.{get_or-drop, get_or-take, get_or_default, length-drop, length-take, take-append-drop, take-append-le, take_all}
use Rattle.std.proofs.lemmas.List.Elements.{All-append, All-from_recursion, recursion_from_All}
use Rattle.std.proofs.lemmas.List.Sorted.{All-permutation, IsPermutation-append, IsPermutation-append_comm, IsPermutation-append_left, IsPermutation-append_right, IsPermutation-cons, IsPermutation-middle, IsPermutation-refl, IsPermutation-sym, IsPermutation-trans, length_permutation, sorted_far, sum_by-IsPermutation}
use Rattle.std.proofs.lemmas.List.Sums.{count_by-le-length, sum_by-append, sum_by-cons, sum_by-take-drop}

-- y doesn't go before x
abbrev pub NotBefore : {A : Type 0} → (A → A → Bool) → A → A → Type 0
NotBefore before x y = before y x ≡ false

-- each element stands so to all after it
abbrev pub Pairs : {A : Type 0} → (A → A → Type 0) → List A → Type 0
Pairs R [] = Unit {0}
Pairs R (x ∷ xs) = AllByRecursion (R x) xs × Pairs R xs

pub sorted_pairs : {A : Type 0} (before : A → A → Bool) (xs : List A) →
    ((i j : ℕ) (d : A) → i < j → j < length xs → before (slice_index_or xs j d) (slice_index_or xs i d) ≡ false) → Pairs (NotBefore before) xs
sorted_pairs before [] far = tt
sorted_pairs before (x ∷ xs) far = (
  recursion_from_All (NotBefore before x) xs (λ k d l. far 0 (suc k) d (omega arith) (omega arith)),
  sorted_pairs before xs (λ i j d l h. far (suc i) (suc j) d (omega arith) (omega arith)),
)

pub pairs_at : {A : Type 0} (R : A → A → Type 0) (xs : List A) → Pairs R xs → (i j : ℕ) (d : A) → i < j → j < length xs → R (slice_index_or xs i d) (slice_index_or xs j d)
pairs_at R [] pairs i j d l h = absurd (omega arith)
pairs_at R (x ∷ xs) pairs i zero d l h = absurd (omega arith)
pairs_at R (x ∷ xs) pairs zero (suc j) d l h = All-from_recursion (R x) xs pairs.0 j d (omega arith)
pairs_at R (x ∷ xs) pairs (suc i) (suc j) d l h = pairs_at R xs pairs.1 i j d (omega arith) (omega arith)

-- ---- sorting by insertion, to have a sorted list

all_more : {A : Type 0} (P : A → Type 0) (xs ys : List A) → AllByRecursion P xs → AllByRecursion P ys → AllByRecursion P (xs ++ ys)
all_more P [] ys one two = two
all_more P (x ∷ xs) ys one two = (one.0, all_more P xs ys one.1 two)

pub pairs_append : {A : Type 0} (R : A → A → Type 0) (xs ys : List A) → Pairs R xs → Pairs R ys → AllByRecursion (λ x. AllByRecursion (R x) ys) xs → Pairs R (xs ++ ys)
pairs_append R [] ys one two across = two
pairs_append R (x ∷ xs) ys one two across = (all_more (R x) xs ys one.0 across.0, pairs_append R xs ys one.1 two across.1)

abbrev insert : {A : Type 0} → (A → A → Bool) → A → List A → List A
insert before x [] = x ∷ []
insert before x (y ∷ ys) = if before y x then y ∷ insert before x ys else x ∷ y ∷ ys

insert_all : {A : Type 0} (before : A → A → Bool) (P : A → Type 0) (x : A) (ys : List A) → P x → AllByRecursion P ys → AllByRecursion P (insert before x ys)
insert_all before P x [] one all = (one, tt)
insert_all before P x (y ∷ ys) one all = elim (before y x) as (λ b. AllByRecursion P (if b then y ∷ insert before x ys else x ∷ y ∷ ys)) [
  | true ↦ (all.0, insert_all before P x ys one all.1)
  | false ↦ (one, all)
]

behind_all : {A : Type 0} (before : A → A → Bool) → IsStrictWeakOrder before → (x y : A) (ys : List A) → NotBefore before x y → AllByRecursion (NotBefore before y) ys →
    AllByRecursion (NotBefore before x) ys
behind_all before order x y [] later all = tt
behind_all before order x y (z ∷ zs) later all = (order.chain z y x all.0 later, behind_all before order x y zs later all.1)

insert_pairs : {A : Type 0} (before : A → A → Bool) → IsStrictWeakOrder before → (x : A) (ys : List A) → Pairs (NotBefore before) ys → Pairs (NotBefore before) (insert before x ys)
insert_pairs before order x [] pairs = (tt, tt)
insert_pairs {A} before order x (y ∷ ys) pairs =
    elim (before y x) as (λ b. before y x ≡ b → Pairs (NotBefore before) (if b then y ∷ insert before x ys else x ∷ y ∷ ys)) [
      | true ↦ λ e. (insert_all before (NotBefore before y) x ys (order.one_way y x e) pairs.0, insert_pairs before order x ys pairs.1)
      | false ↦ λ e. ((e, behind_all before order x y ys e pairs.0), pairs)
    ] refl

insert_same : {A : Type 0} (before : A → A → Bool) (x : A) (ys : List A) → IsPermutation (x ∷ ys) (insert before x ys)
insert_same before x [] = IsPermutation-refl (x ∷ [])
insert_same before x (y ∷ ys) = elim (before y x) as (λ b. IsPermutation (x ∷ y ∷ ys) (if b then y ∷ insert before x ys else x ∷ y ∷ ys)) [
  | true ↦ IsPermutation-trans (x ∷ y ∷ ys) (y ∷ x ∷ ys) (y ∷ insert before x ys)
      (IsPermutation-sym (y ∷ x ∷ ys) (x ∷ y ∷ ys) (IsPermutation-middle (y ∷ []) x ys)) (IsPermutation-cons y (x ∷ ys) (insert before x ys) (insert_same before x ys))
  | false ↦ IsPermutation-refl (x ∷ y ∷ ys)
]

-- A list with the same elements that is sorted.
pub record Sorted {A : Type 0} (before : A → A → Bool) (xs : List A) : Type 0 where
  pub all : List A
  pub same : IsPermutation xs all
  pub pairs : Pairs (NotBefore before) all

pub sorted_of : {A : Type 0} (before : A → A → Bool) → IsStrictWeakOrder before → (xs : List A) → Sorted before xs
sorted_of before order [] = record { all = []; same = IsPermutation-refl []; pairs = tt }
sorted_of before order (x ∷ xs) =
    let rest = sorted_of before order xs in
    record {
      all = insert before x rest.all;
      same = IsPermutation-trans (x ∷ xs) (x ∷ rest.all) (insert before x rest.all) (IsPermutation-cons x xs rest.all rest.same) (insert_same before x rest.all);
      pairs = insert_pairs before order x rest.all rest.pairs;
    }

-- ---- counts

count_none : {A : Type 0} (p : A → Bool) (xs : List A) → AllByRecursion (λ x. p x ≡ false) xs → count_by p xs ≡ 0
count_none p [] all = refl
count_none p (x ∷ xs) all =
    sum_by-cons (λ y. cond (p y) 1 0) x xs ∙ ap₂ (λ (a b : ℕ). a + b) (cond-false (p x) 1 0 all.0) (count_none p xs all.1)

count_each : {A : Type 0} (p : A → Bool) (xs : List A) → AllByRecursion (λ x. p x ≡ true) xs → count_by p xs ≡ length xs
count_each p [] all = refl
count_each p (x ∷ xs) all =
    let total : count_by p (x ∷ xs) ≡ 1 + length xs =
    sum_by-cons (λ y. cond (p y) 1 0) x xs ∙ ap₂ (λ (a b : ℕ). a + b) (cond-true (p x) 1 0 all.0) (count_each p xs all.1) in
    omega arith

-- Of a sorted list no more than the first i elements go before the one at i.
few_before : {A : Type 0} (before : A → A → Bool) → IsStrictWeakOrder before → (xs : List A) → IsSortedBy before xs → (i : ℕ) (d : A) → i < length xs →
    count_by (λ u. before u (slice_index_or xs i d)) xs ≤ i
few_before {A} before order xs sorted i d l =
    let p = λ (u : A). before u (slice_index_or xs i d) in
    let none : count_by p (drop i xs) ≡ 0 = count_none p (drop i xs) (recursion_from_All (λ u. p u ≡ false) (drop i xs) (λ k e h.
    subst (λ u. p u ≡ false) (sym (get_or-drop i xs k e)) (later k e (omega (arith, length-drop i xs))))) in
    let parts : count_by p (take i xs) + count_by p (drop i xs) ≡ count_by p xs = sum_by-take-drop (λ u. cond (p u) 1 0) xs i in
    let few : count_by p (take i xs) ≤ length (take i xs) = count_by-le-length p (take i xs) in
    omega (arith, length-take i xs)
  where
    later : (k : ℕ) (e : A) → i + k < length xs → before (slice_index_or xs (i + k) e) (slice_index_or xs i d) ≡ false
    later k e h =
        subst (λ u. before (slice_index_or xs (i + k) e) u ≡ false) (get_or_default xs i e d l) (sorted_far before order xs sorted i (i + k) e (omega arith) h)

-- ---- the first of the first

-- A list's first n elements in its order, and what stands after them.
pub record FirstBy {A : Type 0} (before : A → A → Bool) (xs : List A) (n : ℕ) (first : List A) : Type 0 where
  pub all : List A
  pub same : IsPermutation xs all
  pub sorted : IsSortedBy before all
  pub first_are : first ≡ take n all

-- What isn't after w, which goes before z, goes before z.
through : {A : Type 0} (before : A → A → Bool) → IsStrictWeakOrder before → (u w z : A) → before w z ≡ true → before w u ≡ false → before u z ≡ true
through before order u w z goes later = picked (cases_Bool (before u z))
  where
    picked : (before u z ≡ true) ⊎ (before u z ≡ false) → before u z ≡ true
    picked (inl e) = e
    picked (inr e) = absurd (true≢false (sym goes ∙ order.chain w u z later e))

-- Where a part has more than n elements, none of those after its first n goes before one of the first n of the firsts: there
-- would be n of the part alone that go before that one.
behind_part : {A : Type 0} (before : A → A → Bool) → IsStrictWeakOrder before → (n : ℕ) (part joined first : List A) → IsSortedBy before part → IsSortedBy before joined →
    ((p : A → Bool) → count_by p (take n part) ≤ count_by p joined) → first ≡ take n joined →
    (i : ℕ) (d : A) → i < length first → (j : ℕ) (e : A) → j < length (drop n part) → NotBefore before (slice_index_or first i d) (slice_index_or (drop n part) j e)
behind_part {A} before order n part joined first sorted sorted_joined more is i d l j e h =
    let in_take : i < length (take n joined) = subst (λ xs. i < length xs) is l in
    let low : i < n = omega (arith, length-take n joined) in
    let there : i < length joined = omega (arith, length-take n joined) in
    let z_is : slice_index_or first i d ≡ slice_index_or joined i d = ap (λ xs. slice_index_or xs i d) is ∙ get_or-take n joined i d low in
    subst (λ z. NotBefore before z (slice_index_or (drop n part) j e)) (sym z_is) (decided (cases_Bool (before (slice_index_or (drop n part) j e) (slice_index_or joined i d))) low there)
  where
    decided : (before (slice_index_or (drop n part) j e) (slice_index_or joined i d) ≡ true) ⊎ (before (slice_index_or (drop n part) j e) (slice_index_or joined i d) ≡ false) →
        i < n → i < length joined → before (slice_index_or (drop n part) j e) (slice_index_or joined i d) ≡ false
    decided (inr later) low there = later
    decided (inl first_goes) low there =
        let p = λ (u : A). before u (slice_index_or joined i d) in
        let long : n + j < length part = omega (arith, length-drop n part) in
        let all_go : count_by p (take n part) ≡ length (take n part) = count_each p (take n part) (recursion_from_All (λ u. p u ≡ true) (take n part) (λ k f g. goes k f (omega (arith, length-take n part)))) in
        let few = few_before before order joined sorted_joined i d there in
        let m = more p in
        absurd (omega (arith, length-take n part))
      where
        w_is : slice_index_or (drop n part) j e ≡ slice_index_or part (n + j) e
        w_is = get_or-drop n part j e

        far : (k : ℕ) (f : A) → k < n → before (slice_index_or part (n + j) e) (slice_index_or part k f) ≡ false
        far k f g =
            let long : n + j < length part = omega (arith, length-drop n part) in
            subst (λ u. before u (slice_index_or part k f) ≡ false) (get_or_default part (n + j) f e long) (sorted_far before order part sorted k (n + j) f (omega arith) long)

        goes : (k : ℕ) (f : A) → k < n → before (slice_index_or (take n part) k f) (slice_index_or joined i d) ≡ true
        goes k f g = through before order (slice_index_or (take n part) k f) (slice_index_or (drop n part) j e) (slice_index_or joined i d) first_goes
            (subst (λ u. before (slice_index_or (drop n part) j e) u ≡ false) (sym (get_or-take n part k f g))
            (subst (λ u. before u (slice_index_or part k f) ≡ false) (sym w_is) (far k f g)))

shuffled : {A : Type 0} (a ra b rb : List A) → IsPermutation ((a ++ ra) ++ (b ++ rb)) ((a ++ b) ++ (ra ++ rb))
shuffled a ra b rb =
    subst (λ l. IsPermutation l ((a ++ b) ++ (ra ++ rb))) (sym (append_assoc a ra (b ++ rb)))
    (subst (λ l. IsPermutation (a ++ (ra ++ (b ++ rb))) l) (sym (append_assoc a b (ra ++ rb)))
    (IsPermutation-append_right a (ra ++ (b ++ rb)) (b ++ (ra ++ rb))
    (subst (λ l. IsPermutation l (b ++ (ra ++ rb))) (append_assoc ra b rb)
    (subst (λ l. IsPermutation ((ra ++ b) ++ rb) l) (append_assoc b ra rb)
    (IsPermutation-append_left rb (ra ++ b) (b ++ ra) (IsPermutation-append_comm ra b))))))

-- All elements are the first of the firsts, and those after them.
parted : {A : Type 0} (before : A → A → Bool) (n : ℕ) (xs ys a b first : List A) (left : FirstBy before xs n a) (right : FirstBy before ys n b) (joined : FirstBy before (a ++ b) n first) →
    IsPermutation (xs ++ ys) (first ++ (drop n joined.all ++ (drop n left.all ++ drop n right.all)))
parted {A} before n xs ys a b first left right joined =
    let ra = drop n left.all in
    let rb = drop n right.all in
    let rc = drop n joined.all in
    let whole : left.all ++ right.all ≡ (a ++ ra) ++ (b ++ rb) = ap₂ (λ (l m : List A). l ++ m) (halves left.all a left.first_are) (halves right.all b right.first_are) in
    let split : joined.all ++ (ra ++ rb) ≡ first ++ (rc ++ (ra ++ rb)) = ap (λ l. l ++ (ra ++ rb)) (halves joined.all first joined.first_are) ∙ append_assoc first rc (ra ++ rb) in
    IsPermutation-trans (xs ++ ys) (left.all ++ right.all) (first ++ (rc ++ (ra ++ rb))) (IsPermutation-append xs left.all ys right.all left.same right.same)
    (subst (λ l. IsPermutation l (first ++ (rc ++ (ra ++ rb)))) (sym whole)
    (IsPermutation-trans ((a ++ ra) ++ (b ++ rb)) ((a ++ b) ++ (ra ++ rb)) (first ++ (rc ++ (ra ++ rb))) (shuffled a ra b rb)
    (subst (λ l. IsPermutation ((a ++ b) ++ (ra ++ rb)) l) split (IsPermutation-append_left (ra ++ rb) (a ++ b) joined.all joined.same))))
  where
    halves : (all front : List A) → front ≡ take n all → all ≡ front ++ drop n all
    halves all front is = sym (take-append-drop n all) ∙ ap (λ l. l ++ drop n all) (sym is)

-- None of those after them goes before one of the first.
none_goes : {A : Type 0} (before : A → A → Bool) → IsStrictWeakOrder before → (n : ℕ) (xs ys a b first : List A) (left : FirstBy before xs n a) (right : FirstBy before ys n b)
    (joined : FirstBy before (a ++ b) n first) → (i : ℕ) (d : A) → i < length first →
    All (NotBefore before (slice_index_or first i d)) (drop n joined.all ++ (drop n left.all ++ drop n right.all))
none_goes {A} before order n xs ys a b first left right joined i d l =
    let P = NotBefore before (slice_index_or first i d) in
    All-append P (drop n joined.all) (drop n left.all ++ drop n right.all) (λ j e h. own j e h)
    (All-append P (drop n left.all) (drop n right.all)
    (λ j e h. behind_part before order n left.all joined.all first left.sorted joined.sorted counts_left joined.first_are i d l j e h)
    (λ j e h. behind_part before order n right.all joined.all first right.sorted joined.sorted counts_right joined.first_are i d l j e h))
  where
    count_both : (p : A → Bool) → count_by p joined.all ≡ count_by p a + count_by p b
    count_both p = sum_by-IsPermutation (λ u. cond (p u) 1 0) (a ++ b) joined.all joined.same ∙ sum_by-append (λ u. cond (p u) 1 0) a b

    counts_left : (p : A → Bool) → count_by p (take n left.all) ≤ count_by p joined.all
    counts_left p = let e = count_both p in let f = ap (count_by p) left.first_are in omega arith

    counts_right : (p : A → Bool) → count_by p (take n right.all) ≤ count_by p joined.all
    counts_right p = let e = count_both p in let f = ap (count_by p) right.first_are in omega arith

    own : (j : ℕ) (e : A) → j < length (drop n joined.all) → before (slice_index_or (drop n joined.all) j e) (slice_index_or first i d) ≡ false
    own j e h =
        let low : i < length (take n joined.all) = subst (λ zs. i < length zs) joined.first_are l in
        let below : i < n = omega (arith, length-take n joined.all) in
        let there : n + j < length joined.all = omega (arith, length-drop n joined.all) in
        let z_is : slice_index_or first i d ≡ slice_index_or joined.all i d = ap (λ zs. slice_index_or zs i d) joined.first_are ∙ get_or-take n joined.all i d below in
        let far : before (slice_index_or joined.all (n + j) d) (slice_index_or joined.all i d) ≡ false = sorted_far before order joined.all joined.sorted i (n + j) d (omega arith) there in
        let w_is : slice_index_or joined.all (n + j) d ≡ slice_index_or (drop n joined.all) j e = get_or_default joined.all (n + j) d e there ∙ sym (get_or-drop n joined.all j e) in
        subst (λ z. before (slice_index_or (drop n joined.all) j e) z ≡ false) (sym z_is) (subst (λ w. before w (slice_index_or joined.all i d) ≡ false) w_is far)

-- Where the firsts are fewer than n nothing stands after them.
nothing_behind : {A : Type 0} (before : A → A → Bool) (n : ℕ) (xs ys a b first : List A) (left : FirstBy before xs n a) (right : FirstBy before ys n b) (joined : FirstBy before (a ++ b) n first) →
    length first < n → length (drop n joined.all ++ (drop n left.all ++ drop n right.all)) ≡ 0
nothing_behind before n xs ys a b first left right joined few =
    let c = ap length joined.first_are in
    let c_taken = length-take n joined.all in
    let l = ap length left.first_are in
    let l_taken = length-take n left.all in
    let r = ap length right.first_are in
    let r_taken = length-take n right.all in
    let both = length_permutation (a ++ b) joined.all joined.same in
    let sum = length-append a b in
    let one = length-append (drop n joined.all) (drop n left.all ++ drop n right.all) in
    let two = length-append (drop n left.all) (drop n right.all) in
    omega (arith, length-drop n joined.all, length-drop n left.all, length-drop n right.all)

first_taken : {A : Type 0} (n : ℕ) (first behind : List A) → length first ≤ n → (length first < n → length behind ≡ 0) → first ≡ take n (first ++ behind)
first_taken {A} n first behind most none = decided (cases_lt (length first) n)
  where
    no_more : (l : List A) → length l ≡ 0 → l ≡ []
    no_more [] e = refl
    no_more (x ∷ xs) e = absurd (omega arith)

    decided : (length first < n) ⊎ (n ≤ length first) → first ≡ take n (first ++ behind)
    decided (inl few) =
        let nil : behind ≡ [] = no_more behind (none few) in
        sym (take_all n first most) ∙ ap (take n) (sym (append-nil first) ∙ ap (λ l. first ++ l) (sym nil))
    decided (inr full) = sym (take-append-le n first behind full ∙ take_all n first most)

-- The first of two lists' firsts are the first of both lists.
pub first_of_firsts : {A : Type 0} (before : A → A → Bool) → IsStrictWeakOrder before → (n : ℕ) (xs ys a b first : List A) → FirstBy before xs n a → FirstBy before ys n b →
    FirstBy before (a ++ b) n first → FirstBy before (xs ++ ys) n first
first_of_firsts {A} before order n xs ys a b first left right joined =
    let rest = drop n joined.all ++ (drop n left.all ++ drop n right.all) in
    let behind = sorted_of before order rest in
    let pairs : Pairs (NotBefore before) (first ++ behind.all) = pairs_append (NotBefore before) first behind.all first_pairs behind.pairs
    (recursion_from_All (λ z. AllByRecursion (NotBefore before z) behind.all) first (λ i d l.
    recursion_from_All (NotBefore before (slice_index_or first i d)) behind.all
    (All-permutation (NotBefore before (slice_index_or first i d)) rest behind.all behind.same (none_goes before order n xs ys a b first left right joined i d l)))) in
    record {
      all = first ++ behind.all;
      same = IsPermutation-trans (xs ++ ys) (first ++ rest) (first ++ behind.all) (parted before n xs ys a b first left right joined)
          (IsPermutation-append_right first rest behind.all behind.same);
      sorted = λ k d low high. pairs_at (NotBefore before) (first ++ behind.all) pairs k (k + 1) d (omega arith) high;
      first_are = first_taken n first behind.all most
          (λ few. length_permutation rest behind.all behind.same ∙ nothing_behind before n xs ys a b first left right joined few);
    }
  where
    most : length first ≤ n
    most = let e = ap length joined.first_are in omega (arith, length-take n joined.all)

    within : (j : ℕ) → j < length first → (j < n) × (j < length joined.all)
    within j h = let e = ap length joined.first_are in let t = length-take n joined.all in (omega arith, omega arith)

    at : (j : ℕ) (d : A) → j < length first → slice_index_or first j d ≡ slice_index_or joined.all j d
    at j d h = ap (λ zs. slice_index_or zs j d) joined.first_are ∙ get_or-take n joined.all j d (within j h).0

    first_pairs : Pairs (NotBefore before) first
    first_pairs = sorted_pairs before first (λ i j d l h.
        subst (λ u. before u (slice_index_or first i d) ≡ false) (sym (at j d h))
        (subst (λ u. before (slice_index_or joined.all j d) u ≡ false) (sym (at i d (omega arith)))
        (sorted_far before order joined.all joined.sorted i j d (omega arith) (within j h).1)))
