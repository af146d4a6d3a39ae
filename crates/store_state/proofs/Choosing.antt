-- What is chosen by positions is the machine's choice.
use Rattle.std.proofs.Common.{rules, add-one, append-nil, drop-cons, length-drop, slice_index_or, ◌≡◌, ℕ, ◌+◌, ◌-◌, ◌<◌, ◌≤◌, ◌==◌, ◌&&◌, zero, suc, min, nat_le, List, [], ◌∷◌, ◌++◌, Bool, true, false, Option, None, Some, IfSome, IsSome, refl, sym, ◌∙◌, ap, subst, arith, length, map, take, drop, if◌then◌else◌}
use Rattle.block_list.specs.declared.body.BlockRef.{BlockRef}
use Rattle.store_model.specs.State.{Block}
use Rattle.store_model.specs.Choice.{most_rows, fits, joined, begun_with, chosen_at, or_else, chosen_from, choice}
use Rattle.store_state.specs.Listed.{ref_of, picked, Ascend}
use Rattle.store_state.specs.Pairing.{smallest, has_partner, pair_at, joined_at, with_partners, from_pair}

abbrev refs_of : List Block → List BlockRef
refs_of blocks = map ref_of blocks

le_of : (a b : ℕ) → nat_le a b ≡ true → a ≤ b
le_of a b h = search rules

lt_of : (a b : ℕ) → nat_le a b ≡ false → b < a
lt_of a b h = search rules

le_test : (a b : ℕ) → a ≤ b → nat_le a b ≡ true
le_test a b h = search rules

lt_test : (a b : ℕ) → b < a → nat_le a b ≡ false
lt_test a b h = search rules

-- ---- whether something is joined

-- Where the smallest block of the level has room, something is joined.
joined_some : (level room n : ℕ) (b : Block) (bs others : List Block) → room ≤ most_rows → smallest level (refs_of bs) ≤ room →
    begun_with b (joined level room (suc n) bs) others ≡ b ∷ joined level room (suc n) bs
joined_some level room n b [] others within h = absurd (omega (arith, within, h))
joined_some level room n b (x ∷ xs) others within h = by_test (x.level == level) (nat_le x.size room) refl h (joined_some level room n b xs others within)
  where
    by_test : (t s : Bool) → nat_le x.size room ≡ s → (if t then min (smallest level (refs_of xs)) x.size else smallest level (refs_of xs)) ≤ room →
        (smallest level (refs_of xs) ≤ room → begun_with b (joined level room (suc n) xs) others ≡ b ∷ joined level room (suc n) xs) →
        begun_with b (if t && s then x ∷ joined level (room - x.size) n xs else joined level room (suc n) xs) others
        ≡ b ∷ (if t && s then x ∷ joined level (room - x.size) n xs else joined level room (suc n) xs)
    by_test true true e h ih = refl
    by_test true false e h ih = ih (omega (arith, h, lt_of x.size room e))
    by_test false s e h ih = ih h

-- Where it has none, nothing is.
joined_none : (level room n : ℕ) (bs : List Block) → room < smallest level (refs_of bs) → joined level room (suc n) bs ≡ []
joined_none level room n [] h = refl
joined_none level room n (x ∷ xs) h = by_test (x.level == level) (nat_le x.size room) refl h (joined_none level room n xs)
  where
    by_test : (t s : Bool) → nat_le x.size room ≡ s → room < (if t then min (smallest level (refs_of xs)) x.size else smallest level (refs_of xs)) →
        (room < smallest level (refs_of xs) → joined level room (suc n) xs ≡ []) →
        (if t && s then x ∷ joined level (room - x.size) n xs else joined level room (suc n) xs) ≡ []
    by_test true true e h ih = absurd (omega (arith, h, le_of x.size room e))
    by_test true false e h ih = ih (omega (arith, h))
    by_test false s e h ih = ih h

-- ---- positions

next_dropped : (k : ℕ) (all : List Block) (b : Block) (bs : List Block) → drop k all ≡ b ∷ bs → drop (k + 1) all ≡ bs
next_dropped zero [] b bs e = cc
next_dropped zero (x ∷ xs) b bs e = cc
next_dropped (suc k) [] b bs e = cc
next_dropped (suc k) (x ∷ xs) b bs e = ap (λ n. drop n (x ∷ xs)) (same k) ∙ next_dropped k xs b bs e
  where
    same : (k : ℕ) → suc k + 1 ≡ suc (k + 1)
    same k = omega arith

refs_dropped : (k : ℕ) (all : List Block) → drop k (refs_of all) ≡ refs_of (drop k all)
refs_dropped zero all = refl
refs_dropped (suc k) [] = refl
refs_dropped (suc k) (x ∷ xs) = refs_dropped k xs

one_picked : (k : ℕ) (all : List Block) (b : Block) (bs : List Block) (more : List ℕ) (rest : List Block) → drop k all ≡ b ∷ bs → picked more all ≡ rest →
    picked (k ∷ more) all ≡ b ∷ rest
one_picked k all b bs more rest e h = ap (λ xs. take 1 xs ++ picked more all) e ∙ ap (λ xs. b ∷ xs) h

joined_picked : (level room n k : ℕ) (all bs : List Block) → drop k all ≡ bs →
    picked (joined_at level room n k (refs_of bs)) all ≡ joined level room n bs
joined_picked level room zero k all bs e = refl
joined_picked level room (suc n) k all [] e = refl
joined_picked level room (suc n) k all (x ∷ xs) e = by_test (fits level room x)
    (one_picked k all x xs (joined_at level (room - x.size) n (k + 1) (refs_of xs)) (joined level (room - x.size) n xs) e
    (joined_picked level (room - x.size) n (k + 1) all xs (next_dropped k all x xs e)))
    (joined_picked level room (suc n) (k + 1) all xs (next_dropped k all x xs e))
  where
    by_test : (t : Bool) → picked (k ∷ joined_at level (room - x.size) n (k + 1) (refs_of xs)) all ≡ x ∷ joined level (room - x.size) n xs →
        picked (joined_at level room (suc n) (k + 1) (refs_of xs)) all ≡ joined level room (suc n) xs →
        picked (if t then k ∷ joined_at level (room - x.size) n (k + 1) (refs_of xs) else joined_at level room (suc n) (k + 1) (refs_of xs)) all
        ≡ (if t then x ∷ joined level (room - x.size) n xs else joined level room (suc n) xs)
    by_test true h g = h
    by_test false h g = g

-- ---- one level

-- What is chosen at a level, and that a choice there ends the search.
pub record IsAtLevel (level : ℕ) (positions : List ℕ) (all bs : List Block) : Type 0 where
  pub same : picked positions all ≡ chosen_at level bs
  pub ends : 1 ≤ length positions → (others : List Block) → or_else (chosen_at level bs) others ≡ chosen_at level bs
  pub some : 1 ≤ length positions → 1 ≤ length (chosen_at level bs)

-- the choice where the first block has a partner, and where it has none
begun : (level : ℕ) (b : Block) (bs : List Block) → has_partner level (ref_of b) (refs_of bs) ≡ true →
    chosen_at level (b ∷ bs) ≡ b ∷ joined level (most_rows - b.size) 3 bs
begun level b bs h = by_test (b.level == level) h
  where
    by_test : (t : Bool) → (t && nat_le (b.size + smallest level (refs_of bs)) most_rows) ≡ true →
        (if t && nat_le b.size most_rows then begun_with b (joined level (most_rows - b.size) 3 bs) (chosen_at level bs) else chosen_at level bs)
        ≡ b ∷ joined level (most_rows - b.size) 3 bs
    by_test false h = cc
    by_test true h =
        let room : b.size + smallest level (refs_of bs) ≤ most_rows = le_of (b.size + smallest level (refs_of bs)) most_rows h in
        ap (λ t. if t then begun_with b (joined level (most_rows - b.size) 3 bs) (chosen_at level bs) else chosen_at level bs)
        (le_test b.size most_rows (omega (arith, room)))
        ∙ joined_some level (most_rows - b.size) 2 b bs (chosen_at level bs) (omega arith) (omega (arith, room))

not_begun : (level : ℕ) (b : Block) (bs : List Block) → has_partner level (ref_of b) (refs_of bs) ≡ false → chosen_at level (b ∷ bs) ≡ chosen_at level bs
not_begun level b bs h = by_test (b.level == level) (nat_le b.size most_rows) refl h
  where
    by_test : (t s : Bool) → nat_le b.size most_rows ≡ s → (t && nat_le (b.size + smallest level (refs_of bs)) most_rows) ≡ false →
        (if t && s then begun_with b (joined level (most_rows - b.size) 3 bs) (chosen_at level bs) else chosen_at level bs) ≡ chosen_at level bs
    by_test false s e h = refl
    by_test true false e h = refl
    by_test true true e h =
        let room : most_rows < b.size + smallest level (refs_of bs) = lt_of (b.size + smallest level (refs_of bs)) most_rows h in
        ap (λ xs. begun_with b xs (chosen_at level bs))
        (joined_none level (most_rows - b.size) 2 bs (omega (arith, room, le_of b.size most_rows e)))

pub at_level : (level k : ℕ) (all bs : List Block) → drop k all ≡ bs → IsAtLevel level (from_pair level (pair_at level k (refs_of bs)) (refs_of all)) all bs
at_level level k all [] e = record { same = refl; ends = λ h others. absurd (omega (arith, h)); some = λ h. absurd (omega (arith, h)) }
at_level level k all (b ∷ bs) e = by_test (has_partner level (ref_of b) (refs_of bs)) refl (at_level level (k + 1) all bs (next_dropped k all b bs e))
  where
    here : from_pair level (Some k) (refs_of all) ≡ k ∷ joined_at level (most_rows - b.size) 3 (k + 1) (refs_of bs)
    here = ap (with_partners level k) (refs_dropped k all ∙ ap refs_of e)

    by_test : (t : Bool) → has_partner level (ref_of b) (refs_of bs) ≡ t →
        IsAtLevel level (from_pair level (pair_at level (k + 1) (refs_of bs)) (refs_of all)) all bs →
        IsAtLevel level (from_pair level (if t then Some k else pair_at level (k + 1) (refs_of bs)) (refs_of all)) all (b ∷ bs)
    by_test true h rest = record {
      same = ap (λ ps. picked ps all) here
          ∙ one_picked k all b bs (joined_at level (most_rows - b.size) 3 (k + 1) (refs_of bs)) (joined level (most_rows - b.size) 3 bs) e
          (joined_picked level (most_rows - b.size) 3 (k + 1) all bs (next_dropped k all b bs e))
          ∙ sym (begun level b bs h);
      ends = λ _ others. ap (λ xs. or_else xs others) (begun level b bs h) ∙ sym (begun level b bs h);
      some = λ _. subst (λ xs. 1 ≤ length xs) (sym (begun level b bs h)) (omega arith);
    }
    by_test false h rest = record {
      same = rest.same ∙ sym (not_begun level b bs h);
      ends = λ l others. ap (λ xs. or_else xs others) (not_begun level b bs h) ∙ rest.ends l others ∙ sym (not_begun level b bs h);
      some = λ l. subst (λ xs. 1 ≤ length xs) (sym (not_begun level b bs h)) (rest.some l);
    }

-- ---- all levels

pub next_level : (level n : ℕ) (bs : List Block) → level < n → chosen_from level (n - level) bs ≡ or_else (chosen_at level bs) (chosen_from (level + 1) (n - (level + 1)) bs)
next_level level n bs l = by_rest (n - level) (n - (level + 1)) (omega (arith, l))
  where
    same : (m k : ℕ) → suc m ≡ k + 1 → m ≡ k
    same m k e = omega (arith, e)

    by_rest : (m k : ℕ) → m ≡ k + 1 → chosen_from level m bs ≡ or_else (chosen_at level bs) (chosen_from (level + 1) k bs)
    by_rest zero k e = absurd (omega (arith, e))
    by_rest (suc m) k e = ap (λ n. or_else (chosen_at level bs) (chosen_from (level + 1) n bs)) (same m k e)

-- a pair stands in the list
pub pair_within : (level k : ℕ) (rs : List BlockRef) → IfSome (pair_at level k rs) (λ at. at < k + length rs)
pair_within level k [] = tt
pair_within level k (r ∷ rs) = by_test (has_partner level r rs) (pair_within level (k + 1) rs)
  where
    within : (o : Option ℕ) → IfSome o (λ at. at < k + 1 + length rs) → IfSome o (λ at. at < k + suc (length rs))
    within None h = tt
    within (Some at) h = omega (arith, h)

    by_test : (t : Bool) → IfSome (pair_at level (k + 1) rs) (λ at. at < k + 1 + length rs) →
        IfSome (if t then Some k else pair_at level (k + 1) rs) (λ at. at < k + suc (length rs))
    by_test true h = omega arith
    by_test false h = within (pair_at level (k + 1) rs) h

-- ---- one block more

pub passed_over : (level room left at : ℕ) (b : BlockRef) (rest : List BlockRef) → ((b.level == level) && nat_le b.rows room) ≡ false →
    joined_at level room left (at + 1) rest ≡ joined_at level room left at (b ∷ rest)
passed_over level room zero at b rest h = refl
passed_over level room (suc n) at b rest h =
    ap (λ t. if t then at ∷ joined_at level (room - b.rows) n (at + 1) rest else joined_at level room (suc n) (at + 1) rest) (sym h)

pub none_left : (level room left at : ℕ) (b : BlockRef) (rest : List BlockRef) → left ≡ 0 → joined_at level room left (at + 1) rest ≡ joined_at level room left at (b ∷ rest)
none_left level room zero at b rest h = refl
none_left level room (suc n) at b rest h = absurd (omega (arith, h))

pub taken_on : (level room left n at : ℕ) (b : BlockRef) (rest : List BlockRef) → left ≡ n + 1 → ((b.level == level) && nat_le b.rows room) ≡ true →
    at ∷ joined_at level (room - b.rows) n (at + 1) rest ≡ joined_at level room left at (b ∷ rest)
taken_on level room zero n at b rest e h = absurd (omega (arith, e))
taken_on level room (suc m) n at b rest e h =
    ap (λ k. at ∷ joined_at level (room - b.rows) k (at + 1) rest) (same m n e)
    ∙ ap (λ t. if t then at ∷ joined_at level (room - b.rows) m (at + 1) rest else joined_at level room (suc m) (at + 1) rest) (sym h)
  where
    same : (m n : ℕ) → suc m ≡ n + 1 → n ≡ m
    same m n e = omega (arith, e)

pub joined_end : (level room left at : ℕ) → joined_at level room left at [] ≡ []
joined_end level room zero at = refl
joined_end level room (suc n) at = refl

-- ---- walks by index

pub cons_at : {X : Type 0} (xs : List X) (i : ℕ) (d : X) → i < length xs → drop i xs ≡ slice_index_or xs i d ∷ drop (i + 1) xs
cons_at xs i d l = drop-cons xs i d l ∙ ap (λ k. slice_index_or xs i d ∷ drop k xs) (sym (add-one i))

pub none_behind : {X : Type 0} (xs : List X) (i : ℕ) → length xs ≤ i → drop i xs ≡ []
none_behind [] zero l = refl
none_behind [] (suc i) l = refl
none_behind (x ∷ xs) zero l = absurd (omega (arith, l))
none_behind (x ∷ xs) (suc i) l = none_behind xs i (omega (arith, l))

-- ---- the search over levels

abbrev AtLevel : ℕ → List BlockRef → List ℕ → Type 0
AtLevel level refs chosen = chosen ≡ from_pair level (pair_at level 0 refs) refs

found_at : (level : ℕ) (refs : List BlockRef) (chosen : List ℕ) (listed : List Block) → map ref_of listed ≡ refs → AtLevel level refs chosen →
    IsAtLevel level chosen listed listed
found_at level refs chosen listed e h = subst (λ ps. IsAtLevel level ps listed listed)
    (ap (λ rs. from_pair level (pair_at level 0 rs) rs) e ∙ sym h) (at_level level 0 listed listed refl)

pub level_found : (level : ℕ) (refs : List BlockRef) (chosen : List ℕ) (listed : List Block) → map ref_of listed ≡ refs → chosen ≡ from_pair level (pair_at level 0 refs) refs →
    level < 63 → 1 ≤ length chosen → choice listed ≡ chosen_from level (63 - level) listed → picked chosen listed ≡ choice listed
level_found level refs chosen listed e h l some so_far =
    let here = found_at level refs chosen listed e h in
    here.same ∙ sym (here.ends some (chosen_from (level + 1) (63 - (level + 1)) listed)) ∙ sym (next_level level 63 listed l) ∙ sym so_far

pub level_empty : (level : ℕ) (refs : List BlockRef) (chosen : List ℕ) (listed : List Block) → map ref_of listed ≡ refs → chosen ≡ from_pair level (pair_at level 0 refs) refs →
    level < 63 → length chosen ≡ 0 → choice listed ≡ chosen_from level (63 - level) listed → choice listed ≡ chosen_from (level + 1) (63 - (level + 1)) listed
level_empty level refs chosen listed e h l none so_far =
    so_far ∙ next_level level 63 listed l
    ∙ ap (λ xs. or_else xs (chosen_from (level + 1) (63 - (level + 1)) listed))
    (sym (found_at level refs chosen listed e h).same ∙ ap (λ ps. picked ps listed) (empty chosen none))
  where
    empty : (ps : List ℕ) → length ps ≡ 0 → ps ≡ []
    empty [] n = refl
    empty (p ∷ ps) n = absurd (omega (arith, n))

pub no_level : (level : ℕ) (listed : List Block) → level ≡ 63 → choice listed ≡ chosen_from level (63 - level) listed → [] ≡ choice listed
no_level level listed e so_far = let none : 63 - level ≡ 0 = omega (arith, e) in sym (so_far ∙ ap (λ n. chosen_from level n listed) none)

pub pair_in : (level at : ℕ) (rs : List BlockRef) (o : Option ℕ) → at ≡ 0 → o ≡ pair_at level at (drop at rs) → IfSome o (λ x. x < length rs)
pair_in level at rs o z e = subst (λ p. IfSome p (λ x. x < length rs)) (sym (e ∙ ap (λ k. pair_at level k (drop k rs)) z)) (plain (pair_at level 0 rs) (pair_within level 0 rs))
  where
    plain : (o : Option ℕ) → IfSome o (λ x. x < 0 + length rs) → IfSome o (λ x. x < length rs)
    plain None h = tt
    plain (Some x) h = omega (arith, h)

-- A walk over the whole list has joined all that is to be joined.
pub all_joined : (level start room : ℕ) (blocks : List BlockRef) (d : BlockRef) (chosen : List ℕ) (J : ℕ) (r left at : ℕ) → start < length blocks →
    room ≡ most_rows - (slice_index_or blocks start d).rows → length blocks ≤ at →
    chosen ++ joined_at J r left at (drop at blocks) ≡ (start ∷ []) ++ joined_at level room 3 (start + 1) (drop (start + 1) blocks) →
    chosen ≡ with_partners level start (drop start blocks)
all_joined level start room blocks d chosen J r left at l e past h =
    sym (append-nil chosen) ∙ ap (λ xs. chosen ++ xs) (sym (ap (joined_at J r left at) (none_behind blocks at past) ∙ joined_end J r left at))
    ∙ h ∙ ap (λ n. start ∷ joined_at level n 3 (start + 1) (drop (start + 1) blocks)) e
    ∙ sym (ap (with_partners level start) (cons_at blocks start d l))

-- ---- where memory is wanted

-- a pair gives positions
named : (level k at : ℕ) (rs : List BlockRef) → at < length rs → 1 ≤ length (with_partners level k (drop at rs))
named level k at [] l = absurd (omega (arith, l))
named level k zero (r ∷ rs) l = omega arith
named level k (suc at) (r ∷ rs) l = named level k at rs (omega (arith, l))

pair_named : (level : ℕ) (rs : List BlockRef) → IsSome (pair_at level 0 rs) → 1 ≤ length (from_pair level (pair_at level 0 rs) rs)
pair_named level rs is = at (pair_at level 0 rs) is (pair_within level 0 rs)
  where
    at : (o : Option ℕ) → IsSome o → IfSome o (λ x. x < 0 + length rs) → 1 ≤ length (from_pair level o rs)
    at None h within = cc
    at (Some x) h within = named level x x rs (omega (arith, within))

-- where a level has a pair there is something to join
pub level_lacks : (level : ℕ) (refs : List BlockRef) (listed : List Block) → map ref_of listed ≡ refs → IsSome (pair_at level 0 refs) →
    level < 63 → choice listed ≡ chosen_from level (63 - level) listed → 1 ≤ length (choice listed)
level_lacks level refs listed e is l so_far =
    let some : 1 ≤ length (from_pair level (pair_at level 0 refs) refs) = pair_named level refs is in
    let here = found_at level refs (from_pair level (pair_at level 0 refs) refs) listed e refl in
    subst (λ xs. 1 ≤ length xs) (sym (so_far ∙ next_level level 63 listed l ∙ here.ends some (chosen_from (level + 1) (63 - (level + 1)) listed))) (here.some some)

-- ---- positions ascend

joined_ascend : (level room n from at end : ℕ) (bs : List BlockRef) → from ≤ at → at + length bs ≤ end → Ascend from end (joined_at level room n at bs)
joined_ascend level room zero from at end bs h l = tt
joined_ascend level room (suc n) from at end [] h l = tt
joined_ascend level room (suc n) from at end (b ∷ bs) h l = by_test ((b.level == level) && nat_le b.rows room)
    (joined_ascend level (room - b.rows) n (at + 1) (at + 1) end bs (omega arith) (omega (arith, l)))
    (joined_ascend level room (suc n) from (at + 1) end bs (omega (arith, h)) (omega (arith, l)))
  where
    by_test : (t : Bool) → Ascend (at + 1) end (joined_at level (room - b.rows) n (at + 1) bs) → Ascend from end (joined_at level room (suc n) (at + 1) bs) →
        Ascend from end (if t then at ∷ joined_at level (room - b.rows) n (at + 1) bs else joined_at level room (suc n) (at + 1) bs)
    by_test true taken passed = (h, omega (arith, l), taken)
    by_test false taken passed = passed

partners_ascend : (level at end : ℕ) (bs : List BlockRef) → at + length bs ≤ end → Ascend 0 end (with_partners level at bs)
partners_ascend level at end [] l = tt
partners_ascend level at end (b ∷ bs) l =
    (omega arith, omega (arith, l), joined_ascend level (most_rows - b.rows) 3 (at + 1) (at + 1) end bs (omega arith) (omega (arith, l)))

pair_ascends : (level : ℕ) (rs : List BlockRef) → Ascend 0 (length rs) (from_pair level (pair_at level 0 rs) rs)
pair_ascends level rs = at (pair_at level 0 rs) (pair_within level 0 rs)
  where
    at : (o : Option ℕ) → IfSome o (λ x. x < 0 + length rs) → Ascend 0 (length rs) (from_pair level o rs)
    at None within = tt
    at (Some x) within = partners_ascend level x (length rs) (drop x rs) (omega (arith, within, length-drop x rs))

pub level_ascends : (level : ℕ) (refs : List BlockRef) (chosen : List ℕ) → chosen ≡ from_pair level (pair_at level 0 refs) refs → Ascend 0 (length refs) chosen
level_ascends level refs chosen h = subst (Ascend 0 (length refs)) (sym h) (pair_ascends level refs)

pub none_ascend : (end : ℕ) (chosen : List ℕ) → chosen ≡ [] → Ascend 0 end chosen
none_ascend end chosen h = subst (Ascend 0 end) (sym h) tt
