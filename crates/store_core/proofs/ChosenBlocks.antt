-- The blocks that a compaction joins, as the machine, the list and the core's memory have them.
use Rattle.std.proofs.Common.{add-one, ◌≡◌, inl, inr, ℕ, ◌+◌, ◌<◌, ◌≤◌, zero, suc, min, List, [], ◌∷◌, ◌++◌, length, length-append, map, take, drop, slice_index_or, append_assoc, refl, sym, ◌∙◌, ap, subst, arith}
use Rattle.std.specs.List.{Contains}
use Rattle.std.proofs.lemmas.List.{append-nil}
use Rattle.std.proofs.lemmas.List.Elements.{Contains-append_left, Contains-append_right}
use Rattle.span_types.specs.declared.spans.Row.{Row}
use Rattle.block_info.specs.InfoParts.{InfoParts}
use Rattle.block_list.specs.declared.body.BlockRef.{BlockRef}
use Rattle.store_model.specs.State.{Block, block_files}
use Rattle.store_model.specs.Choice.{choice, level_of}
use Rattle.store_model.specs.Step.{Machine}
use Rattle.store_model.proofs.Numbers.{map_append}
use Rattle.store_state.specs.Given.{info_files}
use Rattle.store_state.specs.Listed.{picked, ref_of, Ascend}
use Rattle.store_state.specs.Shown.{told_block, IsChoiceOf, AreFew, JoinsChoice}
use Rattle.store_state.specs.Written.{AreBlocksOf}
use Rattle.store_images.proofs.Lists.{not_in_nil, in_cons, at_front, behind}
use Rattle.store_core.specs.Beginning.{at_places}
use Rattle.store_core.specs.Cores.{HasState}
use Rattle.store_files.specs.BlockReading.{listed_as}
use Rattle.store_core.specs.declared.state.CoreState.{CoreState}

-- ---- positions

one_mapped : {A B : Type 0} (f : A → B) (at : ℕ) (xs : List A) → map f (take 1 (drop at xs)) ≡ take 1 (drop at (map f xs))
one_mapped f zero [] = refl
one_mapped f zero (x ∷ xs) = refl
one_mapped f (suc n) [] = refl
one_mapped f (suc n) (x ∷ xs) = one_mapped f n xs

pub places_mapped : {A B : Type 0} (f : A → B) (places : List ℕ) (xs : List A) → map f (at_places places xs) ≡ at_places places (map f xs)
places_mapped f [] xs = refl
places_mapped f (at ∷ places) xs =
    map_append f (take 1 (drop at xs)) (at_places places xs)
    ∙ ap (λ (l : List _). l ++ map f (at_places places xs)) (one_mapped f at xs)
    ∙ ap (λ (l : List _). take 1 (drop at (map f xs)) ++ l) (places_mapped f places xs)

places_append : {A : Type 0} (places more : List ℕ) (xs : List A) → at_places (places ++ more) xs ≡ at_places places xs ++ at_places more xs
places_append [] more xs = refl
places_append (at ∷ places) more xs =
    ap (λ (l : List _). take 1 (drop at xs) ++ l) (places_append places more xs) ∙ sym (append_assoc (take 1 (drop at xs)) (at_places places xs) (at_places more xs))

one_at : {A : Type 0} (at : ℕ) (xs : List A) (x : A) → at < length xs → ((other : A) → slice_index_or xs at other ≡ x) → take 1 (drop at xs) ≡ x ∷ []
one_at zero [] x below is = absurd (omega (arith, below))
one_at zero (y ∷ xs) x below is = ap (λ (z : _). z ∷ []) (is x)
one_at (suc n) [] x below is = absurd (omega (arith, below))
one_at (suc n) (y ∷ xs) x below is = one_at n xs x (omega (arith, below)) is

suc_next : (places : List ℕ) (n d : ℕ) → n < length places → take (suc n) places ≡ take n places ++ slice_index_or places n d ∷ []
suc_next [] n d inside = absurd (omega (arith, inside))
suc_next (p ∷ places) zero d inside = refl
suc_next (p ∷ places) (suc n) d inside = ap (λ (l : List ℕ). p ∷ l) (suc_next places n d (omega (arith, inside)))

-- one position more
pub places_next : {A : Type 0} (places : List ℕ) (xs : List A) (n d : ℕ) (x : A) → n < length places → slice_index_or places n d < length xs → ((other : A) → slice_index_or xs (slice_index_or places n d) other ≡ x)
    → at_places (take (n + 1) places) xs ≡ at_places (take n places) xs ++ x ∷ []
places_next places xs n d x inside below is =
    ap (λ (l : List ℕ). at_places l xs) (ap (λ (k : ℕ). take k places) (add-one n) ∙ suc_next places n d inside)
    ∙ places_append (take n places) (slice_index_or places n d ∷ []) xs
    ∙ ap (λ (l : List _). at_places (take n places) xs ++ l) (append-nil (take 1 (drop (slice_index_or places n d) xs)) ∙ one_at (slice_index_or places n d) xs x below is)

pub picked_places : (places : List ℕ) (blocks : List Block) → picked places blocks ≡ at_places places blocks
picked_places [] blocks = refl
picked_places (at ∷ places) blocks = ap (λ (l : List Block). take 1 (drop at blocks) ++ l) (picked_places places blocks)

-- ---- what is chosen

-- the level of the first one, as a list names it
abbrev first_level : List BlockRef → ℕ
first_level [] = 0
first_level (ref ∷ refs) = ref.level

level_listed : (blocks : List Block) → level_of blocks ≡ first_level (map ref_of blocks)
level_listed [] = refl
level_listed (b ∷ bs) = refl

level_told : (infos : List InfoParts) → level_of (map told_block infos) ≡ first_level (map listed_as infos)
level_told [] = refl
level_told (i ∷ is) = refl

told_listed : (infos : List InfoParts) → map ref_of (map told_block infos) ≡ map listed_as infos
told_listed [] = refl
told_listed (i ∷ is) = ap (λ (l : List BlockRef). listed_as i ∷ l) (told_listed is)

module _ (core : CoreState) (chosen : List ℕ) (pinned : List InfoParts) (are : pinned ≡ at_places chosen core.infos.items)
    (picks : (listed : List Block) → map ref_of listed ≡ core.list.blocks → picked chosen listed ≡ choice listed) where
  -- of each machine that the memory shows
  pub chosen_files : (m : Machine) → HasState core m → info_files pinned ≡ block_files (choice m.state.blocks)
  chosen_files m has =
      ap info_files are ∙ places_mapped (λ (i : InfoParts). i.file) chosen core.infos.items
      ∙ ap (λ (l : List ℕ). at_places chosen l) has.infos
      ∙ sym (places_mapped (λ (b : Block). b.file) chosen m.state.blocks)
      ∙ ap block_files (sym (picked_places chosen m.state.blocks) ∙ picks m.state.blocks (sym has.blocks))

  pub chosen_level : (m : Machine) → HasState core m → level_of (map told_block pinned) ≡ level_of (choice m.state.blocks)
  chosen_level m has =
      level_told pinned
      ∙ ap (λ (l : List InfoParts). first_level (map listed_as l)) are
      ∙ ap first_level (places_mapped listed_as chosen core.infos.items
      ∙ ap (λ (l : List BlockRef). at_places chosen l) (has.listed ∙ has.blocks)
      ∙ sym (places_mapped ref_of chosen m.state.blocks))
      ∙ sym (level_listed (at_places chosen m.state.blocks))
      ∙ ap level_of (sym (picked_places chosen m.state.blocks) ∙ picks m.state.blocks (sym has.blocks))

  pub told_choice : map listed_as core.infos.items ≡ core.list.blocks → map told_block pinned ≡ choice (map told_block core.infos.items)
  told_choice listed =
      ap (map told_block) are ∙ places_mapped told_block chosen core.infos.items
      ∙ sym (picked_places chosen (map told_block core.infos.items))
      ∙ picks (map told_block core.infos.items) (told_listed core.infos.items ∙ listed)

-- ---- there is one

one_there : {A : Type 0} (at : ℕ) (xs : List A) → at < length xs → 1 ≤ length (take 1 (drop at xs))
one_there zero [] below = absurd (omega (arith, below))
one_there zero (x ∷ xs) below = omega arith
one_there (suc n) [] below = absurd (omega (arith, below))
one_there (suc n) (x ∷ xs) below = one_there n xs (omega (arith, below))

pub some_there : {A : Type 0} (places : List ℕ) (xs : List A) (end : ℕ) → end ≡ length xs → 1 ≤ length places → Ascend 0 end places → 1 ≤ length (at_places places xs)
some_there [] xs end is some ascend = absurd (omega (arith, some))
some_there (at ∷ places) xs end is some ascend =
    let below = ascend.1 in
    let one = one_there at xs (omega (arith, is, below)) in
    let joined = length-append (take 1 (drop at xs)) (at_places places xs) in
    omega (arith, one, joined)

-- ---- they are among the listed ones

in_one : {A : Type 0} (at : ℕ) (xs : List A) (x : A) → Contains (take 1 (drop at xs)) x → Contains xs x
in_one zero [] x c = c
in_one zero (y ∷ xs) x c = Contains-append_left (y ∷ []) xs x c
in_one (suc n) [] x c = c
in_one (suc n) (y ∷ xs) x c = Contains-append_right (y ∷ []) xs x (in_one n xs x c)

in_either : {A : Type 0} (xs ys zs : List A) (x : A) → (Contains xs x → Contains zs x) → (Contains ys x → Contains zs x) → Contains (xs ++ ys) x → Contains zs x
in_either [] ys zs x one other c = other c
in_either (y ∷ xs) ys zs x one other c = elim (in_cons x y (xs ++ ys) c) [
  | inl is ↦ one (subst (λ (k : _). Contains (y ∷ xs) k) is (at_front y xs))
  | inr there ↦ in_either xs ys zs x (λ d. one (behind x y xs d)) other there
]

pub in_places : {A : Type 0} (places : List ℕ) (xs : List A) (x : A) → Contains (at_places places xs) x → Contains xs x
in_places [] xs x c = absurd (not_in_nil x c)
in_places (at ∷ places) xs x c = in_either (take 1 (drop at xs)) (at_places places xs) xs x (in_one at xs x) (in_places places xs x) c

-- ---- and blocks, as those are

one_block : (bytes : ℕ → List ℕ) (at : ℕ) (infos : List InfoParts) (parts : List (List Row)) → AreBlocksOf bytes infos parts → AreBlocksOf bytes (take 1 (drop at infos)) (take 1 (drop at parts))
one_block bytes zero [] [] are = tt
one_block bytes zero (i ∷ is) (p ∷ ps) are = (are.0, tt)
one_block bytes (suc n) [] [] are = tt
one_block bytes (suc n) (i ∷ is) (p ∷ ps) are = one_block bytes n is ps are.1
one_block bytes at [] (p ∷ ps) are = absurd are
one_block bytes at (i ∷ is) [] are = absurd are

both_blocks : (bytes : ℕ → List ℕ) (xs ys : List InfoParts) (ps qs : List (List Row)) → AreBlocksOf bytes xs ps → AreBlocksOf bytes ys qs → AreBlocksOf bytes (xs ++ ys) (ps ++ qs)
both_blocks bytes [] ys [] qs one other = other
both_blocks bytes (x ∷ xs) ys (p ∷ ps) qs one other = (one.0, both_blocks bytes xs ys ps qs one.1 other)
both_blocks bytes [] ys (p ∷ ps) qs one other = absurd one
both_blocks bytes (x ∷ xs) ys [] qs one other = absurd one

pub blocks_at : (bytes : ℕ → List ℕ) (places : List ℕ) (infos : List InfoParts) (parts : List (List Row)) → AreBlocksOf bytes infos parts → AreBlocksOf bytes (at_places places infos) (at_places places parts)
blocks_at bytes [] infos parts are = tt
blocks_at bytes (at ∷ places) infos parts are =
    both_blocks bytes (take 1 (drop at infos)) (at_places places infos) (take 1 (drop at parts)) (at_places places parts) (one_block bytes at infos parts are) (blocks_at bytes places infos parts are)

-- ---- what a compaction tells

-- a choice is of a level below 63, so that its number has room
pub level_fits : ((listed : List InfoParts) (level : ℕ) (pinned : List InfoParts) → IsChoiceOf listed level pinned → 1 ≤ length pinned → AreFew level pinned)
    → (listed pinned : List InfoParts) (level : ℕ) → map told_block pinned ≡ choice (map told_block listed) → ((info : InfoParts) → Contains pinned info → Contains listed info) → 1 ≤ length pinned
    → level ≡ min (level_of (map told_block pinned) + 1) 255 → (level ≡ level_of (map told_block pinned) + 1) × (level ≤ 63)
level_fits are_few listed pinned level chosen theirs some is =
    let few = are_few listed (level_of (map told_block pinned) + 1) pinned (record { chosen = chosen; theirs = theirs; its_level = refl }) some in
    let high = few.high in
    (omega (arith, is, high), omega (arith, is, high))

pub joins_choice : (listed pinned : List InfoParts) (level : ℕ) → map told_block pinned ≡ choice (map told_block listed) → ((info : InfoParts) → Contains pinned info → Contains listed info) → 1 ≤ length pinned
    → level ≡ level_of (map told_block pinned) + 1 → JoinsChoice (λ infos. infos ≡ listed) level pinned
joins_choice listed pinned level chosen theirs some is = (listed, record { chosen = chosen; theirs = theirs; its_level = is }, some, λ told e. e)

-- ---- how many the choice has

pub some_chosen : (chosen : List ℕ) (blocks : List Block) (end : ℕ) → end ≡ length blocks → 1 ≤ length chosen → Ascend 0 end chosen → picked chosen blocks ≡ choice blocks → 1 ≤ length (choice blocks)
some_chosen chosen blocks end is some ascend picks =
    subst (λ (l : List Block). 1 ≤ length l) (sym (picked_places chosen blocks) ∙ picks) (some_there chosen blocks end is some ascend)

pub blocks_listed : (core : CoreState) (m : Machine) → HasState core m → length core.list.blocks ≡ length m.state.blocks
blocks_listed core m has = ap length has.blocks ∙ same_length ref_of m.state.blocks
  where
    same_length : {A B : Type 0} (f : A → B) (xs : List A) → length (map f xs) ≡ length xs
    same_length f [] = refl
    same_length f (x ∷ xs) = ap suc (same_length f xs)

pub refs_listed : (core : CoreState) (m : Machine) (refs : List BlockRef) → refs ≡ core.list.blocks → HasState core m → length refs ≡ length m.state.blocks
refs_listed core m refs are has = ap length are ∙ blocks_listed core m has
