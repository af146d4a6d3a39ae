-- A compaction that joins blocks leaves fewer.
use Rattle.std.proofs.Common.{◌≡◌, ◌⊎◌, inl, inr, ℕ, ◌+◌, ◌-◌, ◌≤◌, zero, suc, Bool, true, false, not, List, [], ◌∷◌, ◌++◌, length, length-append, refl, sym, ◌∙◌, ap, subst, arith, if◌then◌else◌}
use Rattle.store_model.specs.After.{after_begin_compact, chosen_job, job_files}
use Rattle.store_model.specs.Choice.{begun_with, choice, chosen_at, chosen_from, fits, joined, most_rows, or_else, outside_files}
use Rattle.store_model.specs.Sound.{times}
use Rattle.store_model.specs.State.{Block, block_files, is_among}
use Rattle.store_model.specs.Step.{Machine}
use Rattle.store_model.proofs.Chosen.{IsPart, choice_part}
use Rattle.store_model.proofs.Numbers.{among, times_itself}
use Rattle.store_model.proofs.Pins.{blocks-added}
use Rattle.session_meaning.specs.Rounds.{HasJoined}

-- ---- the blocks that are chosen are none, or two at least

abbrev NoneOrTwo : List Block → Type 0
NoneOrTwo xs = (length xs ≡ 0) ⊎ (2 ≤ length xs)

begun_two : (b : Block) (xs others : List Block) → NoneOrTwo others → NoneOrTwo (begun_with b xs others)
begun_two b [] others h = h
begun_two b (x ∷ xs) others h = inr (omega arith)

two_at : (level : ℕ) (bs : List Block) → NoneOrTwo (chosen_at level bs)
two_at level [] = inl refl
two_at level (b ∷ bs) = by_test (fits level most_rows b) (two_at level bs)
  where
    by_test : (t : Bool) → NoneOrTwo (chosen_at level bs)
        → NoneOrTwo (if t then begun_with b (joined level (most_rows - b.size) 3 bs) (chosen_at level bs) else chosen_at level bs)
    by_test true h = begun_two b (joined level (most_rows - b.size) 3 bs) (chosen_at level bs) h
    by_test false h = h

either_two : (xs others : List Block) → NoneOrTwo xs → NoneOrTwo others → NoneOrTwo (or_else xs others)
either_two [] others h g = g
either_two (x ∷ xs) others h g = h

two_from : (level n : ℕ) (bs : List Block) → NoneOrTwo (chosen_from level n bs)
two_from level zero bs = inl refl
two_from level (suc n) bs = either_two (chosen_at level bs) (chosen_from (level + 1) n bs) (two_at level bs) (two_from (level + 1) n bs)

two_chosen : (bs : List Block) → 1 ≤ length (choice bs) → 2 ≤ length (choice bs)
two_chosen bs some = go (two_from 0 63 bs)
  where
    go : NoneOrTwo (choice bs) → 2 ≤ length (choice bs)
    go (inl none) = omega (arith, none, some)
    go (inr two) = two

-- ---- their files are listed no more

-- Blocks in files that a part of them has.
outside_fewer : (files : List ℕ) (xs bs : List Block) → IsPart xs bs → ((f : ℕ) → times f (block_files xs) ≤ times f files)
    → length (outside_files files bs) + length xs ≤ length bs
outside_fewer files xs [] none within = let size : length xs ≡ 0 = ap length none in let no_more : 0 + length xs ≤ 0 = omega (arith, size) in no_more
outside_fewer files xs (b ∷ bs) (inl part) within = by_test (is_among b.file files) (outside_fewer files xs bs part within)
  where
    by_test : (t : Bool) → length (outside_files files bs) + length xs ≤ length bs
        → length (if not t then b ∷ outside_files files bs else outside_files files bs) + length xs ≤ length (b ∷ bs)
    by_test true fewer = omega (arith, fewer)
    by_test false fewer = omega (arith, fewer)
outside_fewer files xs (b ∷ bs) (inr (rest, is, part)) within =
    let each : (f : ℕ) → times f (block_files (b ∷ rest)) ≤ times f files =
    λ f. subst (λ (zs : List Block). times f (block_files zs) ≤ times f files) is (within f) in
    let here : is_among b.file files ≡ true = among b.file files (omega (arith, each b.file, times_itself b.file)) in
    inside (is_among b.file files) here (outside_fewer files rest bs part (λ f. omega (arith, each f))) (ap length is)
  where
    inside : (t : Bool) → t ≡ true → length (outside_files files bs) + length rest ≤ length bs → length xs ≡ length (b ∷ rest)
        → length (if not t then b ∷ outside_files files bs else outside_files files bs) + length xs ≤ length (b ∷ bs)
    inside true at fewer size = omega (arith, fewer, size)
    inside false at fewer size = let bad : ⊥ = cc in absurd bad

-- One block stands in the place of two or more.
pub joined_fewer : (told : Bool) (m m' : Machine) (blocks count : ℕ) → HasJoined told m blocks count m' → length m'.state.blocks + 1 ≤ length m.state.blocks
joined_fewer told m m' blocks count h =
    let job = chosen_job h.pin m.state in
    let begun = after_begin_compact h.pin m.state in
    let files : job_files job begun ≡ block_files (choice m.state.blocks) =
    ap block_files (blocks-added m.state.pins (record { number = h.pin; blocks = choice m.state.blocks }) h.is_free.is_free) in
    let last : Block = record { file = job.file; level = job.level; size = count; rows = h.rows } in
    let left : m'.state.blocks ≡ outside_files (job_files job begun) m.state.blocks ++ last ∷ [] = ap (λ (x : Machine). x.state.blocks) h.leaves in
    let size : length m'.state.blocks ≡ length (outside_files (job_files job begun) m.state.blocks) + 1 =
    ap length left ∙ length-append (outside_files (job_files job begun) m.state.blocks) (last ∷ []) in
    let fewer : length (outside_files (job_files job begun) m.state.blocks) + length (choice m.state.blocks) ≤ length m.state.blocks =
    outside_fewer (job_files job begun) (choice m.state.blocks) m.state.blocks (choice_part m.state.blocks)
    (λ f. subst (λ (fs : List ℕ). times f (block_files (choice m.state.blocks)) ≤ times f fs) (sym files) (omega arith)) in
    let two = two_chosen m.state.blocks h.some in
    omega (arith, size, fewer, two)
