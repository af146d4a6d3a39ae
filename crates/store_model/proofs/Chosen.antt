-- What a compaction chooses is a part of the listed blocks, in their order.
use Rattle.std.proofs.Common.{◌≡◌, ℕ, ◌+◌, ◌-◌, ◌≤◌, zero, suc, List, [], ◌∷◌, Bool, true, false, not, refl, sym, ◌∙◌, ap, subst, arith, ◌⊎◌, inl, inr, if◌then◌else◌}
use Rattle.store_model.specs.State.{Block, block_files, is_among}
use Rattle.store_model.specs.Choice.{in_files, outside_files, most_rows, choice, fits, joined, begun_with, chosen_at, or_else, chosen_from}
use Rattle.store_model.specs.Sound.{times}
use Rattle.store_model.proofs.Numbers.{among, not_among, times_itself}

-- some of the blocks, in their order
abbrev pub IsPart : List Block → List Block → Type 0
IsPart xs [] = xs ≡ []
IsPart xs (b ∷ ys) = IsPart xs ys ⊎ ((rest : List Block) × (xs ≡ b ∷ rest) × IsPart rest ys)

no_part : (ys : List Block) → IsPart [] ys
no_part [] = refl
no_part (b ∷ ys) = inl (no_part ys)

joined_part : (level room n : ℕ) (bs : List Block) → IsPart (joined level room n bs) bs
joined_part level room zero bs = no_part bs
joined_part level room (suc n) [] = refl
joined_part level room (suc n) (b ∷ bs) =
    by_test (fits level room b) (joined_part level (room - b.size) n bs) (joined_part level room (suc n) bs)
  where
    by_test : (t : Bool) → IsPart (joined level (room - b.size) n bs) bs → IsPart (joined level room (suc n) bs) bs →
        IsPart (if t then b ∷ joined level (room - b.size) n bs else joined level room (suc n) bs) (b ∷ bs)
    by_test true h g = inr (joined level (room - b.size) n bs, refl, h)
    by_test false h g = inl g

begun_part : (b : Block) (xs others bs : List Block) → IsPart xs bs → IsPart others bs → IsPart (begun_with b xs others) (b ∷ bs)
begun_part b [] others bs h g = inl g
begun_part b (x ∷ xs) others bs h g = inr (x ∷ xs, refl, h)

chosen_at_part : (level : ℕ) (bs : List Block) → IsPart (chosen_at level bs) bs
chosen_at_part level [] = refl
chosen_at_part level (b ∷ bs) = by_test (fits level most_rows b) (chosen_at_part level bs)
  where
    by_test : (t : Bool) → IsPart (chosen_at level bs) bs →
        IsPart (if t then begun_with b (joined level (most_rows - b.size) 3 bs) (chosen_at level bs) else chosen_at level bs) (b ∷ bs)
    by_test true h = begun_part b (joined level (most_rows - b.size) 3 bs) (chosen_at level bs) bs (joined_part level (most_rows - b.size) 3 bs) h
    by_test false h = inl h

either_part : (xs others bs : List Block) → IsPart xs bs → IsPart others bs → IsPart (or_else xs others) bs
either_part [] others bs h g = g
either_part (x ∷ xs) others bs h g = h

chosen_from_part : (level n : ℕ) (bs : List Block) → IsPart (chosen_from level n bs) bs
chosen_from_part level zero bs = no_part bs
chosen_from_part level (suc n) bs =
    either_part (chosen_at level bs) (chosen_from (level + 1) n bs) bs (chosen_at_part level bs) (chosen_from_part (level + 1) n bs)

pub choice_part : (bs : List Block) → IsPart (choice bs) bs
choice_part bs = chosen_from_part 0 63 bs

pub part_within : (f : ℕ) (xs bs : List Block) → IsPart xs bs → times f (block_files xs) ≤ times f (block_files bs)
part_within f xs [] h = subst (λ zs. times f (block_files zs) ≤ 0) (sym h) (omega arith)
part_within f xs (b ∷ bs) (inl h) = omega (arith, part_within f xs bs h)
part_within f xs (b ∷ bs) (inr (rest, e, h)) =
    subst (λ zs. times f (block_files zs) ≤ times f (block_files (b ∷ bs))) (sym e) (omega (arith, part_within f rest bs h))

-- Where no file is listed twice, the blocks in the files of a part are the part.
pub in_own_files : (files : List ℕ) (xs bs : List Block) → IsPart xs bs → ((f : ℕ) → times f (block_files bs) ≤ 1) →
    ((f : ℕ) → 1 ≤ times f (block_files bs) → times f files ≡ times f (block_files xs)) → in_files files bs ≡ xs
in_own_files files xs [] h once same = sym h
in_own_files files xs (b ∷ bs) (inl h) once same =
    let apart : is_among b.file files ≡ false =
    not_among b.file files (omega (arith, same b.file (omega (arith, times_itself b.file)), part_within b.file xs bs h, once b.file, times_itself b.file)) in
    rw apart (in_own_files files xs bs h (λ f. omega (arith, once f)) (λ f l. same f (omega (arith, l))))
in_own_files files xs (b ∷ bs) (inr (rest, e, h)) once same =
    let agrees : (f : ℕ) → 1 ≤ times f (block_files (b ∷ bs)) → times f files ≡ times f (block_files (b ∷ rest)) =
    λ f l. same f l ∙ ap (λ zs. times f (block_files zs)) e in
    let here : is_among b.file files ≡ true =
    among b.file files (omega (arith, agrees b.file (omega (arith, times_itself b.file)), times_itself b.file)) in
    rw here (ap (λ zs. b ∷ zs) (in_own_files files rest bs h (λ f. omega (arith, once f)) (λ f l. omega (arith, l, once f, agrees f (omega (arith, l))))) ∙ sym e)

-- blocks inside and outside of files
pub split : (f : ℕ) (files : List ℕ) (bs : List Block) → times f (block_files (outside_files files bs)) + times f (block_files (in_files files bs)) ≡ times f (block_files bs)
split f files [] = refl
split f files (b ∷ bs) = by_test (is_among b.file files) (split f files bs)
  where
    by_test : (t : Bool) → times f (block_files (outside_files files bs)) + times f (block_files (in_files files bs)) ≡ times f (block_files bs) →
        times f (block_files (if not t then b ∷ outside_files files bs else outside_files files bs)) + times f (block_files (if t then b ∷ in_files files bs else in_files files bs)) ≡ times f (block_files (b ∷ bs))
    by_test true ih = omega (arith, ih)
    by_test false ih = omega (arith, ih)
