-- Parts of bytes, and pages of a file.
use Rattle.std.proofs.Common.{◌≡◌, ℕ, zero, suc, ◌+◌, ◌-◌, ◌*◌, ◌≤◌, min, List, [], ◌∷◌, ◌++◌, length, take, drop, replicate, inl, inr, refl, sym, ap, ◌∙◌, arith}
use Rattle.std.proofs.Math.Seq.{take-add, take-append-add}
use Rattle.std.proofs.lemmas.Bool.{cases_lt}
use Rattle.std.proofs.lemmas.List.{append-nil, drop-replicate, length-take, take_all, take-append-le, take-replicate, take-take}
use Rattle.block_read.specs.Files.{first_bytes, page_of, part_of}

-- past the end of a list
drop_both : (n : ℕ) (xs ys : List ℕ) → drop n (xs ++ ys) ≡ drop n xs ++ drop (n - length xs) ys
drop_both zero xs ys = (let none : 0 - length xs ≡ 0 = omega arith in ap (λ (k : ℕ). xs ++ drop k ys) (sym none))
drop_both (suc n) [] ys = (let all : suc n - 0 ≡ suc n = omega arith in ap (λ (k : ℕ). drop k ys) (sym all))
drop_both (suc n) (x ∷ xs) ys = (let less : n - length xs ≡ suc n - length (x ∷ xs) = omega arith in drop_both n xs ys ∙ ap (λ (k : ℕ). drop n xs ++ drop k ys) less)

-- how many zeros follow doesn't matter, where they are enough
enough_zeros : (n a b : ℕ) (xs : List ℕ) → n ≤ a → n ≤ b → take n (xs ++ replicate a 0) ≡ take n (xs ++ replicate b 0)
enough_zeros zero a b xs one two = refl
enough_zeros (suc n) a b [] one two = take-replicate {X = ℕ} (suc n) a 0 one ∙ sym (take-replicate {X = ℕ} (suc n) b 0 two)
enough_zeros (suc n) a b (x ∷ xs) one two = ap (λ (l : List ℕ). x ∷ l) (enough_zeros n a b xs (omega (arith, one)) (omega (arith, two)))

-- One page more, or the part of it that counts.
pub page_more : (held : List ℕ) (bound page size wanted : ℕ) → size ≡ page * 4096 → size ≤ bound → wanted ≡ min (bound - size) 4096
    → first_bytes size held ++ take wanted (page_of held page) ≡ first_bytes (size + wanted) held
page_more held bound page size wanted size_is low wanted_is =
    let all : List ℕ = held ++ replicate (size + wanted) 0 in
    let front : take size all ≡ first_bytes size held = enough_zeros size (size + wanted) size held (omega arith) (omega arith) in
    let rest : drop size all ≡ drop size held ++ replicate (size + wanted - (size - length held)) 0 = drop_both size held (replicate (size + wanted) 0) ∙ ap (λ (l : List ℕ). drop size held ++ l) (drop-replicate {X = ℕ} (size - length held) (size + wanted) 0) in
    let back : take wanted (drop size all) ≡ take wanted (drop size held ++ replicate 4096 0) =
    ap (take wanted) rest ∙ enough_zeros wanted (size + wanted - (size - length held)) 4096 (drop size held) (omega arith) (omega (arith, wanted_is)) in
    let page_part : take wanted (page_of held page) ≡ take wanted (drop size held ++ replicate 4096 0) =
    take-take wanted 4096 (drop (page * 4096) held ++ replicate 4096 0) (omega (arith, wanted_is)) ∙ ap (λ (k : ℕ). take wanted (drop k held ++ replicate 4096 0)) (sym size_is) in
    sym (take-add size wanted all ∙ ap (λ (l : List ℕ). l ++ take wanted (drop size all)) front ∙ ap (λ (l : List ℕ). first_bytes size held ++ l) (back ∙ sym page_part))

-- ---- a page in a buffer of zeros

filled : (n : ℕ) (rest : List ℕ) → take n rest ++ drop (length (take n rest)) (replicate n 0) ≡ take n (rest ++ replicate n 0)
filled n rest =
    elim (cases_lt (length rest) n) [
      | inl lt ↦
          let whole : take n rest ≡ rest = take_all n rest (omega (arith, lt)) in
          let zeros : List ℕ = replicate n 0 in
          let left : drop (length rest) zeros ≡ take (n - length rest) zeros =
          drop-replicate {X = ℕ} (length rest) n 0 ∙ sym (take-replicate {X = ℕ} (n - length rest) n 0 (omega arith)) in
          let sum : length rest + (n - length rest) ≡ n = omega (arith, lt) in
          ap (λ (l : List ℕ). l ++ drop (length l) zeros) whole ∙ ap (λ (l : List ℕ). rest ++ l) left
          ∙ sym (take-append-add rest zeros (n - length rest)) ∙ ap (λ (k : ℕ). take k (rest ++ zeros)) sum
      | inr le ↦
          let zeros : List ℕ = replicate n 0 in
          let size : length (take n rest) ≡ n = omega (arith, le, length-take n rest) in
          let none : drop n zeros ≡ [] = drop-replicate {X = ℕ} n n 0 ∙ (let less : n - n ≡ 0 = omega arith in ap (λ (k : ℕ). (let l : List ℕ = replicate k 0 in l)) less) in
          ap (λ (k : ℕ). take n rest ++ drop k zeros) size ∙ ap (λ (l : List ℕ). take n rest ++ l) none ∙ append-nil (take n rest) ∙ sym (take-append-le n rest zeros le)
    ]

pub page_is : (bytes : List ℕ) (page : ℕ) (part new : List ℕ) → part ≡ part_of page 1 bytes → new ≡ part ++ drop (length part) (replicate 4096 0) → new ≡ page_of bytes page
page_is bytes page part new part_is new_is =
    let place : 4096 * page ≡ page * 4096 = omega arith in
    let rest = drop (page * 4096) bytes in
    let same : part ≡ take 4096 rest = part_is ∙ ap (λ (k : ℕ). take 4096 (drop k bytes)) place in
    new_is ∙ ap (λ (l : List ℕ). l ++ drop (length l) (replicate 4096 0)) same ∙ filled 4096 rest
