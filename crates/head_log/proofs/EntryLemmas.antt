-- Batches with their numbers, as lists.
use Rattle.std.proofs.Common.{◌≡◌, ℕ, suc, ◌+◌, List, [], ◌∷◌, ◌++◌, length, refl, ap, ◌∙◌, arith}
use Rattle.span_types.specs.declared.spans.Span.{Span}
use Rattle.head_log.specs.declared.numbered.NumberedBatch.{NumberedBatch}
use Rattle.head_log.specs.Entries.{entries}
use Rattle.head_log.specs.Scanning.{numbered}

pub length-entries : (first : ℕ) (batches : List (List Span)) → length (entries first batches) ≡ length batches
length-entries first [] = refl
length-entries first (spans ∷ batches) = ap suc (length-entries (first + 1) batches)

pub entries-append : (first : ℕ) (batches more : List (List Span)) → entries first (batches ++ more) ≡ entries first batches ++ entries (first + length batches) more
entries-append first [] more = let same : first ≡ first + 0 = omega arith in ap (λ (n : ℕ). entries n more) same
entries-append first (spans ∷ batches) more =
    let same : first + 1 + length batches ≡ first + length (spans ∷ batches) = omega arith in
    ap (λ (l : List NumberedBatch). numbered first spans ∷ l) (entries-append (first + 1) batches more ∙ ap (λ (n : ℕ). entries (first + 1) batches ++ entries n more) same)
