-- The rows of a chunk, one after another.
use Rattle.std.proofs.Common.{add-one, ◌≡◌, ℕ, ◌+◌, ◌<◌, zero, suc, List, [], ◌∷◌, ◌++◌, refl, ◌∙◌, ap, arith, length, take, slice_get, slice_index_or, Option, Some}
use Rattle.span_types.specs.declared.spans.Span.{Span}
use Rattle.span_types.specs.declared.spans.Row.{Row}
use Rattle.store_model.specs.History.{rows_at}
use Rattle.live_traces.specs.Rows.{ChunkParts, chunk_rows, no_span, row_of}

pub length_rows_at : (n p : ℕ) (spans : List Span) → length (rows_at n p spans) ≡ length spans
length_rows_at n p [] = refl
length_rows_at n p (s ∷ ss) = ap suc (length_rows_at n (p + 1) ss)

pub length_chunk_rows : (c : ChunkParts) → length (chunk_rows c) ≡ length c.spans
length_chunk_rows c = length_rows_at c.number 0 c.spans

-- the row at a position
at_position : (n p : ℕ) (spans : List Span) (k : ℕ) → k < length spans →
    take (suc k) (rows_at n p spans) ≡ take k (rows_at n p spans) ++ record { place = record { number = n; position = p + k }; span = slice_index_or spans k no_span } ∷ []
at_position n p [] k l = absurd (omega (arith, l))
at_position n p (s ∷ ss) zero l = ap (λ q. record { place = record { number = n; position = q }; span = s } ∷ []) (same p)
  where
    same : (p : ℕ) → p ≡ p + 0
    same p = omega arith
at_position n p (s ∷ ss) (suc k) l =
    ap (λ rows. record { place = record { number = n; position = p }; span = s } ∷ rows)
    (at_position n (p + 1) ss k (omega (arith, l)) ∙ ap (λ q. take k (rows_at n (p + 1) ss) ++ record { place = record { number = n; position = q }; span = slice_index_or ss k no_span } ∷ []) (same p k))
  where
    same : (p k : ℕ) → p + 1 + k ≡ p + suc k
    same p k = omega arith

pub one_more : (c : ChunkParts) (k : ℕ) → k < length c.spans → take (k + 1) (chunk_rows c) ≡ take k (chunk_rows c) ++ row_of c k ∷ []
one_more c k l =
    ap (λ q. take q (chunk_rows c)) (add-one k) ∙ at_position c.number 0 c.spans k l
    ∙ ap (λ q. take k (chunk_rows c) ++ record { place = record { number = c.number; position = q }; span = slice_index_or c.spans k no_span } ∷ []) (same k)
  where
    same : (k : ℕ) → 0 + k ≡ k
    same k = omega arith

-- the row that is found at a position
abbrev some_row : Row → Option Row
some_row row = Some row

found_at : (n p : ℕ) (spans : List Span) (k : ℕ) → k < length spans →
    slice_get (rows_at n p spans) k ≡ Some (record { place = record { number = n; position = p + k }; span = slice_index_or spans k no_span })
found_at n p [] k l = absurd (omega (arith, l))
found_at n p (s ∷ ss) zero l = ap (λ q. some_row (record { place = record { number = n; position = q }; span = s })) (same p)
  where
    same : (p : ℕ) → p ≡ p + 0
    same p = omega arith
found_at n p (s ∷ ss) (suc k) l =
    found_at n (p + 1) ss k (omega (arith, l)) ∙ ap (λ q. some_row (record { place = record { number = n; position = q }; span = slice_index_or ss k no_span })) (same p k)
  where
    same : (p k : ℕ) → p + 1 + k ≡ p + suc k
    same p k = omega arith

pub row_found : (c : ChunkParts) (k : ℕ) → k < length c.spans → slice_get (chunk_rows c) k ≡ Some (row_of c k)
row_found c k l =
    found_at c.number 0 c.spans k l ∙ ap (λ q. some_row (record { place = record { number = c.number; position = q }; span = slice_index_or c.spans k no_span })) (same k)
  where
    same : (k : ℕ) → 0 + k ≡ k
    same k = omega arith

-- a whole list
pub take_whole : {X : Type 0} (xs : List X) (n : ℕ) → n ≡ length xs → take n xs ≡ xs
take_whole xs n e = ap (λ m. take m xs) e ∙ all xs
  where
    all : {X : Type 0} (xs : List X) → take (length xs) xs ≡ xs
    all [] = refl
    all (x ∷ xs) = ap (λ ys. x ∷ ys) (all xs)
