-- Where the rows of each trace are the same, first occurrences are.
use Rattle.std.proofs.Common.{◌≡◌, true, false, List, [], ◌∷◌, Option, if◌then◌else◌, refl, sym, ap, ◌∙◌}
use Rattle.span_types.specs.declared.ids.Key.{Key}
use Rattle.span_types.specs.declared.ids.TraceId.{TraceId}
use Rattle.span_types.specs.declared.spans.Row.{Row}
use Rattle.span_types.specs.First.{IsFirstOf, first_at, lesser, row_at}
use Rattle.span_types.proofs.FirstLaws.{firsts_alike}
use Rattle.rows_by_trace.specs.Traces.{is_of_trace, rows_of_trace}
use Rattle.block_build.proofs.TraceByTrace.{of_other}

-- a key's row is found among the rows of its trace
own_trace : (k : Key) (rows : List Row) → first_at k (rows_of_trace k.trace rows) ≡ first_at k rows
own_trace k [] = refl
own_trace k (row ∷ rows) =
    elim (is_of_trace k.trace row) as (λ t. is_of_trace k.trace row ≡ t → first_at k (if t then row ∷ rows_of_trace k.trace rows else rows_of_trace k.trace rows) ≡ first_at k (row ∷ rows)) [
      | true ↦ λ here. ap (lesser (row_at k row)) (own_trace k rows)
      | false ↦ λ other. own_trace k rows ∙ sym (ap (λ (o : Option Row). lesser o (first_at k rows)) (of_other k row other))
    ] refl

pub alike_by_trace : (a b firsts : List Row) → ((trace : TraceId) → rows_of_trace trace a ≡ rows_of_trace trace b) → IsFirstOf a firsts → IsFirstOf b firsts
alike_by_trace a b firsts same =
    firsts_alike a b firsts (λ k. sym (own_trace k a) ∙ ap (first_at k) (same k.trace) ∙ own_trace k b)
