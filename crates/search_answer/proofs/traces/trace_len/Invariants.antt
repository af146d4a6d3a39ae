-- The rows so far are of the first one's trace.
use Rattle.std.proofs.Common.{◌≡◌, ℕ, ◌<◌, true, slice_index_or}
use Rattle.span_types.specs.declared.spans.Row.{Row}
use Rattle.search_answer.specs.Walking.{of_one_trace}
use Rattle.search_answer.proofs.traces.trace_len.Given as goal

abbrev pub invariant-loop-i : goal.invariant-loop-i
invariant-loop-i l = (k : ℕ) (d : Row) → k < l.i → of_one_trace (slice_index_or l.rows k d) (slice_index_or l.rows 0 d) ≡ true
