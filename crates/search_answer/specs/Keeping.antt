-- The best results so far, as contracts see them, and whether one more trace can come among them.
use Rattle.std.specs.Prelude.{ℕ, ◌-◌, ◌==◌, List, Bool, false, not, ◌||◌, ◌&&◌, Option, None, Some, length, nat_lt, slice_get}
use Rattle.std.specs.Ordering.{is_lt}
use Rattle.span_types.specs.Orders.{trace_cmp}
use Rattle.span_types.specs.declared.ids.TraceId.{TraceId}
use Rattle.spanset_eval.specs.declared.results.TraceResult.{TraceResult}

pub record BestParts : Type 0 where
  pub limit : ℕ
  pub kept : List TraceResult

-- whatever result the trace has that starts at that moment or earlier, it ranks after this one
abbrev pub ranks_after : TraceId → ℕ → TraceResult → Bool
ranks_after trace latest r = nat_lt latest r.start || ((r.start == latest) && is_lt (trace_cmp r.trace trace))

-- a result of the trace that starts at that moment may rank before this one, the last of all
abbrev pub may_rank_before : TraceId → ℕ → Option TraceResult → Bool
may_rank_before trace latest None = false
may_rank_before trace latest (Some last) = not (ranks_after trace latest last)

-- A result of the trace that starts at that moment at the latest can come among the best: there are fewer than asked for, or it can
-- rank before the last.
abbrev pub may_come : BestParts → TraceId → ℕ → Bool
may_come best trace latest = nat_lt (length best.kept) best.limit || may_rank_before trace latest (slice_get best.kept (length best.kept - 1))
