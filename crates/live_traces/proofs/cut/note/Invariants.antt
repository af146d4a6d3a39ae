-- So far the moment was noted for the rows that were gone over.
use Rattle.std.proofs.Common.{◌≡◌, take, unwrap_or}
use Rattle.std.specs.BTreeMap.{get}
use Rattle.span_types.specs.declared.ids.TraceId.{TraceId}
use Rattle.span_types.specs.Orders.{trace_cmp}
use Rattle.store_model.specs.After.{arrived}
use Rattle.store_model.specs.Cut.{last_moment}
use Rattle.live_traces.proofs.cut.note.Given as goal

abbrev pub invariant-loop-row : goal.invariant-loop-row
invariant-loop-row l = (t : TraceId) → unwrap_or (get trace_cmp l.last t) 0
    ≡ last_moment t (unwrap_or (get trace_cmp l.fn.last t) 0) (arrived l.moment (take l.row-index l.rows))
