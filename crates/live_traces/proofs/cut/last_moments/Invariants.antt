-- So far the map has the last moments of the entries that were gone over.
use Rattle.std.proofs.Common.{◌≡◌, take, unwrap_or}
use Rattle.std.specs.BTreeMap.{get}
use Rattle.span_types.specs.declared.ids.TraceId.{TraceId}
use Rattle.span_types.specs.Orders.{trace_cmp}
use Rattle.store_model.specs.Cut.{last_moment}
use Rattle.live_traces.specs.Parts.{live_of}
use Rattle.live_traces.proofs.cut.last_moments.Given as goal

abbrev pub invariant-loop-entry : goal.invariant-loop-entry
invariant-loop-entry l = (t : TraceId) → unwrap_or (get trace_cmp l.last t) 0 ≡ last_moment t 0 (live_of (take l.entry-index l.entries))
