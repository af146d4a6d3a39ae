use Rattle.std.proofs.Common.{rules, ◌≡◌, ◌∙◌, Some, append-nil, ap, arith, subst, sym, slice_index_or}
use Rattle.std.specs.List.Sorted.{IsSortedByKey}
use Rattle.span_types.specs.declared.spans.Row.{Row}
use Rattle.span_types.specs.Orders.{trace_cmp}
use Rattle.rows_by_trace.specs.Traces.{rows_of_trace}
use Rattle.live_traces.specs.Rows.{chunk_rows}
use Rattle.live_traces.specs.Order.{AreSpotsOf}
use Rattle.live_traces.specs.declared.order.Spot.{Spot}
use Rattle.live_traces.proofs.ChunkRows.{length_chunk_rows, row_found}
use Rattle.live_traces.proofs.Spots.{group_all, group_at, group_more, only_at, spot_at, spot_is}
use Rattle.live_traces.proofs.chunk.ChunkHasRows.copy_rows_of.Goals as goal

pub group_of-group-requires : goal.group_of-group-requires
group_of-group-requires c =
    let own : c.as_slice.result.now ≡ c.self.inside.body.value.order.items = search rules in
    subst (λ q. IsSortedByKey (λ (s : Spot). s.trace) trace_cmp q) (sym own) c.self.invariant.sorted

pub loop-spot-init : goal.loop-spot-init
loop-spot-init c = sym (append-nil c.args.rows.now.items)

pub copy_row-requires : goal.copy_row-requires
copy_row-requires c =
    let own : c.as_slice.result.now ≡ c.self.inside.body.value.order.items = search rules in
    let are : AreSpotsOf (chunk_rows c.args.self.now) c.group_of-group.result.now (rows_of_trace c.args.trace (chunk_rows c.args.self.now)) =
    group_at c.args.trace c.self.inside.body.value.order.items c.as_slice.result.now c.group_of-group.result.now (record { number = c.self.inside.number; spans = c.self.inside.body.value.batch.spans })
    c.args.self.now c.self.invariant c.self.view_is own c.group_of-group.ensures in
    let spot : Spot = spot_at c.group_of-group.result.now c.loop-spot.spot-index in
    let here : slice_index_or c.group_of-group.result.now c.loop-spot.spot-index spot ≡ spot = spot_is c.group_of-group.result.now c.loop-spot.spot-index (omega arith) in
    let within = only_at (chunk_rows c.args.self.now) c.group_of-group.result.now (rows_of_trace c.args.trace (chunk_rows c.args.self.now)) c.loop-spot.spot-index spot are (omega arith) here in
    omega (arith, within, length_chunk_rows c.args.self.now)

pub loop-spot-preserved : goal.loop-spot-preserved
loop-spot-preserved c =
    let own : c.as_slice.result.now ≡ c.self.inside.body.value.order.items = search rules in
    let are : AreSpotsOf (chunk_rows c.args.self.now) c.group_of-group.result.now (rows_of_trace c.args.trace (chunk_rows c.args.self.now)) =
    group_at c.args.trace c.self.inside.body.value.order.items c.as_slice.result.now c.group_of-group.result.now (record { number = c.self.inside.number; spans = c.self.inside.body.value.batch.spans })
    c.args.self.now c.self.invariant c.self.view_is own c.group_of-group.ensures in
    let spot : Spot = spot_at c.group_of-group.result.now c.loop-spot.spot-index in
    let is : slice_index_or c.group_of-group.result.now c.loop-spot.spot-index spot ≡ spot = spot_is c.group_of-group.result.now c.loop-spot.spot-index (omega arith) in
    let within = only_at (chunk_rows c.args.self.now) c.group_of-group.result.now (rows_of_trace c.args.trace (chunk_rows c.args.self.now)) c.loop-spot.spot-index spot are (omega arith) is in
    let here = row_found c.args.self.now spot.at (omega (arith, within, length_chunk_rows c.args.self.now)) ∙ ap (λ (row : Row). Some row) (sym c.in_ok-row.ensures) in
    group_more (chunk_rows c.args.self.now) c.group_of-group.result.now (rows_of_trace c.args.trace (chunk_rows c.args.self.now)) c.loop-spot.spot-index spot
    c.args.rows.now.items c.loop-spot.rows.items c.push.new.self.items c.in_ok-row.row are (omega arith) is here c.in_ok-push.ensures.items c.loop-spot.invariant

pub returns : goal.returns
returns c =
    let own : c.as_slice.result.now ≡ c.self.inside.body.value.order.items = search rules in
    let are : AreSpotsOf (chunk_rows c.args.self.now) c.group_of-group.result.now (rows_of_trace c.args.trace (chunk_rows c.args.self.now)) =
    group_at c.args.trace c.self.inside.body.value.order.items c.as_slice.result.now c.group_of-group.result.now (record { number = c.self.inside.number; spans = c.self.inside.body.value.batch.spans })
    c.args.self.now c.self.invariant c.self.view_is own c.group_of-group.ensures in
    group_all (chunk_rows c.args.self.now) c.group_of-group.result.now (rows_of_trace c.args.trace (chunk_rows c.args.self.now)) c.loop-spot.spot-index
    c.args.rows.now.items c.loop-spot.rows.items are (omega arith) c.loop-spot.invariant
