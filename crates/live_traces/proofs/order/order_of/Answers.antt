use Rattle.live_traces.specs.Rows.{chunk_rows}
use Rattle.live_traces.proofs.Spots.{order_groups}
use Rattle.live_traces.proofs.order.order_of.Goals as goal

pub returns : goal.returns
returns c = λ p e.
    order_groups c.in_ok-order.order.items c.sort_by_trace.new.items.items (chunk_rows p) (c.in_ok-order.ensures p e) c.in_ok-sort_by_trace.ensures.sorted c.in_ok-sort_by_trace.ensures.groups
