use Rattle.std.proofs.Common.{◌≡◌, ◌+◌, ◌∙◌, arith, ap, length, subst, sym, take, slice_index_or}
use Rattle.span_types.specs.BatchParts.{BatchParts}
use Rattle.live_traces.specs.Rows.{chunk_rows, no_span, row_of}
use Rattle.live_traces.specs.Order.{AreSpotsOf}
use Rattle.live_traces.proofs.ChunkRows.{length_chunk_rows, one_more, row_found, take_whole}
use Rattle.live_traces.proofs.Spots.{noted_more, spots_begin}
use Rattle.live_traces.proofs.order.spots_in.Goals as goal

pub loop-at-init : goal.loop-at-init
loop-at-init c = λ p e. spots_begin (chunk_rows p) c.new-spots.result.items c.new-spots.ensures.items

pub loop-at-preserved : goal.loop-at-preserved
loop-at-preserved c = λ p e.
    let size : length c.batch.inside.spans ≡ length p.spans = ap (λ (b : BatchParts). length b.spans) c.batch.view_is ∙ sym (ap length e) in
    noted_more (chunk_rows p) (take c.loop-at.at (chunk_rows p)) (take (c.loop-at.at + 1) (chunk_rows p)) c.loop-at.spots.items c.push.new.self.items
    (record { trace = c.trace_at-trace.result; at = c.loop-at.at }) (row_of p c.loop-at.at) (c.loop-at.invariant p e)
    c.in_ok-push.ensures.items (c.trace_at-trace.ensures ∙ ap (λ spans. (slice_index_or spans c.loop-at.at no_span).trace) (sym e))
    (row_found p c.loop-at.at (omega (arith, size))) (one_more p c.loop-at.at (omega (arith, size)))

pub returns : goal.returns
returns c = λ p e.
    let size : length c.batch.inside.spans ≡ length p.spans = ap (λ (b : BatchParts). length b.spans) c.batch.view_is ∙ sym (ap length e) in
    subst (AreSpotsOf (chunk_rows p) c.loop-at.spots.items)
    (take_whole (chunk_rows p) c.loop-at.at (omega (arith, length_chunk_rows p, size))) (c.loop-at.invariant p e)
