use Rattle.std.proofs.Common.{rules, ◌≡◌, ◌∙◌, ◌++◌, ap, sym, arith, filter, not, take, unwrap_or, slice_index_or}
use Rattle.std.specs.BTreeMap.{get}
use Rattle.span_types.specs.Orders.{trace_cmp}
use Rattle.live_traces.specs.Parts.{goes_by}
use Rattle.live_traces.specs.Going.{row_goes}
use Rattle.live_traces.proofs.LiveRows.{put_moved, put_stay, take_more_of}
use Rattle.live_traces.proofs.cut.sift.Goals as goal

pub loop-row-preserved : goal.loop-row-preserved
loop-row-preserved c =
    let here : slice_index_or c.args.rows.now c.loop-row.row-index c.row-item.result ≡ c.row-item.result = search rules in
    let more = take_more_of c.args.rows.now c.loop-row.row-index c.row-item.result (omega arith) here in
    let test : c.is_to_go-goes.result ≡ row_goes c.args.idle c.args.last.now c.row-item.result =
    c.is_to_go-goes.ensures ∙ ap (λ t. goes_by c.args.idle (unwrap_or (get trace_cmp c.args.last.now t) 0)) c.trace-trace.ensures in
    record {
      moved = put_moved (row_goes c.args.idle c.args.last.now) c.args.moved.now.items c.loop-row.moved.items c.put.new.moved.items (take c.loop-row.row-index c.args.rows.now)
          c.in_ok-row.row c.row-item.result c.is_to_go-goes.result c.in_ok-put.ensures.moved c.in_ok-row.ensures test c.loop-row.invariant.moved
          ∙ ap (λ rows. c.args.moved.now.items ++ filter (row_goes c.args.idle c.args.last.now) rows) (sym more);
      stay = put_stay (row_goes c.args.idle c.args.last.now) c.loop-row.stay.items c.put.new.stay.items (take c.loop-row.row-index c.args.rows.now)
          c.in_ok-row.row c.row-item.result c.is_to_go-goes.result c.in_ok-put.ensures.stay c.in_ok-row.ensures test c.loop-row.invariant.stay
          ∙ ap (filter (λ row. not (row_goes c.args.idle c.args.last.now row))) (sym more);
    }
