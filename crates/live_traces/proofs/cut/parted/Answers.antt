use Rattle.std.proofs.Common.{rules, ◌≡◌, ◌∙◌, ◌++◌, ap, sym, arith, filter, not, take, slice_index_or}
use Rattle.store_model.specs.State.{live_rows}
use Rattle.store_model.specs.After.{arrived}
use Rattle.live_traces.specs.Parts.{live_of}
use Rattle.live_traces.specs.Going.{goes_with, row_goes}
use Rattle.live_traces.proofs.LiveRows.{moved_more, stay_more, take_more_of}
use Rattle.live_traces.proofs.cut.parted.Goals as goal

pub loop-entry-preserved : goal.loop-entry-preserved
loop-entry-preserved c =
    let here : slice_index_or c.args.all.now c.loop-entry.entry-index c.entry-item.result ≡ c.entry-item.result = search rules in
    let more = take_more_of c.args.all.now c.loop-entry.entry-index c.entry-item.result (omega arith) here in
    record {
      moved = moved_more (row_goes c.args.idle c.args.last.now) c.loop-entry.moved.items c.sift.new.moved.items (take c.loop-entry.entry-index c.args.all.now) c.entry-item.result
          (c.in_ok-rest.ensures.moved ∙ ap (λ rows. c.loop-entry.moved.items ++ filter (row_goes c.args.idle c.args.last.now) rows) c.as_slice.ensures) c.loop-entry.invariant.moved
          ∙ ap (λ es. live_rows (filter (goes_with c.args.idle c.args.last.now) (live_of es))) (sym more);
      stay = stay_more (row_goes c.args.idle c.args.last.now) (live_of c.loop-entry.stay.items) (live_of c.add_entry.new.stay.items) (take c.loop-entry.entry-index c.args.all.now) c.entry-item.result
          (c.in_ok-add_entry.ensures ∙ ap (λ rows. live_of c.loop-entry.stay.items ++ arrived c.entry-item.result.moment rows)
          (c.in_ok-rest.ensures.stay ∙ ap (filter (λ row. not (row_goes c.args.idle c.args.last.now row))) c.as_slice.ensures)) c.loop-entry.invariant.stay
          ∙ ap (λ es. filter (λ e. not (goes_with c.args.idle c.args.last.now e)) (live_of es)) (sym more);
    }
