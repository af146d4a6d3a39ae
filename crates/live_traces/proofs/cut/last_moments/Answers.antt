use Rattle.std.proofs.Common.{rules, ◌≡◌, ◌∙◌, ap, sym, arith, take, unwrap_or, slice_index_or}
use Rattle.std.specs.BTreeMap.{get}
use Rattle.span_types.specs.Orders.{trace_cmp}
use Rattle.store_model.specs.After.{arrived}
use Rattle.store_model.specs.Cut.{last_moment}
use Rattle.live_traces.specs.Parts.{live_of}
use Rattle.live_traces.proofs.LiveRows.{last-append, live_of-more, take_more_of}
use Rattle.live_traces.proofs.cut.last_moments.Goals as goal

pub loop-entry-preserved : goal.loop-entry-preserved
loop-entry-preserved c = λ t.
    let here : slice_index_or c.args.entries.now c.loop-entry.entry-index c.entry-item.result ≡ c.entry-item.result = search rules in
    c.in_ok-note.ensures t
    ∙ ap (λ rows. last_moment t (unwrap_or (get trace_cmp c.loop-entry.last t) 0) (arrived c.entry-item.result.moment rows)) c.as_slice.ensures
    ∙ ap (λ before. last_moment t before (arrived c.entry-item.result.moment c.entry-item.result.run)) (c.loop-entry.invariant t)
    ∙ sym (last-append t 0 (live_of (take c.loop-entry.entry-index c.args.entries.now)) (arrived c.entry-item.result.moment c.entry-item.result.run))
    ∙ ap (last_moment t 0) (sym (live_of-more (take c.loop-entry.entry-index c.args.entries.now) c.entry-item.result)
    ∙ ap live_of (sym (take_more_of c.args.entries.now c.loop-entry.entry-index c.entry-item.result (omega arith) here)))
