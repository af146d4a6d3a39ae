use Rattle.std.proofs.Common.{◌≡◌, ◌∙◌, ◌++◌, ap, unwrap_or, List, filter, not}
use Rattle.std.specs.BTreeMap.{get}
use Rattle.span_types.specs.declared.ids.TraceId.{TraceId}
use Rattle.span_types.specs.Orders.{trace_cmp}
use Rattle.store_model.specs.State.{LiveRow, live_rows}
use Rattle.store_model.specs.Cut.{last_moment}
use Rattle.live_traces.specs.Parts.{live_of, arrivals_of}
use Rattle.live_traces.specs.Going.{goes_with}
use Rattle.live_traces.proofs.LiveRows.{going, staying}
use Rattle.live_traces.proofs.cut.parts.Goals as goal

pub returns : goal.returns
returns c =
    let live : List LiveRow = live_of c.args.entries.now ++ arrivals_of c.args.arrivals.now in
    let all : live_of c.explode.new.all.items ≡ live = c.in_ok-explode.ensures ∙ ap (λ q. q ++ arrivals_of c.args.arrivals.now) c.in_ok-all.ensures in
    let last : (t : TraceId) → unwrap_or (get trace_cmp c.in_ok-last.last t) 0 ≡ last_moment t 0 (live_of c.explode.new.all.items) =
    λ t. c.in_ok-last.ensures t ∙ ap (λ es. last_moment t 0 (live_of es)) c.as_slice.ensures.value in (
      c.in_ok-parts.ensures.0 ∙ ap (λ es. live_rows (filter (goes_with c.args.idle c.in_ok-last.last) (live_of es))) c.as_slice-2.ensures.value ∙ ap live_rows (going c.args.idle c.in_ok-last.last (live_of c.explode.new.all.items) live all last),
      c.in_ok-parts.ensures.1 ∙ ap (λ es. filter (λ e. not (goes_with c.args.idle c.in_ok-last.last e)) (live_of es)) c.as_slice-2.ensures.value ∙ staying c.args.idle c.in_ok-last.last (live_of c.explode.new.all.items) live all last,
    )
