use Rattle.std.proofs.Common.{◌∙◌, ◌++◌, ap}
use Rattle.rows_by_trace.specs.Traces.{rows_of_trace}
use Rattle.live_traces.proofs.rest.run_by_trace.Goals as goal

pub returns : goal.returns
returns c = λ t.
    ap (rows_of_trace t) c.in_ok-run.ensures ∙ c.in_ok-sort_by_trace.ensures.groups t
    ∙ ap (rows_of_trace t) (c.in_ok-share_each.ensures ∙ ap (λ q. q ++ c.args.rows.now) c.new-sorted.ensures.items)
