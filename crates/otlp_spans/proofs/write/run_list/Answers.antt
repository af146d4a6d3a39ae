use Rattle.std.proofs.Common.{arith, eqb-true, length, sym}
use Rattle.std.proofs.lemmas.Grind.{common_steps}
use Rattle.span_runs.specs.Runs.{of_one}
use Rattle.span_runs.proofs.RunLaws.{no_runs_hold, runs_hold}
use Rattle.otlp_spans.proofs.write.run_list.Goals as goal

pub loop-rest-preserved : goal.loop-rest-preserved
loop-rest-preserved g c = (
  grind (arith, common_steps, c.loop-rest.invariant.0, c.first_run.ensures.runs, c.in_ok-run.ensures.json),
  λ later. c.loop-rest.invariant.1 (runs_hold g.O.RunJson.Fits _ _ _ c.first_run.ensures.runs c.in_ok-run.ensures.fits later),
)

pub returns-clause-fits : goal.returns-clause-fits
returns-clause-fits g c =
    c.loop-rest.invariant.1
    (no_runs_hold g.O.RunJson.Fits (of_one g.O.PartialEq.eq g.O.Origin.of) (λ row. row.span) c.loop-rest.rest.now (eqb-true (length c.loop-rest.rest.now) 0 (sym c.loop-rest-test.ensures)))
