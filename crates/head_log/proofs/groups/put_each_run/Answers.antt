use Rattle.std.proofs.Common.{eqb-true, length, sym}
use Rattle.span_runs.specs.Runs.{of_one}
use Rattle.span_runs.proofs.RunLaws.{runs_hold}
use Rattle.head_log.specs.Bodies.{run_bytes}
use Rattle.head_log.specs.Written.{IsSoundRun}
use Rattle.head_log.proofs.Promised.{no_runs, run_written}
use Rattle.head_log.proofs.groups.put_each_run.Goals as goal

pub loop-rest-preserved : goal.loop-rest-preserved
loop-rest-preserved g c =
    let of = g.G.Origin.of in
    let e = c.in_ok-put_run.ensures in (
      run_written (run_bytes of g.G.Encode.encoding (g.G.Group.content_bytes c.args.extended)) _ _ _ _ _ _ c.loop-rest.invariant.0 c.first.ensures.runs e.written,
      λ later. c.loop-rest.invariant.1 (runs_hold (IsSoundRun of g.G.Encode.promise (g.G.Group.content_promise c.args.extended)) _ _ _ c.first.ensures.runs e.sound later),
    )

pub returns-clause-sound : goal.returns-clause-sound
returns-clause-sound g c =
    c.loop-rest.invariant.1 (no_runs (IsSoundRun g.G.Origin.of g.G.Encode.promise (g.G.Group.content_promise c.args.extended)) (of_one g.G.PartialEq.eq g.G.Origin.of) c.loop-rest.rest.now (eqb-true (length c.loop-rest.rest.now) 0 (sym c.loop-rest-test.ensures)))
