use Rattle.std.proofs.Common.{◌-◌, arith, subst}
use Rattle.live_traces.specs.ByTrace.{AreByTrace}
use Rattle.live_traces.proofs.Groups.{part_by_trace}
use Rattle.live_traces.proofs.run.Run.as_slice.Goals as goal

pub returns-clause-by_trace : goal.returns-clause-by_trace
returns-clause-by_trace c =
    subst AreByTrace c.self.view_is
    (part_by_trace c.self.inside.rows.items c.self.inside.from (c.self.inside.to - c.self.inside.from) (omega (arith, c.self.invariant.0, c.self.invariant.1)) c.self.invariant.2)
