use Rattle.compactor.specs.Phases.{IsUnderWay}
use Rattle.compactor.specs.Tasks.{steps_left}
use Rattle.compactor.proofs.task.compact_round.Given as goal

abbrev pub invariant-loop-round : goal.invariant-loop-round
invariant-loop-round g l = IsUnderWay g.P.LookPort.meaning l.fn.port l.task l.port

abbrev pub decreases-loop-round : goal.decreases-loop-round
decreases-loop-round g l = steps_left l.task
