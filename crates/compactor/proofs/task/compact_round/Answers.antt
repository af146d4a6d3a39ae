use Rattle.compactor.proofs.RoundLaws.{all_made, by_step, leaves_fewer, none_found}
use Rattle.compactor.proofs.task.compact_round.Goals as goal

pub returns-in-Ended-clause-made : goal.returns-in-Ended-clause-made
returns-in-Ended-clause-made g c = all_made g.P.LookPort.meaning c.args.port.now c.step.new.port c.step.new.self c.in-Ended.round
    (by_step g.P.LookPort.meaning c.args.port.now c.loop-round.port c.step.new.port c.loop-round.task c.step.new.self c.loop-round.invariant c.step.ensures.steps c.step.ensures.fits c.step.ensures.found)
    c.in-Ended.ensures.answers

pub returns-in-Ended-clause-told : goal.returns-in-Ended-clause-told
returns-in-Ended-clause-told g c = none_found g.P.LookPort.meaning c.args.port.now c.step.new.port c.step.new.self c.in-Ended.round
    (by_step g.P.LookPort.meaning c.args.port.now c.loop-round.port c.step.new.port c.loop-round.task c.step.new.self c.loop-round.invariant c.step.ensures.steps c.step.ensures.fits c.step.ensures.found)
    c.in-Ended.ensures.answers

pub loop-round-preserved : goal.loop-round-preserved
loop-round-preserved g c =
    by_step g.P.LookPort.meaning c.args.port.now c.loop-round.port c.step.new.port c.loop-round.task c.step.new.self c.loop-round.invariant c.step.ensures.steps c.step.ensures.fits c.step.ensures.found

pub loop-round-smaller : goal.loop-round-smaller
loop-round-smaller g c =
    leaves_fewer g.P.LookPort.meaning c.loop-round.port c.step.new.port c.loop-round.task c.step.new.self c.step.ensures.steps c.in-More.ensures.answers c.step.ensures.left
