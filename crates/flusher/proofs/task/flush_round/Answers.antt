use Rattle.flusher.proofs.RoundLaws.{all_made, by_step}
use Rattle.flusher.proofs.task.flush_round.Goals as goal

pub returns-in-Ended : goal.returns-in-Ended
returns-in-Ended g c = all_made g.P.LookPort.meaning c.args.port.now c.step.new.port c.step.new.self c.in-Ended.round
    (by_step g.P.LookPort.meaning c.args.port.now c.loop-round.port c.step.new.port c.loop-round.task c.step.new.self c.loop-round.invariant c.step.ensures.steps c.step.ensures.fits)
    c.in-Ended.ensures.answers

pub loop-round-preserved : goal.loop-round-preserved
loop-round-preserved g c =
    by_step g.P.LookPort.meaning c.args.port.now c.loop-round.port c.step.new.port c.loop-round.task c.step.new.self c.loop-round.invariant c.step.ensures.steps c.step.ensures.fits
