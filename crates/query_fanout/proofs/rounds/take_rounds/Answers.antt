use Rattle.std.proofs.Common.{rules, ◌∙◌}
use Rattle.std.proofs.lemmas.Result.{err_from_is_err_and}
use Rattle.query_fanout.specs.declared.rounds.Rounds.{Rounds}
use Rattle.query_fanout.proofs.EndLaws.{ends, ends_early, not_begun}
use Rattle.query_fanout.proofs.ReachLaws.{at_whole}
use Rattle.query_fanout.proofs.StageLaws.{begun}
use Rattle.query_fanout.proofs.rounds.take_rounds.Goals as goal

pub returns-in-Err : goal.returns-in-Err
returns-in-Err g c = λ seen of. not_begun g.P.LookPort.meaning c.args.look.now seen c.args.own.now c.args.asked.now c.args.port.now c.requires.open

pub loop-at-init : goal.loop-at-init
loop-at-init g c = (c.requires.sieve, λ seen of. begun g.P.LookPort.meaning c.args.look.now seen c.args.own.now c.args.asked.now c.args.picks.items c.in-Ok.rounds c.args.port.now c.requires.open of c.in-Ok.ensures)

pub one_round-requires-clause-open : goal.one_round-requires-clause-open
one_round-requires-clause-open g c κs within = (c.loop-at.invariant.1 c.requires.picks.0 c.requires.picks.1).reads.pages.stays.is_open

pub one_round-requires-clause-well : goal.one_round-requires-clause-well
one_round-requires-clause-well g c κs within = (c.loop-at.invariant.1 c.requires.picks.0 c.requires.picks.1).well

pub loop-at-preserved : goal.loop-at-preserved
loop-at-preserved g c = (c.one_round.ensures.sifter ∙ c.loop-at.invariant.0, λ seen of. c.in_ok-next.ensures.goes seen c.args.port.now (c.loop-at.invariant.1 seen of))

pub returns-in_err-next : goal.returns-in_err-next
returns-in_err-next g c = λ seen of.
    let p = err_from_is_err_and c.from_residual.result c.from_residual.ensures.1 in
    rw (p.1, p.2) (ends_early g.P.LookPort.meaning c.args.look.now seen c.args.own.now c.args.asked.now c.args.port.now c.one_round.new.port Rounds c.in_err-next.field-0.0
    (c.in_err-next.ensures.goes seen c.args.port.now (c.loop-at.invariant.1 seen of)))

pub take_gone-requires-clause-open : goal.take_gone-requires-clause-open
take_gone-requires-clause-open g c κs within = (c.loop-at.invariant.1 c.requires.picks.0 c.requires.picks.1).reads.pages.stays.is_open

pub take_gone-requires-clause-well : goal.take_gone-requires-clause-well
take_gone-requires-clause-well g c κs within = (c.loop-at.invariant.1 c.requires.picks.0 c.requires.picks.1).well

pub returns-in_err-all : goal.returns-in_err-all
returns-in_err-all g c = λ seen of.
    let p = err_from_is_err_and c.from_residual-in_err-all.result c.from_residual-in_err-all.ensures.1 in
    rw (p.1, p.2) (ends_early g.P.LookPort.meaning c.args.look.now seen c.args.own.now c.args.asked.now c.args.port.now c.take_gone.new.port Rounds c.in_err-all.field-0.0
    (c.in_err-all.ensures.goes seen c.args.port.now (c.loop-at.invariant.1 seen of)))

pub returns : goal.returns
returns g c = λ seen of.
    ends g.P.LookPort.meaning c.args.look.now seen c.args.own.now c.args.asked.now c.args.port.now c.take_gone.new.port c.taken_answer_the_whole.ensures c.in_ok-all.all
    (at_whole c.in_ok-all.all.gone c.in_ok-all.ensures.gone) (search (rules)) (c.in_ok-all.ensures.goes seen c.args.port.now (c.loop-at.invariant.1 seen of))
