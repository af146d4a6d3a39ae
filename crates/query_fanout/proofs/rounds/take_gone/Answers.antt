use Rattle.std.proofs.Common.{rules, refl}
use Rattle.std.proofs.lemmas.Result.{err_from_is_err_and}
use Rattle.query_fanout.specs.declared.rounds.Rounds.{Rounds}
use Rattle.query_fanout.proofs.ReachLaws.{no_further, to_itself}
use Rattle.query_fanout.proofs.StageLaws.{starved, taken_fails, taken_then}
use Rattle.query_fanout.proofs.rounds.take_gone.Goals as goal

pub returns-then-not-goes_to-clause-goes : goal.returns-then-not-goes_to-clause-goes
returns-then-not-goes_to-clause-goes g c = λ seen start r. r

pub returns-then-not-goes_to-clause-gone : goal.returns-then-not-goes_to-clause-gone
returns-then-not-goes_to-clause-gone g c = no_further c.args.rounds.gone c.args.bound (search (rules))

pub returns-in-Err-clause-goes : goal.returns-in-Err-clause-goes
returns-in-Err-clause-goes g c = λ seen start r. starved g.P.LookPort.meaning c.args.look.now seen c.args.own.now c.args.asked.now Rounds c.args.rounds start c.args.port.now r

pub returns-clause-goes : goal.returns-clause-goes
returns-clause-goes g c = λ seen start r.
    taken_then g.P.LookPort.meaning c.args.look.now seen c.args.own.now c.args.asked.now c.args.rounds start c.args.port.now c.take_picks.new.port c.args.bound
    c.in-Ok.ensures.parted.0 _ c.in-Ok.parted.0.items r (search (rules)) c.requires.reach c.in-Ok.ensures.parted.1 c.in-Ok.ensures.parted.2 c.in-Ok.ensures.parted.3
    _ (record { batches = c.in-Ok.ensures.batches; infos = c.requires.well.infos }) refl refl refl c.in_ok-best.ensures

pub returns-in_err-best-clause-goes : goal.returns-in_err-best-clause-goes
returns-in_err-best-clause-goes g c = λ seen start r.
    let p = err_from_is_err_and c.from_residual.result c.from_residual.ensures.1 in
    rw (p.1, p.2) (taken_fails g.P.LookPort.meaning c.args.look.now seen c.args.own.now c.args.asked.now c.args.rounds start c.args.port.now c.take_picks.new.port c.args.bound
    c.in-Ok.ensures.parted.0 _ c.in-Ok.parted.0.items r (search (rules)) c.requires.reach c.in-Ok.ensures.parted.1 c.in-Ok.ensures.parted.2 c.in-Ok.ensures.parted.3
    Rounds c.in_err-best.field-0.0 c.in_err-best.ensures)

pub returns-clause-gone : goal.returns-clause-gone
returns-clause-gone g c = to_itself c.args.bound
