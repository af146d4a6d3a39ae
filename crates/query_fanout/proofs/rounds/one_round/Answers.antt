use Rattle.std.proofs.lemmas.Result.{err_from_is_err_and}
use Rattle.query_fanout.proofs.rounds.one_round.Goals as goal

pub returns-clause-goes : goal.returns-clause-goes
returns-clause-goes g c = λ seen start r. c.go_on_at.ensures.goes seen start (c.in_ok-taken.ensures.goes seen start r)

pub returns-in_err-taken-clause-goes : goal.returns-in_err-taken-clause-goes
returns-in_err-taken-clause-goes g c = λ seen start r.
    let p = err_from_is_err_and c.from_residual.result c.from_residual.ensures.1 in
    rw (p.1, p.2) (c.in_err-taken.ensures.goes seen start r)
