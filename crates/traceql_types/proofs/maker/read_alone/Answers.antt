use Rattle.traceql_types.proofs.Readings.{readable_from, unreadable_from, same_cause, done_not_refused}
use Rattle.traceql_types.proofs.maker.read_alone.Goals as goal
use Rattle.traceql_types.proofs.maker.read_alone.Goals.{in-Ok, in-Err}

pub returns-clause-readable : goal.returns-clause-readable
returns-clause-readable c =
    elim c.match-parse.branch [
      | in-Ok w ↦ rw w.result-is (readable_from c.args.text.now _ _ (rw c.default.ensures at w.in-Ok.ensures.ok))
      | in-Err w ↦ rw w.result-is tt
    ]

pub returns-clause-syntax : goal.returns-clause-syntax
returns-clause-syntax c =
    elim c.match-parse.branch [
      | in-Ok w ↦ rw w.result-is (λ is. absurd (done_not_refused _ _ is))
      | in-Err w ↦ rw w.result-is (λ is.
          unreadable_from c.args.text.now _ (rw c.default.ensures at w.in-Err.ensures.err) (w.fault_of.ensures.syntax (same_cause _ _ is)))
    ]
