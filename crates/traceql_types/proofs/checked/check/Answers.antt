use Rattle.std.proofs.Common.{◌∙◌, refl, ap}
use Rattle.std.proofs.lemmas.Result.{err_from_is_err_and}
use Rattle.traceql_syntax.specs.Trees.{query_tree}
use Rattle.traceql_types.specs.Makers.{refused_in}
use Rattle.traceql_types.proofs.Blamed.{blames-asked}
use Rattle.traceql_types.proofs.Calls.{refused_in_made}
use Rattle.traceql_types.proofs.checked.check.Goals as goal

pub returns-clause-blamed : goal.returns-clause-blamed
returns-clause-blamed g c =
    let asked = c.in_ok-patterns.ensures.asked in
    (refused_in asked.0, record { calls = asked.0; lead = asked.1; texts_are = refl }, λ asc. ap refused_in asked.2 ∙ refused_in_made c.in_ok-patterns.patterns)

pub returns-in_err-patterns-clause-blamed : goal.returns-in_err-patterns-clause-blamed
returns-in_err-patterns-clause-blamed g c =
    let p = err_from_is_err_and c.from_residual.result c.from_residual.ensures.1 in
    let asked = c.in_err-patterns.ensures.asked in
    (refused_in asked.0, record { calls = asked.0; lead = asked.1; texts_are = refl }, λ asc. rw (p.1, p.2) (blames-asked (query_tree c.args.query) _ asked.0 asked.2 asc))
