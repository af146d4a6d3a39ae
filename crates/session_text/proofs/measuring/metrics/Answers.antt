use Rattle.std.proofs.Common.{[], inl, inr, refl, subst, sym}
use Rattle.std.proofs.lemmas.Result.{err_from_is_err_and}
use Rattle.traceql_syntax.specs.Trees.{QueryTree, query_tree}
use Rattle.traceql_types.specs.Asked.{asked_patterns}
use Rattle.traceql_types.specs.Checks.{Ascends}
use Rattle.traceql_types.proofs.Calls.{refuses-none}
use Rattle.traceql_types.proofs.InOrder.{metrics_ascend}
use Rattle.session_text.proofs.measuring.metrics.Goals as goal

pub fitted-requires : goal.fitted-requires
fitted-requires g c =
    let is = c.in_ok-found.ensures.query in
    subst (λ (q : QueryTree). Ascends (asked_patterns q)) (sym is.run) (metrics_ascend _ _ is.asked is.query.reads)

pub returns-in_err-found : goal.returns-in_err-found
returns-in_err-found g c =
    let p = err_from_is_err_and c.from_residual.result c.from_residual.ensures.1 in
    ([], refuses-none g.P.PatternMaker.makes _ c.args.maker.now c.args.maker.now, rw (p.1, p.2) (inl (c.in_err-found.ensures.refused, refl)))

pub returns-in_err-checked : goal.returns-in_err-checked
returns-in_err-checked g c =
    let p = err_from_is_err_and c.from_residual-in_err-checked.result c.from_residual-in_err-checked.ensures.1 in
    let fit = c.in_err-checked.ensures in
    let is = c.in_ok-found.ensures.query in
    (fit.0, fit.1, rw (p.1, p.2) (inr (record { tree = query_tree c.in_ok-found.found.query; query = (c.in_ok-found.found.rate, is); misfit = fit.2 })))

pub returns : goal.returns
returns g c =
    let fit = c.in_ok-checked.ensures in
    (fit.0, fit.1, (record { query = rw fit.2.0 c.in_ok-found.ensures.query; start = refl; end = refl; step = refl }, fit.2.1))
