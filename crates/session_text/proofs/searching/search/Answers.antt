use Rattle.std.proofs.Common.{[], inl, inr, refl}
use Rattle.std.proofs.lemmas.Result.{err_from_is_err_and}
use Rattle.traceql_syntax.specs.Trees.{query_tree}
use Rattle.traceql_types.proofs.Calls.{refuses-none}
use Rattle.traceql_types.proofs.InOrder.{reads_ascend}
use Rattle.session_text.proofs.searching.search.Goals as goal

pub fitted-requires : goal.fitted-requires
fitted-requires g c = reads_ascend _ _ _ c.in_ok-query.ensures.query.reads

pub returns-in_err-query : goal.returns-in_err-query
returns-in_err-query g c =
    let p = err_from_is_err_and c.from_residual.result c.from_residual.ensures.1 in
    ([], refuses-none g.P.PatternMaker.makes _ c.args.maker.now c.args.maker.now, rw (p.1, p.2) (inl (c.in_err-query.ensures.refused, refl)))

pub returns-in_err-checked : goal.returns-in_err-checked
returns-in_err-checked g c =
    let p = err_from_is_err_and c.from_residual-in_err-checked.result c.from_residual-in_err-checked.ensures.1 in
    let fit = c.in_err-checked.ensures in
    (fit.0, fit.1, rw (p.1, p.2) (inr (record { tree = query_tree c.in_ok-query.query; query = c.in_ok-query.ensures.query; misfit = fit.2 })))

pub returns : goal.returns
returns g c =
    let fit = c.in_ok-checked.ensures in (
      fit.0,
      fit.1,
      (record { query = rw fit.2.0 c.in_ok-query.ensures.query; range = refl; limit = refl; spans_per_set = refl }, fit.2.1),
    )
