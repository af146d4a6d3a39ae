use Rattle.std.proofs.Common.{◌∙◌, sym}
use Rattle.std.proofs.lemmas.Result.{err_from_is_err_and}
use Rattle.traceql_syntax.specs.Trees.{placed}
use Rattle.traceql_parse.specs.Descent.{below, grouped}
use Rattle.traceql_parse.proofs.Loops.{level_halts}
use Rattle.traceql_parse.proofs.field.+fields.Goals as goal

pub read_level-returns-in_err-item : goal.read_level-returns-in_err-item
read_level-returns-in_err-item t c =
    let p = err_from_is_err_and c.from_residual-in_err-item.result c.from_residual-in_err-item.ensures.1 in
    rw (p.1, p.2) (level_halts c.in_err-item.field-0.0 c.args.depth c.args.level (placed c.items.left) c.items.rest.now (grouped (below c.args.depth) c.args.level c.args.tokens.now) (sym c.goes_on.ensures ∙ c.items-test.true) c.in_err-item.ensures c.items.invariant)
