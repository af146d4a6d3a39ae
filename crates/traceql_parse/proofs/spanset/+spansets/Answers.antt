use Rattle.std.proofs.Common.{◌∙◌, sym, ap}
use Rattle.std.proofs.lemmas.Result.{err_from_is_err_and}
use Rattle.traceql_syntax.specs.Trees.{SetTree, set_tree}
use Rattle.traceql_parse.specs.Code.{set_item_tree}
use Rattle.traceql_parse.specs.Descent.{set_more, set_operand_of, sets, sets_below}
use Rattle.traceql_parse.proofs.SetLoops.{set_more_steps, sets_halt}
use Rattle.traceql_parse.proofs.spanset.+spansets.Goals as goal

pub read_sets-returns-in_err-item : goal.read_sets-returns-in_err-item
read_sets-returns-in_err-item t c =
    let p = err_from_is_err_and c.from_residual-in_err-item.result c.from_residual-in_err-item.ensures.1 in
    rw (p.1, p.2) (sets_halt c.in_err-item.field-0.0 c.args.depth c.args.level (set_tree c.items.left) c.items.rest.now (sets c.args.depth (sets_below c.args.depth) c.args.level c.args.tokens.now) (sym c.set_goes_on.ensures ∙ c.items-test.true) c.in_err-item.ensures c.items.invariant)

pub read_sets-items-preserved : goal.read_sets-items-preserved
read_sets-items-preserved t c =
    ap (λ (z : SetTree). set_more c.args.level (set_operand_of c.args.depth (sets_below c.args.depth) c.args.level) z c.in_ok-item.after.now) c.in_ok-left-2.ensures
    ∙ sym (set_more_steps c.args.depth c.args.level (set_tree c.items.left) c.items.rest.now (set_item_tree c.in_ok-item.item) c.in_ok-item.after.now (sym c.set_goes_on.ensures ∙ c.items-test.true) c.in_ok-item.ensures)
    ∙ c.items.invariant
