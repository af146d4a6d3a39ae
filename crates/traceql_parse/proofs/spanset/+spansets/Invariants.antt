use Rattle.std.proofs.Common.{◌≡◌, ◌+◌, ◌*◌, length}
use Rattle.traceql_syntax.specs.Trees.{set_tree}
use Rattle.traceql_parse.specs.Descent.{set_more, set_operand_of, sets, sets_below}
use Rattle.traceql_parse.proofs.SetDepth.{set_rank}
use Rattle.traceql_parse.proofs.spanset.+spansets.Given as goal

abbrev pub decreases-read_set_parens : goal.decreases-read_set_parens
decreases-read_set_parens l = l.depth * 20

abbrev pub decreases-read_part : goal.decreases-read_part
decreases-read_part l = l.depth * 20 + 1

abbrev pub decreases-read_set_operand : goal.decreases-read_set_operand
decreases-read_set_operand l = l.depth * 20 + (2 + set_rank l.level)

abbrev pub decreases-read_set_item : goal.decreases-read_set_item
decreases-read_set_item l = l.depth * 20 + (3 + set_rank l.level)

abbrev pub decreases-read_sets : goal.decreases-read_sets
decreases-read_sets l = l.depth * 20 + (4 + set_rank l.level)

abbrev pub invariant-read_sets-items : goal.invariant-read_sets-items
invariant-read_sets-items l = set_more l.level (set_operand_of l.depth (sets_below l.depth) l.level) (set_tree l.left) l.rest ≡ sets l.fn.depth (sets_below l.fn.depth) l.fn.level l.fn.tokens

abbrev pub decreases-read_sets-items : goal.decreases-read_sets-items
decreases-read_sets-items l = length l.rest
