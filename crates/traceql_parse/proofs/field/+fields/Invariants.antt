use Rattle.std.proofs.Common.{◌≡◌, ◌+◌, ◌*◌, length}
use Rattle.traceql_syntax.specs.Trees.{placed}
use Rattle.traceql_parse.specs.Descent.{below, grouped, more, operand_of}
use Rattle.traceql_parse.proofs.Ranks.{level_rank}
use Rattle.traceql_parse.proofs.field.+fields.Given as goal

abbrev pub decreases-read_atom : goal.decreases-read_atom
decreases-read_atom l = l.depth * 20 + 1

abbrev pub decreases-read_exponent : goal.decreases-read_exponent
decreases-read_exponent l = l.depth * 20

abbrev pub decreases-read_item : goal.decreases-read_item
decreases-read_item l = l.depth * 20 + (5 + level_rank l.level)

abbrev pub decreases-read_level : goal.decreases-read_level
decreases-read_level l = l.depth * 20 + (6 + level_rank l.level)

abbrev pub decreases-read_operand : goal.decreases-read_operand
decreases-read_operand l = l.depth * 20 + (4 + level_rank l.level)

abbrev pub decreases-read_parens : goal.decreases-read_parens
decreases-read_parens l = l.depth * 20

abbrev pub decreases-read_power : goal.decreases-read_power
decreases-read_power l = l.depth * 20 + 3

abbrev pub decreases-read_prefixed : goal.decreases-read_prefixed
decreases-read_prefixed l = l.depth * 20 + 2

abbrev pub invariant-read_level-items : goal.invariant-read_level-items
invariant-read_level-items l = more l.level (operand_of (below l.depth) l.level) (placed l.left) l.rest ≡ grouped (below l.fn.depth) l.fn.level l.fn.tokens

abbrev pub decreases-read_level-items : goal.decreases-read_level-items
decreases-read_level-items l = length l.rest
