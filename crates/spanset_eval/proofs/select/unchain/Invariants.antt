-- The operators that were passed make of the one that is reached the whole.
use Rattle.std.proofs.Common.{reverse}
use Rattle.traceql_syntax.specs.Trees.{set_tree}
use Rattle.spanset_eval.specs.Chains.{Chains, set_size}
use Rattle.spanset_eval.proofs.select.unchain.Given as goal

abbrev pub invariant-down : goal.invariant-down
invariant-down l = Chains (set_tree l.first) (reverse l.pending.items) (set_tree l.expr)

abbrev pub decreases-down : goal.decreases-down
decreases-down l = set_size (set_tree l.first)
