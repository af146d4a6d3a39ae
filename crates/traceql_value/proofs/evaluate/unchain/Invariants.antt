-- The operators that were passed make of the one that is reached the whole.
use Rattle.std.proofs.Common.{reverse}
use Rattle.traceql_syntax.specs.Trees.{tree}
use Rattle.traceql_value.specs.Chains.{Chains, tree_size}
use Rattle.traceql_value.proofs.evaluate.unchain.Given as goal

abbrev pub invariant-down : goal.invariant-down
invariant-down l = Chains (tree l.first) (reverse l.pending.items) (tree l.expr)

abbrev pub decreases-down : goal.decreases-down
decreases-down l = tree_size (tree l.first)
