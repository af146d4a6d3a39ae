-- The members of the chain that is left come first, and then those that were found, the last one first.
use Rattle.std.proofs.Common.{◌≡◌, ◌++◌}
use Rattle.std.specs.Prelude.{reverse}
use Rattle.traceql_syntax.specs.Trees.{tree}
use Rattle.traceql_value.specs.Chains.{tree_size}
use Rattle.column_scan.specs.Sieves.{column_members}
use Rattle.column_scan.specs.Sifting.{trees_of}
use Rattle.column_scan.proofs.members.column_members.Given as goal

abbrev pub invariant-down : goal.invariant-down
invariant-down l = column_members (tree l.first) ++ reverse (trees_of l.members.items) ≡ column_members (tree l.expr)

abbrev pub decreases-down : goal.decreases-down
decreases-down l = tree_size (tree l.first)
