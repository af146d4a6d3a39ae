-- The text of the chain that is left comes first, then that of the members that were passed.
use Rattle.std.proofs.Common.{◌≡◌}
use Rattle.std.specs.Option.{option_map, option_or}
use Rattle.traceql_syntax.specs.Trees.{tree}
use Rattle.traceql_value.specs.Chains.{tree_size}
use Rattle.column_scan.specs.Hints.{chain_text}
use Rattle.column_scan.proofs.query.chain_text.Given as goal

abbrev pub invariant-down : goal.invariant-down
invariant-down l = option_or (chain_text (tree l.first)) (option_map (λ t. t.now) l.found) ≡ chain_text (tree l.expr)

abbrev pub decreases-down : goal.decreases-down
decreases-down l = tree_size (tree l.first)
