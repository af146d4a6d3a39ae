-- So far the table has what the map has for the parents of the spans that were passed.
use Rattle.std.proofs.Common.{◌≡◌, map, take}
use Rattle.std.specs.Option.{option_and_then}
use Rattle.std.specs.BTreeMap.{get}
use Rattle.span_types.specs.Orders.{span_cmp}
use Rattle.span_tree.proofs.build.parents.Given as goal

abbrev pub invariant-loop-node : goal.invariant-loop-node
invariant-loop-node l = l.parents.items ≡ map (λ n. option_and_then (get span_cmp l.positions) n.parent) (take l.node-index l.nodes)
