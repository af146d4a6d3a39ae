-- So far the map has the positions that were passed.
use Rattle.std.specs.BTreeMap.{get}
use Rattle.span_types.specs.Orders.{span_cmp}
use Rattle.span_tree.proofs.BuildLaws.{StandsBelow}
use Rattle.span_tree.proofs.build.positions.Given as goal

abbrev pub invariant-loop-position : goal.invariant-loop-position
invariant-loop-position l = StandsBelow l.nodes (get span_cmp l.positions) l.position
