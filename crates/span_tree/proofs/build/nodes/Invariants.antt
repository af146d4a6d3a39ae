-- So far the list has what the relations see of the rows that were passed.
use Rattle.std.proofs.Common.{◌≡◌, map, take}
use Rattle.span_tree.specs.Nodes.{node_of}
use Rattle.span_tree.proofs.build.nodes.Given as goal

abbrev pub invariant-loop-row : goal.invariant-loop-row
invariant-loop-row l = l.nodes.items ≡ map node_of (take l.row-index l.rows)
