-- Which rows are gone over, and what is found of them.
use Rattle.std.proofs.Common.{drop}
use Rattle.block_build.specs.Merging.{GoneOver}
use Rattle.block_build.proofs.order.firsts_by_trace.Given as goal

abbrev pub invariant-loop-row : goal.invariant-loop-row
invariant-loop-row l = GoneOver l.rows l.group.items (drop l.row-index l.rows) l.firsts.items
