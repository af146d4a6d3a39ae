-- Which rows are gone over, and what is found of them.
use Rattle.block_build.specs.Merging.{GoneOver}
use Rattle.compactor.proofs.merge.firsts_by_trace.Given as goal

abbrev pub invariant-loop-row : goal.invariant-loop-row
invariant-loop-row l = GoneOver l.fn.rows l.group.items l.row-iterator.rest.items l.firsts.items
