-- What is left is to go on after the best row so far.
use Rattle.std.proofs.Common.{◌≡◌, ◌++◌, drop}
use Rattle.block_build.specs.Settling.{firsts_behind}
use Rattle.block_build.proofs.order.firsts_by_id.Given as goal

abbrev pub invariant-loop-next : goal.invariant-loop-next
invariant-loop-next l = l.firsts.items ++ firsts_behind l.best (drop l.next-index l.rest) ≡ firsts_behind l.initial.best l.rest
