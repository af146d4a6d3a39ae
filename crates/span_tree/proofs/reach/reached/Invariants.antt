-- What was found and what is ahead, and that each visit leaves less to do.
use Rattle.std.proofs.Common.{◌+◌, ◌*◌, ◌≤◌, length}
use Rattle.span_tree.proofs.ReachLaws.{Walked, left}
use Rattle.span_tree.proofs.reach.reached.Given as goal

abbrev pub invariant-loop-position : goal.invariant-loop-position
invariant-loop-position g l = record { walked : Walked l.fn.starts.items l.one l.other l.count l.found l.ahead.items; steps : l.steps + left l.found l.ahead.items ≤ l.fn.steps + length l.fn.starts.items + 2 * l.count; forward : l.fn.steps ≤ l.steps }

abbrev pub decreases-loop-position : goal.decreases-loop-position
decreases-loop-position g l = left l.found l.ahead.items
