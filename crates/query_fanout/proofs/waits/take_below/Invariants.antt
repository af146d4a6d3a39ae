-- What was taken and what is left are all that waited.
use Rattle.std.proofs.Common.{◌≡◌, ◌++◌, ◌-◌, All, drop, length, true}
use Rattle.query_fanout.specs.Rounds.{is_below}
use Rattle.query_fanout.proofs.waits.take_below.Given as goal

abbrev pub invariant-loop-next : goal.invariant-loop-next
invariant-loop-next l = (l.few.items ++ drop l.next l.batch.picks.items ≡ l.fn.few.items ++ drop l.batch.next l.batch.picks.items)
    × (All (λ p. is_below l.bound p.trace ≡ true) l.fn.few.items → All (λ p. is_below l.bound p.trace ≡ true) l.few.items)

abbrev pub decreases-loop-next : goal.decreases-loop-next
decreases-loop-next l = length l.batch.picks.items - l.next
