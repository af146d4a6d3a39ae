-- The batches so far are parted.
use Rattle.query_fanout.specs.Rounds.{AreInBatches, AreParted, all_waiting}
use Rattle.query_fanout.proofs.waits.part.Given as goal

abbrev pub invariant-loop-batch : goal.invariant-loop-batch
invariant-loop-batch l = AreParted l.bound (all_waiting l.yielded) l.few.items (all_waiting l.left.items) × AreInBatches l.left.items
