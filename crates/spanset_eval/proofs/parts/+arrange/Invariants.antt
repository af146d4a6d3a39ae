-- Each half is shorter.
use Rattle.std.proofs.Common.{length}
use Rattle.spanset_eval.proofs.parts.+arrange.Given as goal

abbrev pub decreases-arrange : goal.decreases-arrange
decreases-arrange l = length l.valued.now
