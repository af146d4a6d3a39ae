-- The least of the scans so far.
use Rattle.query_fanout.proofs.LeastLaws.{LeastSoFar}
use Rattle.query_fanout.proofs.scans.least.Given as goal

abbrev pub invariant-loop-i : goal.invariant-loop-i
invariant-loop-i l = LeastSoFar l.scans l.i l.at l.upto
