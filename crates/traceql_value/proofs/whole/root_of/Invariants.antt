-- The root among the rows that were looked at, which are the last ones.
use Rattle.std.proofs.Common.{◌≡◌, ◌≤◌, drop, length, option_map}
use Rattle.traceql_value.specs.Spans.{root_of}
use Rattle.traceql_value.proofs.whole.root_of.Given as goal

abbrev pub invariant-loop-left : goal.invariant-loop-left
invariant-loop-left l = (l.left ≤ length l.rows) × (option_map (λ r. r.now) l.root ≡ root_of (drop l.left l.rows))

abbrev pub decreases-loop-left : goal.decreases-loop-left
decreases-loop-left l = l.left
