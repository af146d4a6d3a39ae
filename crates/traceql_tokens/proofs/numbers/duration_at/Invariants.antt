use Rattle.std.proofs.Common.{◌-◌, ◌≤◌, length}
use Rattle.traceql_tokens.specs.Sums.{AreColumns}
use Rattle.traceql_tokens.proofs.Parts.{Adds}
use Rattle.traceql_tokens.proofs.numbers.duration_at.Given as goal

abbrev pub invariant-loop-part : goal.invariant-loop-part
invariant-loop-part l = (l.len ≤ length l.bytes) × AreColumns l.sum.columns.items × Adds l.sum l.len l.bytes

abbrev pub decreases-loop-part : goal.decreases-loop-part
decreases-loop-part l = length l.bytes - l.len
