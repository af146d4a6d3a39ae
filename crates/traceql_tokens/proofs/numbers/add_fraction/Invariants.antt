use Rattle.std.proofs.Common.{◌≡◌, ◌+◌, ◌-◌, ◌*◌, ◌^◌, ◌≤◌, length, drop}
use Rattle.traceql_tokens.specs.Bytes.{decimal}
use Rattle.traceql_tokens.specs.Sums.{AreColumns, column_value}
use Rattle.traceql_tokens.proofs.numbers.add_fraction.Given as goal

abbrev pub invariant-loop-left : goal.invariant-loop-left
invariant-loop-left l =
    (l.left ≤ length l.fraction) × AreColumns l.columns × (l.carry ≤ 4_000_000_000_000)
    × (column_value l.columns + l.carry * 10 ^ (length l.columns - l.left) ≡ column_value l.initial.columns + l.nanos * decimal (drop l.left l.fraction) * 10 ^ (length l.columns - length l.fraction))

abbrev pub decreases-loop-left : goal.decreases-loop-left
decreases-loop-left l = l.left
