-- So far the sum is that of the numbers that were passed, each of 64 bits.
use Rattle.std.proofs.Common.{◌≡◌, ◌*◌, ◌^◌, take, pos, neg_ℤ, ◌≤ℤ◌}
use Rattle.spanset_eval.specs.Stages.{total_of}
use Rattle.spanset_eval.proofs.amounts.total.Given as goal

abbrev pub invariant-loop-number : goal.invariant-loop-number
invariant-loop-number l =
    record { is : l.total ≡ total_of (take l.number-index l.numbers); low : neg_ℤ (pos (2 ^ 63 * l.number-index)) ≤ℤ l.total; high : l.total ≤ℤ pos (2 ^ 63 * l.number-index) }
