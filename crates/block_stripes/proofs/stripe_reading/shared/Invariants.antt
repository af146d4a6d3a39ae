-- The values so far, and those that are left, are the table's.
use Rattle.std.proofs.Common.{◌≡◌, ◌++◌}
use Rattle.block_stripes.proofs.stripe_reading.shared.Given as goal

abbrev pub invariant-loop-value : goal.invariant-loop-value
invariant-loop-value g l = l.values.items ++ l.value-iterator ≡ l.fn.table.keys
