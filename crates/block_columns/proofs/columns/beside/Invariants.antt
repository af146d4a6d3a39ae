use Rattle.std.proofs.Common.{◌≡◌, ◌++◌}
use Rattle.block_columns.specs.ColumnReadings.{beside}
use Rattle.block_columns.proofs.columns.beside.Given as goal

abbrev pub invariant-loop-row : goal.invariant-loop-row
invariant-loop-row g l = l.rows.items ++ beside l.row-iterator.a.rest.items l.row-iterator.b.rest.items ≡ beside l.fn.left.items l.fn.right.items
