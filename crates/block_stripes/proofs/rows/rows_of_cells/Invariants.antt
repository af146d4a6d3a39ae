-- The rows so far, and those of the cells that are left, are all rows.
use Rattle.std.proofs.Common.{◌≡◌, ◌++◌}
use Rattle.std.specs.List.{AllByRecursion}
use Rattle.block_stripes.specs.StripeReadings.{rows_of}
use Rattle.block_stripes.specs.Stripes.{IsNamed}
use Rattle.block_stripes.proofs.rows.rows_of_cells.Given as goal

abbrev pub invariant-loop-one : goal.invariant-loop-one
invariant-loop-one l = (l.rows.items ++ rows_of l.one-iterator.rest.items ≡ rows_of l.fn.cells.items) × AllByRecursion IsNamed l.one-iterator.rest.items
