-- So far the list has the rows that the map gave.
use Rattle.std.proofs.Common.{◌≡◌}
use Rattle.span_types.proofs.first.rows_of.Given as goal

abbrev pub invariant-loop-row : goal.invariant-loop-row
invariant-loop-row l = l.kept.items ≡ l.yielded
