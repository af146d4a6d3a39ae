-- So far the rows that were gone over were copied.
use Rattle.std.proofs.Common.{◌≡◌, take}
use Rattle.client_run.proofs.events.copies.Given as goal

abbrev pub invariant-loop-row : goal.invariant-loop-row
invariant-loop-row l = l.rows.items ≡ take l.row-index l.all
