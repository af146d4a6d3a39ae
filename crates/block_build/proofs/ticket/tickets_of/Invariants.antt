-- The rows so far.
use Rattle.std.proofs.Common.{◌≡◌, take}
use Rattle.block_build.proofs.ticket.tickets_of.Given as goal

abbrev pub invariant-loop-row : goal.invariant-loop-row
invariant-loop-row l = l.tickets.items ≡ take l.row-index l.rows
