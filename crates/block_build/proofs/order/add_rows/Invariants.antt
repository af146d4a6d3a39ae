-- The rows so far.
use Rattle.std.proofs.Common.{◌≡◌, ◌++◌, take}
use Rattle.block_build.proofs.order.add_rows.Given as goal

abbrev pub invariant-loop-ticket : goal.invariant-loop-ticket
invariant-loop-ticket l = l.rows.items ≡ l.initial.rows.items ++ take l.ticket-index l.tickets
