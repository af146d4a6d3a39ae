-- So far each position that was passed has the mark of where the table leads from it, and took two steps or three.
use Rattle.std.proofs.Common.{◌≡◌, ℕ, ◌+◌, ◌*◌, ◌<◌, ◌≤◌, length, get_or, false}
use Rattle.span_tree.specs.Tables.{at}
use Rattle.span_tree.specs.Marking.{mark_of}
use Rattle.span_tree.proofs.reach.led_to.Given as goal

abbrev pub invariant-loop-position : goal.invariant-loop-position
invariant-loop-position g l = record { one_each : length l.found ≡ l.position; marks : (y : ℕ) → y < l.position → get_or l.found y false ≡ mark_of l.marked (at l.table y); most : l.steps ≤ l.initial.steps + 3 * l.position; least : l.initial.steps + 2 * l.position ≤ l.steps }
