-- So far each position that was passed has its mark, and took two steps or three.
use Rattle.std.proofs.Common.{◌≡◌, ℕ, ◌+◌, ◌*◌, ◌<◌, ◌≤◌, length, get_or, false}
use Rattle.span_tree.specs.Tables.{at}
use Rattle.span_tree.specs.Members.{shows_other}
use Rattle.span_tree.proofs.members.with_others.Given as goal

abbrev pub invariant-loop-position : goal.invariant-loop-position
invariant-loop-position g l = record { one_each : length l.found ≡ l.position; marks : (y : ℕ) → y < l.position → get_or l.found y false ≡ shows_other l.members.last l.members.before (at l.groups y) y; most : l.steps ≤ l.initial.steps + 3 * l.position; least : l.initial.steps + 2 * l.position ≤ l.steps }
