-- So far the entries are those of the marked positions that were passed, and each took two steps.
use Rattle.std.proofs.Common.{◌≡◌, ℕ, ◌+◌, ◌*◌, ◌<◌, length, get_or, false, None, if◌then◌else◌}
use Rattle.span_tree.specs.Tables.{at}
use Rattle.span_tree.proofs.reach.where_marked.Given as goal

abbrev pub invariant-loop-position : goal.invariant-loop-position
invariant-loop-position g l = record { one_each : length l.kept ≡ l.position; kept : (y : ℕ) → y < l.position → at l.kept y ≡ (if get_or l.marked y false then at l.table y else None); steps : l.steps ≡ l.initial.steps + 2 * l.position }
