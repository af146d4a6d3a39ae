-- So far there is a mark for each position that was passed.
use Rattle.std.proofs.Common.{◌≡◌, ℕ, ◌<◌, ◌&&◌, length}
use Rattle.spanset_eval.specs.Marked.{mark_at}
use Rattle.spanset_eval.proofs.marks.both.Given as goal

abbrev pub invariant-loop-position : goal.invariant-loop-position
invariant-loop-position l =
    record { one_each : length l.marks.items ≡ l.position; each : (y : ℕ) → y < l.position → mark_at l.marks.items y ≡ (mark_at l.left-2 y && mark_at l.right-2 y) }
