-- So far no mark was passed.
use Rattle.std.proofs.Common.{◌≡◌, ℕ, ◌<◌, false}
use Rattle.spanset_eval.specs.Marked.{mark_at}
use Rattle.spanset_eval.proofs.marks.any.Given as goal

abbrev pub invariant-loop-mark : goal.invariant-loop-mark
invariant-loop-mark l =
    (y : ℕ) → y < l.mark-index → mark_at l.mark-items y ≡ false
