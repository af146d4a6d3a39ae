-- So far the members are marked that were passed.
use Rattle.std.proofs.Common.{◌≡◌, ℕ, ◌<◌, ◌||◌, length, take}
use Rattle.std.specs.Prelude.{◌==◌}
use Rattle.std.specs.List.{list_any}
use Rattle.spanset_eval.specs.Marked.{mark_at}
use Rattle.spanset_eval.proofs.stages.mark_members.Given as goal

abbrev pub invariant-loop-position : goal.invariant-loop-position
invariant-loop-position l =
    record { one_each : length l.marks ≡ length l.fn.marks; each : (y : ℕ) → y < length l.fn.marks → mark_at l.marks y ≡ (mark_at l.fn.marks y || list_any (λ x. x == y) (take l.position-index l.members)) }
