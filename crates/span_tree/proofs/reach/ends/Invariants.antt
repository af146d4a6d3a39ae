-- So far the ends are those of the marked positions that were passed, and each took a step.
use Rattle.std.proofs.Common.{◌≡◌, ◌+◌}
use Rattle.span_tree.proofs.ReachLaws.{EndsBelow}
use Rattle.span_tree.proofs.reach.ends.Given as goal

abbrev pub invariant-loop-position : goal.invariant-loop-position
invariant-loop-position g l = record { ends : EndsBelow l.marked l.table l.ends.items l.position; steps : l.steps ≡ l.initial.steps + l.position }
