-- So far the list has the positions with a mark that were passed.
use Rattle.std.proofs.Common.{◌≡◌}
use Rattle.std.specs.List.{filter}
use Rattle.spanset_eval.specs.Marked.{mark_at}
use Rattle.spanset_eval.specs.Stages.{positions_from}
use Rattle.spanset_eval.proofs.marks.marked.Given as goal

abbrev pub invariant-loop-position : goal.invariant-loop-position
invariant-loop-position l =
    l.members.items ≡ filter (mark_at l.mark-items) (positions_from 0 l.position)
