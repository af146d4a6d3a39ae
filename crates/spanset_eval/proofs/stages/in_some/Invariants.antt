-- So far the spans are marked that the spansets have that were passed.
use Rattle.std.proofs.Common.{take}
use Rattle.spanset_eval.specs.Marked.{MarksBy}
use Rattle.spanset_eval.specs.Stages.{is_in_some}
use Rattle.spanset_eval.proofs.stages.in_some.Given as goal

abbrev pub invariant-loop-group : goal.invariant-loop-group
invariant-loop-group l =
    MarksBy l.count (is_in_some (take l.group-index l.groups)) l.marks.items
