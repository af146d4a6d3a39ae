-- What was taken and what is ahead is all, in order.
use Rattle.std.proofs.Common.{◌≡◌, ◌+◌, ◌++◌, reverse}
use Rattle.spanset_eval.specs.Parts.{insert_parts, Ascend}
use Rattle.spanset_eval.proofs.parts.merge.Given as goal

abbrev pub invariant-loop-merged : goal.invariant-loop-merged
invariant-loop-merged l =
    record { all : l.merged.items ++ insert_parts (reverse l.left.items) (reverse l.right.items) ≡ insert_parts l.fn.left.items l.fn.right.items; left_up : Ascend (reverse l.left.items); right_up : Ascend (reverse l.right.items) }

abbrev pub decreases-loop-merged : goal.decreases-loop-merged
decreases-loop-merged l = l.left.len + l.right.len
