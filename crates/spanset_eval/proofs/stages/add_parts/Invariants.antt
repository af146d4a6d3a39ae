-- So far a spanset was added for each part that was passed.
use Rattle.std.proofs.Common.{◌≡◌, ◌++◌, map}
use Rattle.spanset_eval.specs.Parts.{part_group}
use Rattle.spanset_eval.proofs.stages.add_parts.Given as goal

abbrev pub invariant-loop-part : goal.invariant-loop-part
invariant-loop-part l = l.found.items ≡ l.fn.found.items ++ map (part_group l.fn.by) l.yielded
