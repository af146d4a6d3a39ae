-- So far the rows of the parts that were gone over were added.
use Rattle.std.proofs.Common.{◌≡◌, ◌++◌, take}
use Rattle.std.specs.List.{flat_map}
use Rattle.live_traces.proofs.runs.lend_all.Given as goal

abbrev pub invariant-loop-part : goal.invariant-loop-part
invariant-loop-part g l = l.rows.items ≡ l.fn.rows.items ++ flat_map g.T.HasRows.listed (take l.part-index l.parts)
