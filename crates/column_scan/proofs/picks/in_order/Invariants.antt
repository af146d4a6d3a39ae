use Rattle.std.proofs.Common.{take}
use Rattle.column_scan.specs.Candidates.{Ascend, HaveLatest}
use Rattle.column_scan.proofs.picks.in_order.Given as goal

abbrev pub invariant-loop-pick : goal.invariant-loop-pick
invariant-loop-pick l = record {
  latest : HaveLatest (take l.pick-index l.pick-items) l.all.items;
  ascending : Ascend l.all.items;
}
