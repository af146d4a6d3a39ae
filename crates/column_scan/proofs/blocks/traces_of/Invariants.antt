use Rattle.std.proofs.Common.{◌≡◌, map, take}
use Rattle.column_scan.proofs.blocks.traces_of.Given as goal

abbrev pub invariant-loop-pick : goal.invariant-loop-pick
invariant-loop-pick l = l.traces.items ≡ map (λ p. p.trace) (take l.pick-index l.picks)
