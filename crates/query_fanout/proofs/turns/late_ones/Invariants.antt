-- Those of the picks so far.
use Rattle.std.proofs.Common.{◌≡◌, filter, take}
use Rattle.std.specs.Prelude.{nat_le}
use Rattle.query_fanout.proofs.turns.late_ones.Given as goal

abbrev pub invariant-loop-pick : goal.invariant-loop-pick
invariant-loop-pick l = l.late.items ≡ filter (λ p. nat_le l.moment p.latest) (take l.pick-index l.picks)
