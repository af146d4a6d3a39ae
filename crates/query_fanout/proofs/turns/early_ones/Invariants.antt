-- Those of the picks so far.
use Rattle.std.proofs.Common.{◌≡◌, filter, take}
use Rattle.std.specs.Prelude.{nat_lt}
use Rattle.query_fanout.proofs.turns.early_ones.Given as goal

abbrev pub invariant-loop-pick : goal.invariant-loop-pick
invariant-loop-pick l = l.early.items ≡ filter (λ p. nat_lt p.latest l.moment) (take l.pick-index l.picks)
