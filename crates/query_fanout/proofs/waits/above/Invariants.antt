-- Those of the picks so far.
use Rattle.std.proofs.Common.{◌≡◌, filter, not, take}
use Rattle.query_fanout.specs.Rounds.{is_below}
use Rattle.query_fanout.proofs.waits.above.Given as goal

abbrev pub invariant-loop-pick : goal.invariant-loop-pick
invariant-loop-pick l = l.kept.items ≡ filter (λ p. not (is_below l.gone p.trace)) (take l.pick-index l.picks)
