use Rattle.std.proofs.Common.{◌-◌, ℕ, List}
use Rattle.stripe_glances.proofs.LandLaws.{Comes}
use Rattle.stripe_glances.proofs.leaps.leap_items.Given as goal

-- If reading gives so many items, it comes by here.
abbrev pub invariant-loop : goal.invariant-loop
invariant-loop g l = (texts : List (List ℕ)) → Comes (λ _. Unit {0}) (g.L.Leap.reading l.kind texts) l.count (l.count - l.counter) l.fn.reader l.reader
