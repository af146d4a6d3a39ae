use Rattle.std.proofs.Common.{◌≡◌, ◌-◌}
use Rattle.stripe_glances.proofs.LandLaws.{Comes}
use Rattle.stripe_glances.proofs.keeps.keep_column.Given as goal

-- If reading gives so many values, it comes by here, and these are the ones before.
abbrev pub invariant-loop : goal.invariant-loop
invariant-loop g l = Comes (λ before. before ≡ l.values.items) (λ _. g.K.Keep.reading l.kind) l.count (l.count - l.counter) l.fn.reader l.reader
