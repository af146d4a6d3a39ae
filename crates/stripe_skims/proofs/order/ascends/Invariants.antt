use Rattle.std.proofs.Common.{List}
use Rattle.span_types.specs.declared.spans.Row.{Row}
use Rattle.stripe_skims.specs.Sketches.{IsSketch}
use Rattle.stripe_skims.proofs.OrderLaws.{UpTo}
use Rattle.stripe_skims.proofs.order.ascends.Given as goal

abbrev pub invariant-loop-index : goal.invariant-loop-index
invariant-loop-index l = (rows : List Row) → IsSketch rows l.sketch → UpTo rows l.index l.before
