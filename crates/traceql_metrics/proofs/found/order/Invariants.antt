-- So far the pairs are equal, so what is left decides.
use Rattle.std.proofs.Common.{◌≡◌, drop}
use Rattle.traceql_metrics.specs.Series.{values_cmp}
use Rattle.traceql_metrics.proofs.found.order.Given as goal

abbrev pub invariant-loop-i : goal.invariant-loop-i
invariant-loop-i l = values_cmp l.left l.right ≡ values_cmp (drop l.i l.left) (drop l.i l.right)
