use Rattle.std.proofs.Common.{arith}
use Rattle.std.proofs.lemmas.Int.{ints, to_z-of_z}
use Rattle.spanset_eval.proofs.AmountLaws.{total_more}
use Rattle.spanset_eval.proofs.amounts.total.Goals as goal

pub loop-number-preserved : goal.loop-number-preserved
loop-number-preserved c = record {
  is = grind (arith, ints, to_z-of_z, total_more);
  low = omega (arith, ints);
  high = omega (arith, ints);
}
