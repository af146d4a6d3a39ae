use Rattle.spanset_eval.proofs.BestLaws.{least_law, greatest_law}
use Rattle.spanset_eval.proofs.laws.least_and_greatest.Goals as goal

pub returns : goal.returns
returns c = record { least = least_law; greatest = greatest_law }
