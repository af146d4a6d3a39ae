-- The best so far and the numbers ahead have the best of all.
use Rattle.std.proofs.Common.{◌≡◌, drop}
use Rattle.spanset_eval.specs.Stages.{greatest_of}
use Rattle.spanset_eval.proofs.amounts.greatest.Given as goal

abbrev pub invariant-loop-number : goal.invariant-loop-number
invariant-loop-number l =
    greatest_of l.best (drop l.number-index l.others) ≡ greatest_of l.fn.first l.others
