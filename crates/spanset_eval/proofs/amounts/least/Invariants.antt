-- The best so far and the numbers ahead have the best of all.
use Rattle.std.proofs.Common.{◌≡◌, drop}
use Rattle.spanset_eval.specs.Stages.{least_of}
use Rattle.spanset_eval.proofs.amounts.least.Given as goal

abbrev pub invariant-loop-number : goal.invariant-loop-number
invariant-loop-number l =
    least_of l.best (drop l.number-index l.others) ≡ least_of l.fn.first l.others
