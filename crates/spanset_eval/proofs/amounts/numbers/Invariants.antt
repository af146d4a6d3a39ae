-- So far the list has the numbers of the members that were passed.
use Rattle.std.proofs.Common.{◌≡◌, take}
use Rattle.traceql_value.specs.EvalContexts.{IsSame}
use Rattle.spanset_eval.specs.InContext.{numbers_in}
use Rattle.spanset_eval.proofs.amounts.numbers.Given as goal

abbrev pub invariant-loop-position : goal.invariant-loop-position
invariant-loop-position l = record {
  numbers : l.numbers.items ≡ numbers_in l.fn.context l.expr (take l.position-index l.members);
  context : IsSame l.fn.context l.context;
}
