-- So far the list has the values of the members that were passed.
use Rattle.std.proofs.Common.{◌≡◌, take, map}
use Rattle.traceql_value.specs.EvalContexts.{IsSame}
use Rattle.spanset_eval.specs.InContext.{value_in}
use Rattle.spanset_eval.specs.Parts.{part_at, part_of}
use Rattle.spanset_eval.proofs.stages.with_values.Given as goal

abbrev pub invariant-loop-position : goal.invariant-loop-position
invariant-loop-position l = record {
  valued : map part_of l.valued.items ≡ map (part_at (value_in l.fn.context l.expr)) (take l.position-index l.members);
  context : IsSame l.fn.context l.context;
}
