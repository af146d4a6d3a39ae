-- So far the list has the spansets that were passed and kept.
use Rattle.std.proofs.Common.{◌≡◌}
use Rattle.std.specs.List.{filter}
use Rattle.traceql_value.specs.EvalContexts.{IsSame}
use Rattle.spanset_eval.specs.InContext.{passes_in}
use Rattle.spanset_eval.proofs.stages.compare.Given as goal

abbrev pub invariant-loop-group : goal.invariant-loop-group
invariant-loop-group l = record {
  kept : l.kept.items ≡ filter (passes_in l.fn.context l.left l.op l.right) l.yielded;
  context : IsSame l.fn.context l.context;
}
