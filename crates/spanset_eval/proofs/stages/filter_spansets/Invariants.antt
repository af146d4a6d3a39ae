-- So far the list has what is kept of the spansets that were passed.
use Rattle.std.proofs.Common.{◌≡◌, map}
use Rattle.traceql_value.specs.EvalContexts.{IsSame}
use Rattle.spanset_eval.specs.InContext.{filters_spanset}
use Rattle.spanset_eval.proofs.stages.filter_spansets.Given as goal

abbrev pub invariant-loop-group : goal.invariant-loop-group
invariant-loop-group l = record {
  kept : l.kept.items ≡ map (filters_spanset l.fn.context l.condition) l.yielded;
  context : IsSame l.fn.context l.context;
}
