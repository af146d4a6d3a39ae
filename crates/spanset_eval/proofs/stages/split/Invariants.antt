-- So far the list has what the spansets were split into that were passed.
use Rattle.std.proofs.Common.{◌≡◌}
use Rattle.std.specs.List.{flat_map}
use Rattle.traceql_value.specs.EvalContexts.{IsSame}
use Rattle.spanset_eval.specs.InContext.{split_in}
use Rattle.spanset_eval.proofs.stages.split.Given as goal

abbrev pub invariant-loop-group : goal.invariant-loop-group
invariant-loop-group l = record {
  found : l.found.items ≡ flat_map (split_in l.fn.context l.expr) l.yielded;
  context : IsSame l.fn.context l.context;
}
