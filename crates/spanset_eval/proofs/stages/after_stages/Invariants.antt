-- What the stages ahead make of the spansets is what all make of the first ones.
use Rattle.std.proofs.Common.{◌≡◌, drop}
use Rattle.traceql_value.specs.EvalContexts.{IsSame}
use Rattle.spanset_eval.specs.InContext.{stages_in}
use Rattle.spanset_eval.proofs.stages.after_stages.Given as goal

abbrev pub invariant-loop-stage : goal.invariant-loop-stage
invariant-loop-stage l = record {
  groups : stages_in l.fn.context (drop l.stage-index l.stages) l.groups.items ≡ stages_in l.fn.context l.stages l.fn.groups.items;
  context : IsSame l.fn.context l.context;
}
