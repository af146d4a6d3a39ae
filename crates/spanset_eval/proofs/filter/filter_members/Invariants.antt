-- So far the list has the members that were passed and kept.
use Rattle.std.proofs.Common.{◌≡◌, take}
use Rattle.std.specs.List.{filter}
use Rattle.traceql_value.specs.EvalContexts.{IsSame}
use Rattle.spanset_eval.specs.InContext.{filters_position}
use Rattle.spanset_eval.proofs.filter.filter_members.Given as goal

abbrev pub invariant-loop-position : goal.invariant-loop-position
invariant-loop-position l = record {
  kept : l.kept.items ≡ filter (filters_position l.fn.context l.condition) (take l.position-index l.members);
  context : IsSame l.fn.context l.context;
}
