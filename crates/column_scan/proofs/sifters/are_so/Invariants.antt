use Rattle.std.proofs.Common.{◌≡◌, take, true}
use Rattle.std.specs.List.{list_all}
use Rattle.traceql_syntax.specs.Trees.{tree}
use Rattle.traceql_value.specs.EvalContexts.{context_patterns, context_rows, IsSame}
use Rattle.traceql_value.specs.Meaning.{is_so}
use Rattle.column_scan.proofs.sifters.are_so.Given as goal

abbrev pub invariant-loop-member : goal.invariant-loop-member
invariant-loop-member l = record {
  same : IsSame l.fn.context l.context;
  so : list_all (λ e. is_so (context_patterns l.fn.context) (context_rows l.fn.context) l.span (tree e.now)) (take l.member-index l.members) ≡ true;
}
