-- The marks are those of an operand of which the operators that are left make the whole.
use Rattle.std.proofs.Common.{vec_len}
use Rattle.traceql_syntax.specs.Trees.{set_tree}
use Rattle.traceql_value.specs.EvalContexts.{context_patterns, context_rows, IsSame}
use Rattle.spanset_eval.specs.Chains.{set_size}
use Rattle.spanset_eval.specs.MadeTree.{IsTreeOf}
use Rattle.spanset_eval.proofs.Chaining.{IsAlong}
use Rattle.spanset_eval.proofs.select.+select.Given as goal

abbrev pub decreases-select : goal.decreases-select
decreases-select g l = set_size (set_tree l.expr.now)

abbrev pub invariant-up : goal.invariant-up
invariant-up g l = record {
  marks : IsAlong (context_patterns l.fn.context) (context_rows l.fn.context) (set_tree l.expr) l.pending.items l.marks;
  context : IsSame l.fn.context l.context;
  made : IsTreeOf (context_rows l.fn.context) l.made;
}

abbrev pub decreases-up : goal.decreases-up
decreases-up g l = vec_len l.pending
