-- The measure is the size of what is evaluated. In a chain, the value is that of an operand of which the operators that are
-- left make the whole.
use Rattle.std.proofs.Common.{◌≡◌, ◌+◌, ◌*◌, vec_len}
use Rattle.traceql_syntax.specs.Trees.{tree}
use Rattle.traceql_value.specs.Chains.{tree_size}
use Rattle.traceql_value.specs.ValueRef.{ref_value}
use Rattle.traceql_value.proofs.Chaining.{IsAlong}
use Rattle.traceql_value.proofs.evaluate.+evaluate.Given as goal

abbrev pub decreases-evaluate : goal.decreases-evaluate
decreases-evaluate l = 3 * tree_size (tree l.expr.now)

abbrev pub decreases-finish : goal.decreases-finish
decreases-finish l = 3 * tree_size (tree l.pending.right.now) + 1

abbrev pub decreases-evaluate_chain : goal.decreases-evaluate_chain
decreases-evaluate_chain l = 3 * tree_size (tree l.expr.now) + 1

abbrev pub decreases-evaluate_left : goal.decreases-evaluate_left
decreases-evaluate_left l = 3 * tree_size (tree l.expr.now) + 2

abbrev pub invariant-evaluate_chain-up : goal.invariant-evaluate_chain-up
invariant-evaluate_chain-up l = record {
  so_far : IsAlong l.fn.matchers.patterns.now l.trace.rows.now l.span (tree l.expr) l.pending.items (ref_value l.value);
  same : l.matchers.patterns.now ≡ l.fn.matchers.patterns.now;
}

abbrev pub decreases-evaluate_chain-up : goal.decreases-evaluate_chain-up
decreases-evaluate_chain-up l = vec_len l.pending
