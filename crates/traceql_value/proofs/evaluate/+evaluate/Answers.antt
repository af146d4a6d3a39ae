use Rattle.std.proofs.Common.{◌≡◌, ℕ, ◌+◌, ◌*◌, ◌<◌, ◌≤◌, reverse, ap, ◌∙◌, arith}
use Rattle.traceql_syntax.specs.Trees.{tree}
use Rattle.traceql_value.specs.Chains.{tree_size}
use Rattle.traceql_value.specs.Meaning.{apply_binary, is_literal_nil, value_of}
use Rattle.traceql_value.specs.ValueRef.{ref_value}
use Rattle.traceql_value.proofs.Chaining.{along_smaller, along_step, chain_size}
use Rattle.traceql_value.proofs.evaluate.+evaluate.Goals as goal

no_larger : (m n t : ℕ) → m ≤ n → 3 * n + 1 ≡ t → 3 * m < t
no_larger m n t l e = omega arith

smaller : (m n t : ℕ) → m < n → 3 * n + 1 ≡ t → 3 * m + 1 < t
smaller m n t l e = omega arith

pub evaluate_chain-evaluate-requires : goal.evaluate_chain-evaluate-requires
evaluate_chain-evaluate-requires t c =
    let first = tree c.in_ok-first.first.now in
    let whole = tree c.args.expr.now in
    (no_larger (tree_size first) (tree_size whole) t (chain_size first (reverse c.in_ok-first.pending.items) whole c.in_ok-first.ensures) c.decreases, tt)

pub evaluate_chain-finish-requires : goal.evaluate_chain-finish-requires
evaluate_chain-finish-requires t c =
    let whole = tree c.args.expr.now in (
      smaller (tree_size (tree c.in-Some.outer.right.now)) (tree_size whole) t
          (along_smaller c.args.matchers.now.patterns.now c.args.trace.now.rows.now c.args.span.now whole c.in-Some.outer
          c.up.pending.items c.pop.new.self.items (ref_value c.up.value) c.in-Some.ensures.items c.up.invariant.so_far) c.decreases,
      tt,
    )

pub evaluate_chain-up-preserved : goal.evaluate_chain-up-preserved
evaluate_chain-up-preserved t c =
    let rows = c.args.trace.now.rows.now in
    let s = c.args.span.now in
    let p = c.in-Some.outer in
    let r = tree p.right.now in
    record {
      so_far = along_step c.args.matchers.now.patterns.now rows s (tree c.args.expr.now) p
          c.up.pending.items c.pop.new.self.items (ref_value c.up.value) (ref_value c.in_ok-value-2.value) c.in-Some.ensures.items c.up.invariant.so_far
          (c.in_ok-value-2.ensures.value ∙ ap (λ qs. apply_binary p.op p.nil_left (is_literal_nil r) (ref_value c.up.value) (value_of qs rows s r)) c.up.invariant.same);
      same = c.finish.ensures.same ∙ c.up.invariant.same;
    }
