use Rattle.std.proofs.Common.{◌≡◌, subst, sym, ◌∙◌}
use Rattle.std.specs.Prelude.{None}
use Rattle.traceql_syntax.specs.Trees.{query_tree}
use Rattle.traceql_value.specs.EvalContexts.{context_patterns, context_rows}
use Rattle.spanset_eval.specs.Outcomes.{IsCutOutcome, IsOutcome}
use Rattle.spanset_eval.proofs.CutLaws.{whole}
use Rattle.spanset_eval.proofs.SelectLaws.{if_ok}
use Rattle.spanset_eval.proofs.outcome.evaluate.Goals as goal

pub returns : goal.returns
returns c =
    let q = query_tree c.args.checked.now.query in
    let context = c.of-context.result in
    let patterns : context_patterns context ≡ c.args.checked.now.patterns = c.of-context.ensures.patterns ∙ c.in_ok-matchers.ensures.patterns in
    let rows : context_rows context ≡ c.args.trace.now = c.of-context.ensures.rows ∙ c.as_slice.ensures in
    if_ok c.outcome.result (IsCutOutcome None (context_patterns context) (context_rows context) q) (IsOutcome c.args.checked.now.patterns c.args.trace.now q)
    (λ o h. subst (λ ps. IsOutcome ps c.args.trace.now q o) patterns
    (subst (λ rs. IsOutcome (context_patterns context) rs q o) rows
    (subst (IsOutcome (context_patterns context) (context_rows context) q) (sym (whole h.whole) ∙ sym h.is) h.is_outcome)))
    c.outcome.ensures.outcome
