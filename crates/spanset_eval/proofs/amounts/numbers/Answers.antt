use Rattle.std.proofs.Common.{◌≡◌, ◌++◌, ◌∙◌, ap, sym, take, get_or}
use Rattle.std.specs.Option.{option_to_list}
use Rattle.traceql_value.specs.EvalContexts.{context_patterns, context_rows}
use Rattle.traceql_value.specs.ValueRef.{ref_value}
use Rattle.traceql_value.specs.Values.{whole_of}
use Rattle.traceql_syntax.specs.Trees.{tree}
use Rattle.spanset_eval.specs.Stages.{numbers_of, value_at}
use Rattle.spanset_eval.proofs.AmountLaws.{filter_map_more}
use Rattle.spanset_eval.proofs.amounts.numbers.Goals as goal

pub loop-position-preserved : goal.loop-position-preserved
loop-position-preserved c =
    let ps = context_patterns c.args.context.now in
    let rows = context_rows c.args.context.now in
    let e = tree c.args.expr.now in
    let i = c.loop-position.position-index in
    let y = get_or c.args.members.now i 0 in
    let before = c.loop-position.invariant.context in
    let more = filter_map_more (λ z. whole_of (value_at ps rows e z)) c.args.members.now i 0 c.loop-position-test.true in
    let value_is : ref_value c.in_ok-value.value ≡ value_at ps rows e y =
    c.in_ok-value.ensures.value ∙ ap (λ qs. value_at qs (context_rows c.loop-position.context) e y) before.patterns
    ∙ ap (λ rs. value_at ps rs e y) before.rows in
    record {
      numbers =
          c.in_ok-add_number.ensures ∙ ap (λ xs. xs ++ option_to_list c.whole.result) c.loop-position.invariant.numbers
          ∙ ap (λ o. numbers_of ps rows e (take i c.args.members.now) ++ option_to_list o) (c.whole.ensures ∙ ap whole_of value_is) ∙ sym more;
      context = record {
        patterns = c.value_at.ensures.context.patterns ∙ before.patterns;
        rows = c.value_at.ensures.context.rows ∙ before.rows;
      };
    }
