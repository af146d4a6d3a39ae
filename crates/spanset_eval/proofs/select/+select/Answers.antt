use Rattle.std.proofs.Common.{◌≡◌, ◌∙◌, ◌<◌, length, sym, subst, arith}
use Rattle.span_tree.specs.Marking.{IsMarked}
use Rattle.span_tree.specs.Nodes.{IsOneTrace}
use Rattle.traceql_syntax.specs.Trees.{placed_option, set_tree, Filter}
use Rattle.traceql_value.specs.EvalContexts.{context_patterns, context_rows}
use Rattle.spanset_eval.specs.Chains.{set_size}
use Rattle.spanset_eval.specs.MadeTree.{IsTreeOf}
use Rattle.spanset_eval.proofs.Chaining.{along_smaller, along_step, joined_along, selects_along}
use Rattle.spanset_eval.proofs.SelectLaws.{kept_set}
use Rattle.spanset_eval.proofs.select.+select.Goals as goal

pub up-init : goal.up-init
up-init g t c =
    let context = c.args.context.now in
    let chain = c.in_ok-condition.ensures in
    let condition = placed_option c.in_ok-condition.condition.now in
    record {
      marks = (Filter chain.0 condition, kept_set (context_patterns context) (context_rows context) condition c.in_ok-marks.marks c.in_ok-marks.ensures.marks, chain.1);
      context = c.filter_rows.ensures.context;
      made = c.requires.made;
    }

pub up-preserved : goal.up-preserved
up-preserved g t c =
    let ps = context_patterns c.args.context.now in
    let rows = context_rows c.args.context.now in
    let p = c.in-Some.outer in
    let before = c.up.invariant in
    let within = c.select.ensures.context in
    let left = c.up.marks in
    let right = c.in_ok-right.right in
    let marks = c.in_ok-marks-2.marks in
    let same_rows = c.rows-rows.ensures ∙ within.rows ∙ before.context.rows in
    record {
      marks = along_step ps rows (set_tree c.args.expr.now) p c.up.pending.items c.pop.new.self.items left right marks c.in-Some.ensures.items before.marks
          (selects_along ps (context_patterns c.up.context) rows (context_rows c.up.context) (set_tree p.right.now) right before.context.patterns before.context.rows c.in_ok-right.ensures.marks)
          (joined_along p.op rows c.rows-rows.result.now (IsMarked left) (IsMarked right) marks same_rows c.in_ok-marks-2.ensures.marks);
      context = record {
        patterns = within.patterns ∙ before.context.patterns;
        rows = within.rows ∙ before.context.rows;
      };
      made = subst (λ rs. IsTreeOf rs c.join_marks.new.made) same_rows c.join_marks.ensures.made;
    }

pub select-requires : goal.select-requires
select-requires g t c =
    let context = c.args.context.now in
    let before = c.up.invariant in
    let smaller = along_smaller (context_patterns context) (context_rows context) (set_tree c.args.expr.now) c.in-Some.outer
    c.up.pending.items c.pop.new.self.items c.up.marks c.in-Some.ensures.items before.marks in
    let less : set_size (set_tree c.in-Some.outer.right.now) < t = omega (arith, smaller, c.decreases) in
    λ κs outlives. (
      less,
      (outlives, (subst IsOneTrace (sym before.context.rows) c.requires.one, subst (λ rs. IsTreeOf rs c.up.made) (sym before.context.rows) before.made)),
    )
