use Rattle.std.proofs.Common.{◌≡◌, length}
use Rattle.std.specs.List.{filter}
use Rattle.traceql_syntax.specs.Trees.{set_tree}
use Rattle.traceql_value.specs.EvalContexts.{context_patterns, context_rows}
use Rattle.spanset_eval.specs.Marked.{mark_at}
use Rattle.spanset_eval.specs.Outcomes.{IsListOf}
use Rattle.spanset_eval.specs.Sets.{Selects}
use Rattle.spanset_eval.specs.Stages.{positions_from}
use Rattle.spanset_eval.proofs.SelectLaws.{if_ok, list_of_marks}
use Rattle.spanset_eval.proofs.outcome.select_stepping.Goals as goal

pub returns-clause-positions : goal.returns-clause-positions
returns-clause-positions g c =
    let rows = context_rows c.args.context.now in
    let A = Selects (context_patterns c.args.context.now) rows (set_tree c.args.expr.now) in
    let marks = c.in_ok-marks.marks in
    if_ok c.marked.result (λ ys. ys ≡ filter (mark_at marks) (positions_from 0 (length marks))) (IsListOf A)
    (λ ys e. list_of_marks (length rows) A marks ys e c.in_ok-marks.ensures.marks) c.marked.ensures
