use Rattle.std.proofs.Common.{◌≤◌, List, Result, Ok, length, ap, ◌∙◌}
use Rattle.span_types.specs.declared.limits.TheConstants.{MOST_SPANS}
use Rattle.span_types.specs.declared.spans.Span.{Span}
use Rattle.otlp_spans.specs.Reading.{Given, Refusal}
use Rattle.drill_input.proofs.DrillLemmas.{rows_few}
use Rattle.drill_input.proofs.line.make_line.Goals as goal

pub returns-clause-reads_back : goal.returns-clause-reads_back
returns-clause-reads_back c =
    let few : length c.in_ok-rows.rows ≤ MOST_SPANS = rows_few c.in_ok-rows.rows c.args.seed c.args.index c.in_ok-rows.ensures in
    let given : List Span → Result Given Refusal = λ spans. Ok (record { spans = spans; rejected = 0; skipped = 0 }) in
    c.in_ok-line.ensures.reads_back few ∙ ap given c.in_ok-rows.ensures
