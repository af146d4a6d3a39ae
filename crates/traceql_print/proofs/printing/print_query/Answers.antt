use Rattle.std.proofs.Common.{◌≡◌, ap, sym, subst, ◌∙◌}
use Rattle.traceql_syntax.specs.Refusals.{Means}
use Rattle.traceql_syntax.specs.Trees.{query_tree}
use Rattle.traceql_print.specs.Kinds.{query_kinds}
use Rattle.traceql_print.specs.Printer.{Printer, put_all}
use Rattle.traceql_print.specs.Text.{query_text}
use Rattle.traceql_print.proofs.Putting.{text_blank}
use Rattle.traceql_print.proofs.Promises.{printed_means}
use Rattle.traceql_print.proofs.printing.print_query.Goals as goal

pub returns : goal.returns
returns c =
    let tree = query_tree c.args.query.now in
    let whole : c.into_text.result ≡ query_text tree =
    c.into_text.ensures
    ∙ ap (λ (s : Printer). s.text) (c.in_ok-write_query.ensures ∙ ap (λ s. put_all s (query_kinds tree)) c.new-printer.ensures)
    ∙ text_blank (query_kinds tree) in
    record { text = whole; means = λ source m. subst (λ t. Means t tree) (sym whole) (printed_means source tree m) }
