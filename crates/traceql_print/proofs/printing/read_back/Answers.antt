use Rattle.std.proofs.Common.{◌≡◌, ◌≤◌, length, sym, subst, ◌∙◌}
use Rattle.span_types.specs.declared.limits.TheConstants.{MOST_QUERY_BYTES}
use Rattle.traceql_syntax.specs.Refusals.{DEPTH, Reads}
use Rattle.traceql_syntax.specs.Trees.{query_tree}
use Rattle.traceql_print.specs.Text.{query_text}
use Rattle.traceql_print.proofs.Promises.{printed_reads, read_same}
use Rattle.traceql_print.proofs.printing.read_back.Goals as goal

pub returns-in-Ok : goal.returns-in-Ok
returns-in-Ok c = record {
  same = λ source means limits.
      let q = query_tree c.args.query.now in
      let is : c.as_str.result.now ≡ query_text q = c.as_str.ensures ∙ c.in-Ok.ensures.text in
      let r = printed_reads source q means DEPTH limits.1 in
      let short = subst (λ t. length t ≤ MOST_QUERY_BYTES) (sym is) limits.0 in
      let reads = subst (λ t. Reads DEPTH t r.0) (sym is) r.1 in
      read_same c.parse.result q r.0 (c.parse.ensures.complete r.0 short reads) r.2;
}
