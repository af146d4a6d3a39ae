use Rattle.std.proofs.Common.{◌≡◌, ◌≤◌, List, Some, ◌∙◌, ap, length, subst, arith}
use Rattle.std.proofs.lemmas.Str.{IsUtf8-string_bytes}
use Rattle.span_types.specs.declared.limits.TheConstants.{MOST_SPANS}
use Rattle.span_types.specs.declared.spans.Row.{Row}
use Rattle.otlp_spans.specs.Fits.{FitsTrace}
use Rattle.otlp_spans.specs.Json.{json_of}
use Rattle.otlp_spans.specs.Writing.{spans_in, trace_json}
use Rattle.otlp_spans.proofs.PlainLemmas.{trace_reads_back, written}
use Rattle.otlp_spans.proofs.ReadsBackLists.{mapped}
use Rattle.otlp_spans.proofs.ReadsBackTrace.{line_back}
use Rattle.otlp_spans.proofs.write.write_trace.Goals as goal

pub returns : goal.returns
returns c =
    let spans = spans_in c.args.rows.now in
    let is = c.in_ok-value.ensures.json ∙ ap (λ l. trace_json (spans_in l)) c.as_slice.ensures in
    let printed = c.in_ok-to_string.ensures in
    let json : json_of c.of.result ≡ Some (trace_json spans) = ap json_of c.of.ensures
    ∙ trace_reads_back spans _ _ is (IsUtf8-string_bytes c.in_ok-to_string.field-0) printed.reads_back in
    let fits : FitsTrace spans = subst (λ (l : List Row). FitsTrace (spans_in l)) c.as_slice.ensures c.in_ok-value.ensures.fits in
    record {
      text = c.of.ensures ∙ written spans _ _ is printed.text;
      json = json;
      reads_back = λ few.
          let fewer : length spans ≤ MOST_SPANS = omega (arith, mapped (λ row. row.span) c.args.rows.now) in
          line_back c.of.result spans json fits fewer;
    }
