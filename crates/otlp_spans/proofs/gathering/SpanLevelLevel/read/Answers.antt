use Rattle.std.proofs.Common.{sym, ◌∙◌}
use Rattle.serde_json.specs.View.{view}
use Rattle.otlp_spans.proofs.ReadableLaws.{ids_named}
use Rattle.otlp_spans.proofs.gathering.SpanLevelLevel.read.Goals as goal

pub span_with-requires : goal.span_with-requires
span_with-requires c = ids_named (view c.args.value) _ (sym c.read_ids-ids.ensures ∙ c.in-Some.is)
