use Rattle.std.proofs.lemmas.Str.Pattern.{strip_prefix_char}
use Rattle.std.proofs.Common.{arith}
use Rattle.otlp_spans.proofs.FieldLemmas.{after_minus-stripped}
use Rattle.otlp_spans.proofs.fields.after_minus.Goals as goal

pub returns : goal.returns
returns c = after_minus-stripped c.args.text.now _ (strip_prefix_char 45 _ _ c.strip_prefix.ensures.cases (omega arith))
