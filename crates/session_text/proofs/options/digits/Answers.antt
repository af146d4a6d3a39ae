use Rattle.std.proofs.Common.{sym, ◌∙◌}
use Rattle.otlp_spans.proofs.FieldLemmas.{moment_of-digits}
use Rattle.session_text.proofs.options.digits.Goals as goal

pub returns : goal.returns
returns c =
    c.ok.ensures.value
    ∙ moment_of-digits c.args.text.now _ c.parse.ensures.value.0 (sym c.all_digits.ensures ∙ c.if-not-all_digits.false)
