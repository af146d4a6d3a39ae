use Rattle.std.proofs.Common.{◌++◌, ap, ap₂, sym, ◌∙◌, append_assoc, string_bytes}
use Rattle.std.proofs.lemmas.Result.{on_ok_weaker}
use Rattle.traceql_print.specs.Text.{kind_text, field_text, name_text}
use Rattle.traceql_print.proofs.printer.push_field.Goals as goal

pub returns-in_ok-push_str-in-Attribute : goal.returns-in_ok-push_str-in-Attribute
unfolding kind_text
returns-in_ok-push_str-in-Attribute c =
    let out = string_bytes c.args.out.now in
    on_ok_weaker c.push_name.result
    (λ e. e ∙ ap (λ t. t ++ name_text c.as_str.result.now) c.in_ok-push_str-in-Attribute.ensures.bytes
    ∙ append_assoc out c.text.result.now (name_text c.as_str.result.now)
    ∙ ap₂ (λ s n. out ++ (s ++ name_text n)) c.text.ensures c.as_str.ensures
    ∙ ap (λ f. out ++ field_text f) (sym c.in-Attribute.is))
    c.push_name.ensures

pub returns-in_ok-push_str-in-Intrinsic : goal.returns-in_ok-push_str-in-Intrinsic
unfolding kind_text
returns-in_ok-push_str-in-Intrinsic c =
    let out = string_bytes c.args.out.now in
    c.in_ok-push_str-in-Intrinsic.ensures.bytes ∙ ap (λ t. out ++ t) c.text-in-Intrinsic.ensures ∙ ap (λ f. out ++ field_text f) (sym c.in-Intrinsic.is)
