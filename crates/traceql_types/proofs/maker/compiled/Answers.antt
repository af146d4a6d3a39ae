use Rattle.std.proofs.Common.{◌≡◌, inr, sym, subst, ◌∙◌}
use Rattle.traceql_types.specs.Whole.{whole_text, IsReadable, IsUnreadable}
use Rattle.traceql_types.proofs.Readings.{unreadable_error, readable_error, same_cause}
use Rattle.traceql_types.proofs.maker.compiled.Goals as goal

pub returns-in-Err-new-clause-syntax : goal.returns-in-Err-new-clause-syntax
returns-in-Err-new-clause-syntax c is =
    let whole : c.as_str.result.now ≡ whole_text c.args.text.now = c.as_str.ensures.value ∙ c.in-Ok.ensures in
    inr (subst IsUnreadable whole (unreadable_error c.as_str.result.now c.in-Err-new.error c.in-Err-new.ensures.by_grammar c.in-Err-new.ensures.kind (sym c.cause_of.ensures ∙ same_cause _ _ is)))

pub returns-in-Err-new-clause-refused : goal.returns-in-Err-new-clause-refused
returns-in-Err-new-clause-refused c is =
    let whole : c.as_str.result.now ≡ whole_text c.args.text.now = c.as_str.ensures.value ∙ c.in-Ok.ensures in
    subst IsReadable whole (readable_error c.as_str.result.now c.in-Err-new.error c.in-Err-new.ensures.kind (sym c.cause_of.ensures ∙ same_cause _ _ is))
