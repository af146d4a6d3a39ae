use Rattle.std.proofs.Common.{sym, ◌∙◌}
use Rattle.stripe_skims.proofs.SkipLaws.{text_passed, value_passed}
use Rattle.stripe_skims.proofs.attributes.pass_value.Goals as goal

pub returns-then-tag-eq0 : goal.returns-then-tag-eq0
returns-then-tag-eq0 c = λ passed table size.
    text_passed table c.args.fields.now c.byte.new.self c.pass_reference.new.fields c.in-Ok.tag c.args.texts c.pass_reference.result (rw (sym c.fork-ahead.ensures) c.in-Ok.ensures) c.if-tag-eq0.true size c.pass_reference.ensures (sym c.is_some-passed.ensures ∙ passed)

pub returns : goal.returns
returns c = λ passed table size.
    value_passed table c.args.fields.now c.byte.new.self c.value.new.self c.in-Ok.tag c.value.result (rw (sym c.fork-ahead.ensures) c.in-Ok.ensures) c.if-tag-eq0.false c.value.ensures (sym c.is_ok.ensures.value ∙ passed)
