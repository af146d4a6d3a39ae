use Rattle.stripe_skims.proofs.SkipLaws.{attr_passed}
use Rattle.stripe_skims.proofs.attributes.pass_attr.Goals as goal

pub returns-clause-passes : goal.returns-clause-passes
returns-clause-passes c = λ passed table before size apart stamped.
    attr_passed table before c.args.stamps.now c.args.list c.in-Some.key c.args.fields.now c.pass_reference.new.fields c.pass_value.new.fields size apart stamped
    c.in-Some.ensures.0 c.in-Some.ensures.1 c.if-stamps-key.false (c.pass_value.ensures passed table size)
