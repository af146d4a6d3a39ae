use Rattle.stripe_glances.proofs.StripeLaws.{each_some, stripe_told}
use Rattle.stripe_glances.proofs.stripe.glance.Goals as goal

pub returns : goal.returns
returns c =
    each_some (λ glance shown extended.
    stripe_told glance extended c.args.bytes.now c.in-Ok.size c.new-reader.result c.fixed64.new.self c.starting_at-reader.result c.new-reader.ensures c.in-Ok.ensures.reads c.starting_at-reader.ensures (shown extended))
    c.content.result c.content.ensures
