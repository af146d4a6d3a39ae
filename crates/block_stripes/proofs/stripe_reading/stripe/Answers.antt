use Rattle.block_stripes.proofs.ReadSteps.{eight_of}
use Rattle.block_stripes.proofs.stripe_reading.stripe.Goals as goal

pub content_of-requires : goal.content_of-requires
content_of-requires c = eight_of c.args.bytes.now _ _ c.new-reader.ensures c.in_ok-size.ensures.gives
