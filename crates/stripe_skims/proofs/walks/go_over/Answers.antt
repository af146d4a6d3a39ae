use Rattle.block_stripes.proofs.ReadSteps.{eight_of}
use Rattle.stripe_skims.proofs.StripeLaws.{filled, stripe_told}
use Rattle.stripe_skims.proofs.walks.go_over.Goals as goal

pub content_of-requires : goal.content_of-requires
content_of-requires g c = eight_of c.args.bytes.now _ _ c.new-reader.ensures c.in-Ok.ensures.gives

pub returns : goal.returns
returns g c =
    stripe_told (g.W.Walk.tells c.args.walk.now) c.args.extended c.args.bytes.now c.in-Ok.size _ _ c.in_ok-seen.seen c.new-reader.ensures c.in-Ok.ensures.gives c.in_ok-seen.ensures.told
    (filled _ c.args.bytes.now c.unfilled.result c.unfilled.ensures c.in-None.is)
