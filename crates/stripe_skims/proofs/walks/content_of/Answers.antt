use Rattle.std.proofs.Common.{sym, ◌∙◌, arith}
use Rattle.stripe_skims.proofs.StripeLaws.{content_is, whole_told}
use Rattle.stripe_skims.proofs.walks.content_of.Goals as goal

pub returns-clause-told : goal.returns-clause-told
returns-clause-told g c =
    whole_told (g.W.Walk.tells c.args.walk.now) c.args.extended c.args.bytes.now c.args.size c.of-fields.result c.content.new.fields c.in_ok-seen.seen
    (content_is c.args.bytes.now c.args.size c.of-fields.result c.starting_at.result c.of-fields.ensures c.starting_at.ensures (omega (arith, c.if-size-bytes.false))) (omega (arith, c.if-size-bytes.false)) (sym c.at.ensures ∙ c.if-at-end.false) c.in_ok-seen.ensures
