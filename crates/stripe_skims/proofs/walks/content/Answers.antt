use Rattle.std.proofs.Common.{sym, subst}
use Rattle.stripe_skims.specs.Sure.{AreApart}
use Rattle.block_stripes.specs.StripeReadings.{whole_text_at}
use Rattle.stripe_skims.proofs.CellLaws.{content_told}
use Rattle.stripe_skims.proofs.StripeLaws.{texts_apart}
use Rattle.stripe_skims.proofs.walks.content.Goals as goal

pub owned_rows-requires : goal.owned_rows-requires
owned_rows-requires g c = subst AreApart (sym c.as_slice-values.ensures.keys) (texts_apart whole_text_at c.args.fields.now _ c.table.new.fields c.in-Ok.ensures)

pub returns : goal.returns
returns g c =
    content_told (g.W.Walk.tells c.args.walk.now) c.args.extended c.args.fields.now c.table.new.fields c.owned_rows.new.fields _ c.as_slice-values.result.now c.used.result c.in_ok-seen.seen
    c.in-Ok.ensures c.as_slice-values.ensures.keys c.in_ok-seen.ensures c.used.ensures c.if-used-values.false
