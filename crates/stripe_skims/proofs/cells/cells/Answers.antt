use Rattle.std.proofs.Common.{refl}
use Rattle.block_stripes.specs.StripeReadings.{cells_at}
use Rattle.stripe_skims.proofs.CellLaws.{sketched}
use Rattle.stripe_skims.proofs.cells.cells.Goals as goal

pub returns : goal.returns
unfolding cells_at
returns c =
    let s = c.in_ok-traces.ensures in
    let kinds = s.shown.1.1.1.1.1.1 in
    let times = kinds.1 in
    let lists = times.1.1.1.1.1.1.1 in
    (s.items, s.is, sketched s.items _ _ _ s.shown.0 s.shown.1.0 kinds.0 times.0 times.1.0 times.1.1.0 lists.0 lists.1 refl)
