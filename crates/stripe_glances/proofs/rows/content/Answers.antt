use Rattle.std.proofs.Common.{refl, []}
use Rattle.stripe_glances.proofs.StripeLaws.{content_shown, each_some}
use Rattle.stripe_glances.proofs.rows.content.Goals as goal

pub returns : goal.returns
returns c =
    each_some (λ glance shown extended.
    content_shown glance extended c.args.reader.now c.leap_counted.new.reader c.leap_counted-2.new.reader c.leap_counted-3.new.reader (c.if-not-leap_counted.ensures refl [])
    (c.if-not-leap_counted-2.ensures refl) (c.if-not-leap_counted-3.ensures refl) (shown extended)) c.counted_rows.result c.counted_rows.ensures
