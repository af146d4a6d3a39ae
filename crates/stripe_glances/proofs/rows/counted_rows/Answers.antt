use Rattle.stripe_glances.proofs.FieldLaws.{number_keeps}
use Rattle.stripe_glances.proofs.StripeLaws.{counted_shown, each_some}
use Rattle.stripe_glances.proofs.rows.counted_rows.Goals as goal

pub returns : goal.returns
returns c =
    each_some (λ glance shown extended texts resources scopes.
    counted_shown glance extended texts resources scopes c.in-Ok.count c.args.reader.now c.var.new.self (number_keeps c.in-Ok.count c.args.reader.now c.var.new.self c.in-Ok.ensures.reads) (shown extended texts resources scopes))
    c.columns.result c.columns.ensures
