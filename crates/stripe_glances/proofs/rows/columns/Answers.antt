use Rattle.std.proofs.Common.{refl}
use Rattle.stripe_glances.proofs.RowLaws.{cells_shown}
use Rattle.stripe_glances.proofs.rows.columns.Goals as goal

pub returns : goal.returns
returns c = λ extended texts resources scopes.
    cells_shown extended texts resources scopes c.args.count _ c.args.reader.now c.keep_column.new.reader c.leap_span_ids.new.reader c.leap_items.new.reader c.leap_items-2.new.reader c.leap_items-3.new.reader
    c.leap_items-4.new.reader c.keep_column-2.new.reader c.keep_column-3.new.reader c.keep_column-4.new.reader c.keep_column-5.new.reader c.in_ok-traces.ensures (c.if-not-leap_span_ids.ensures refl)
    (c.if-not-leap_items.ensures refl texts) (c.if-not-leap_items-2.ensures refl texts) (c.if-not-leap_items-3.ensures refl texts) (c.if-not-leap_items-4.ensures refl texts)
    c.in_ok-kinds.ensures c.in_ok-starts.ensures c.in_ok-ends.ensures c.in_ok-statuses.ensures
