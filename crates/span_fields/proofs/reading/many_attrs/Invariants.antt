use Rattle.std.proofs.Common.{◌≡◌, ◌-◌, []}
use Rattle.span_fields.specs.Keys.{HasKeysOf}
use Rattle.span_fields.specs.Decodings.{attr_at, items_at}
use Rattle.span_fields.proofs.reading.many_attrs.Given as goal

abbrev pub invariant-loop : goal.invariant-loop
invariant-loop l = (items_at (attr_at l.within) (l.count - l.counter) l.attrs.items l.reader ≡ items_at (attr_at l.within) l.count [] l.fn.reader) × HasKeysOf l.keys l.attrs.items
