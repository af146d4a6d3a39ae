use Rattle.std.proofs.Common.{◌≡◌, ◌-◌, []}
use Rattle.block_columns.specs.ColumnReadings.{items_at, new_at}
use Rattle.block_columns.proofs.tables.each_new.Given as goal

abbrev pub invariant-loop : goal.invariant-loop
invariant-loop g l = items_at (new_at g.T.PartialEq.eq (g.K.Kind.reading l.kind)) (l.count - l.counter) l.table.keys l.fields ≡ items_at (new_at g.T.PartialEq.eq (g.K.Kind.reading l.kind)) l.count [] l.fn.fields
