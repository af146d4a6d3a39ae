use Rattle.std.proofs.Common.{◌≡◌, ◌-◌, []}
use Rattle.block_columns.specs.ColumnReadings.{items_at}
use Rattle.block_columns.proofs.columns.column.Given as goal

abbrev pub invariant-loop : goal.invariant-loop
invariant-loop g l = items_at (λ _. g.K.Kind.reading l.kind) (l.count - l.counter) l.values.items l.fields ≡ items_at (λ _. g.K.Kind.reading l.kind) l.count [] l.fn.fields
