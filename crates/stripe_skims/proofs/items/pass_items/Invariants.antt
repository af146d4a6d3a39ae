use Rattle.std.proofs.Common.{◌≡◌, ◌-◌}
use Rattle.block_columns.specs.ColumnReadings.{Spot, column_at}
use Rattle.stripe_skims.proofs.ItemLaws.{Going}
use Rattle.stripe_skims.proofs.items.pass_items.Given as goal

abbrev pub invariant-loop : goal.invariant-loop
invariant-loop g l = record {
  stays : (s : Spot) → g.P.Pass.reading l.kind s ≡ g.P.Pass.reading l.fn.kind s;
  ready : g.P.Pass.ready l.kind;
  far : Going (g.P.Pass.reading l.fn.kind) (l.count - l.counter) l.fields (column_at (g.P.Pass.reading l.fn.kind) l.count l.fn.fields);
}
