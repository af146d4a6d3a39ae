use Rattle.std.proofs.Common.{◌≡◌, ◌-◌}
use Rattle.block_columns.specs.ColumnReadings.{Spot, column_at}
use Rattle.stripe_skims.proofs.ItemLaws.{GoingLists, list_at}
use Rattle.stripe_skims.proofs.items.pass_lists.Given as goal

abbrev pub invariant-loop : goal.invariant-loop
invariant-loop g l = record {
  stays : (s : Spot) → g.P.Pass.reading l.kind s ≡ g.P.Pass.reading l.fn.kind s;
  ready : g.P.Pass.ready l.kind;
  far : GoingLists (list_at l.there (g.P.Pass.reading l.fn.kind)) (l.count - l.counter) l.fields l.some (column_at (list_at l.there (g.P.Pass.reading l.fn.kind)) l.count l.fn.fields);
}
