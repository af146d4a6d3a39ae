-- Those of the traces so far are added.
use Rattle.std.proofs.Common.{◌≡◌, take}
use Rattle.std.specs.List.{flat_map}
use Rattle.rows_by_trace.specs.Traces.{rows_of_trace}
use Rattle.query_fanout.proofs.own.Own.rows_of.Given as goal

abbrev pub invariant-loop-id : goal.invariant-loop-id
invariant-loop-id l = l.rows.items ≡ flat_map (λ id. rows_of_trace id l.self) (take l.id-index l.ids)
