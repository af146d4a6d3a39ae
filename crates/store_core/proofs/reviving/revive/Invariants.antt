use Rattle.std.proofs.Common.{◌≡◌, ◌++◌}
use Rattle.store_model.specs.After.{arrived}
use Rattle.store_core.specs.Opening.{rows_from}
use Rattle.store_core.proofs.reviving.revive.Given as goal

abbrev pub invariant-loop-entry : goal.invariant-loop-entry
invariant-loop-entry l = record {
  live : l.live.live ≡ l.fn.live.live ++ arrived l.moment (rows_from l.floor l.yielded);
  head : l.live.head ≡ l.fn.live.head;
  flushing : l.live.flushing ≡ l.fn.live.flushing;
}
