use Rattle.std.proofs.Common.{◌<◌, ◌≤◌, ◌+◌, ℕ, [], IsTrue}
use Rattle.disk_model.specs.Calls.{Counts}
use Rattle.disk_model.specs.Crash.{OnlyBytes, Untouched}
use Rattle.store_files.proofs.left.end_of_left.Given as goal

abbrev pub invariant-loop-file : goal.invariant-loop-file
invariant-loop-file g l =
    let d = g.D.Device in
    record {
      from : l.first ≤ l.end;
      passed : l.end ≤ l.file;
      short : l.file ≤ l.end + 8;
      empty : IsTrue (d.tells l.fn.disk) → (file : ℕ) → l.end ≤ file → file < l.file → OnlyBytes file [] (d.may_leave l.disk);
      untouched : Untouched d.tells d.held d.may_leave d.moment d.left_since l.fn.disk l.disk;
      counts : Counts d 0 (Unit {0}) ⊥ l.fn.disk l.disk;
    }
