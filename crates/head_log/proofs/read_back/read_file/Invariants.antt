use Rattle.std.proofs.Common.{◌≡◌, length, take}
use Rattle.std.specs.Prelude.{IsTrue}
use Rattle.disk_model.specs.Images.{bytes_of}
use Rattle.disk_model.specs.Calls.{Counts}
use Rattle.disk_model.specs.Crash.{Untouched}
use Rattle.head_log.proofs.read_back.read_file.Given as goal

abbrev pub invariant-loop : goal.invariant-loop
invariant-loop g l =
    let D = g.D.Device in
    (IsTrue (D.tells l.fn.disk) → l.bytes.items ≡ take (length l.bytes.items) (bytes_of (D.held l.fn.disk) l.file))
    × Untouched D.tells D.held D.may_leave D.moment D.left_since l.fn.disk l.disk
    × Counts D 0 (Unit {0}) ⊥ l.fn.disk l.disk
    × (length l.block ≡ 16384)
