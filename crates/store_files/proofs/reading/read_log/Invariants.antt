use Rattle.std.proofs.Common.{◌≤◌, ◌+◌, IsTrue, take}
use Rattle.std.specs.List.{Contains}
use Rattle.disk_model.specs.Calls.{Counts}
use Rattle.disk_model.specs.Images.{bytes_of}
use Rattle.disk_model.specs.Crash.{OnlyBytes, Untouched}
use Rattle.block_list.specs.declared.body.SegmentRef.{SegmentRef}
use Rattle.store_images.specs.Stored.{first_number}
use Rattle.store_files.specs.LogReading.{tail_of}
use Rattle.store_files.proofs.LogSteps.{Reads}
use Rattle.store_files.proofs.reading.read_log.Given as goal

abbrev pub invariant-loop-at : goal.invariant-loop-at
invariant-loop-at g l =
    let d = g.D.Device in
    record {
      read : Reads (IsTrue (d.tells l.fn.disk)) (d.held l.fn.disk) (take l.at l.segments) (first_number l.list) l.batches.items (tail_of l.last);
      few : l.last.first + l.last.count ≤ 4294967295;
      lies : IsTrue (d.tells l.fn.disk) → (x : SegmentRef) → Contains (take l.at l.segments) x → OnlyBytes x.file (bytes_of (d.held l.fn.disk) x.file) (d.may_leave l.disk);
      untouched : Untouched d.tells d.held d.may_leave d.moment d.left_since l.fn.disk l.disk;
      counts : Counts d 0 (Unit {0}) ⊥ l.fn.disk l.disk;
    }
