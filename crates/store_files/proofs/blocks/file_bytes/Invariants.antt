use Rattle.std.proofs.Common.{◌≡◌, length, take}
use Rattle.std.specs.Prelude.{IsTrue}
use Rattle.disk_model.specs.Calls.{Counts}
use Rattle.disk_model.specs.Crash.{Untouched}
use Rattle.disk_model.specs.Images.{bytes_of}
use Rattle.store_files.proofs.blocks.file_bytes.Given as goal

abbrev pub invariant-loop : goal.invariant-loop
invariant-loop g l =
    let d = g.D.Device in
    record {
      front : IsTrue (d.tells l.fn.disk) → l.bytes.items ≡ take (length l.bytes.items) (bytes_of (d.held l.fn.disk) l.file);
      untouched : Untouched d.tells d.held d.may_leave d.moment d.left_since l.fn.disk l.disk;
      counts : Counts d 0 (Unit {0}) ⊥ l.fn.disk l.disk;
      part : length l.part ≡ 16384;
    }
