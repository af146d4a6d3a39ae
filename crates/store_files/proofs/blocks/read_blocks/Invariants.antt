use Rattle.std.proofs.Common.{IsTrue, take}
use Rattle.std.specs.List.{Contains}
use Rattle.disk_model.specs.Calls.{Counts}
use Rattle.disk_model.specs.Images.{bytes_of}
use Rattle.disk_model.specs.Crash.{OnlyBytes, Untouched}
use Rattle.block_list.specs.declared.body.BlockRef.{BlockRef}
use Rattle.store_files.specs.BlockReading.{BlocksRead}
use Rattle.store_files.proofs.blocks.read_blocks.Given as goal

abbrev pub invariant-loop-block : goal.invariant-loop-block
invariant-loop-block g l =
    let d = g.D.Device in
    record {
      read : BlocksRead (IsTrue (d.tells l.fn.disk)) (d.held l.fn.disk) (take l.block-index l.blocks) l.infos.items;
      lies : IsTrue (d.tells l.fn.disk) → (x : BlockRef) → Contains (take l.block-index l.blocks) x → OnlyBytes x.file (bytes_of (d.held l.fn.disk) x.file) (d.may_leave l.disk);
      untouched : Untouched d.tells d.held d.may_leave d.moment d.left_since l.fn.disk l.disk;
      counts : Counts d 0 (Unit {0}) ⊥ l.fn.disk l.disk;
    }
