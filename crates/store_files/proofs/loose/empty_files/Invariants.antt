use Rattle.std.proofs.Common.{◌<◌, ◌*◌, IsTrue, [], Some, ℕ, get_or}
use Rattle.std.specs.List.{Contains}
use Rattle.disk_model.specs.Crash.{OnlyBytes, Run}
use Rattle.block_list.specs.Loading.{IsReady}
use Rattle.block_list.specs.declared.body.ListBody.{ListBody}
use Rattle.store_images.specs.Stored.{KeepsStored}
use Rattle.store_files.specs.Loose.{AreUnused, OthersStay}
use Rattle.store_files.proofs.Answered.{FineCalls}
use Rattle.store_files.proofs.loose.empty_files.Given as goal

abbrev pub invariant-loop-file : goal.invariant-loop-file
invariant-loop-file g l =
    let d = g.D.Device in
    record {
      so_far : IsTrue (d.tells l.fn.disk) → (body : ListBody) → IsReady (d.held l.fn.disk) (d.may_leave l.fn.disk) (Some body) → AreUnused body l.files
          → Run KeepsStored d.moment d.left_since d.may_leave l.fn.disk l.disk × IsReady (d.held l.disk) (d.may_leave l.disk) (Some body);
      emptied : IsTrue (d.tells l.fn.disk) → (k : ℕ) → k < l.file-index → OnlyBytes (get_or l.files k 0) [] (d.may_leave l.disk);
      others : IsTrue (d.tells l.fn.disk) → OthersStay (Contains l.files) (d.held l.fn.disk) (d.held l.disk) (d.may_leave l.fn.disk) (d.may_leave l.disk);
      made : FineCalls d (2 * l.file-index) 0 l.fn.disk l.disk;
    }
