use Rattle.std.proofs.Common.{◌<◌, ◌≤◌, ◌+◌, ℕ, [], Some, IsTrue}
use Rattle.disk_model.specs.Calls.{Counts}
use Rattle.disk_model.specs.Crash.{OnlyBytes, Run}
use Rattle.block_list.specs.Loading.{IsReady}
use Rattle.block_list.specs.declared.body.ListBody.{ListBody}
use Rattle.store_images.specs.Stored.{KeepsStored}
use Rattle.store_files.specs.Loose.{OthersStay}
use Rattle.store_files.proofs.left.empty_left.Given as goal

abbrev pub invariant-loop-file : goal.invariant-loop-file
invariant-loop-file g l =
    let d = g.D.Device in
    let was = l.fn.disk in
    let told : Type 0 = IsTrue (d.tells was) in
    record {
      so_far : told → (body : ListBody) → IsReady (d.held was) (d.may_leave was) (Some body) → body.next_file ≤ l.first
          → Run KeepsStored d.moment d.left_since d.may_leave was l.disk × IsReady (d.held l.disk) (d.may_leave l.disk) (Some body);
      empty : told → (file : ℕ) → l.file ≤ file → file < l.end + 8 → file < 4294967295 → OnlyBytes file [] (d.may_leave l.disk);
      others : told → OthersStay (λ file. l.first ≤ file) (d.held was) (d.held l.disk) (d.may_leave was) (d.may_leave l.disk);
      counts : Counts d 0 (Unit {0}) ⊥ was l.disk;
    }
