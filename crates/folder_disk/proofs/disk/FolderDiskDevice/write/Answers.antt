-- The call is counted as the folder's answer is, and among the far writes before.
use Rattle.std.proofs.Common.{refl, ◌∙◌, arith}
use Rattle.folder_disk.proofs.disk.FolderDiskDevice.write.Goals as goal

pub returns-clause-counted : goal.returns-clause-counted
returns-clause-counted g c =
    let one = c.count.ensures.counted in
    let after = c.far_after-self.ensures in
    record {
      telling = refl;
      quiet = one.quiet;
      fault = one.fault;
      call = one.call;
      read = one.read;
      near = λ near. one.near tt ∙ after.near near;
      far = λ far. record { later = omega (arith, (after.far far).later, one.near tt); is = one.near tt ∙ (after.far far).is };
    }
