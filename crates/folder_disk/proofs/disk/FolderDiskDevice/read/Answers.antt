-- The call is counted as the folder's answer is, and among the reads before.
use Rattle.std.proofs.Common.{refl, ◌∙◌, arith}
use Rattle.folder_disk.proofs.disk.FolderDiskDevice.read.Goals as goal

pub returns-clause-counted : goal.returns-clause-counted
returns-clause-counted g c =
    let one = c.count.ensures.counted in
    let more = c.one_more-self.ensures in
    record {
      telling = refl;
      quiet = one.quiet;
      fault = one.fault;
      call = one.call;
      read = record { later = omega (arith, more.later, one.read); is = one.read ∙ more.is };
      near = one.near;
      far = one.far;
    }
