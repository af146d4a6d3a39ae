-- The call is counted as the counts say that the folder's answer is.
use Rattle.std.proofs.Common.{refl}
use Rattle.folder_disk.proofs.disk.FolderDiskDevice.len.Goals as goal

pub returns-clause-counted : goal.returns-clause-counted
returns-clause-counted g c =
    let one = c.count.ensures.counted in
    record { telling = refl; quiet = one.quiet; fault = one.fault; call = one.call; read = one.read; near = one.near; far = one.far }
