-- The disks of these tests go from one thread to another.
use denote.Param.Send.{IsSend, sendable}
use Rattle.std.proofs.Crossing as std
use Rattle.std.proofs.MapsCrossing as maps
use Rattle.disk_model.specs.contracts.memory.MemDisk as MemDisk
use Rattle.disk_model.specs.contracts.odd.OddDisk as OddDisk

pub disk_crosses : IsSend MemDisk.the_row
disk_crosses = search (sendable, std.crosses, maps.crosses) depth 80 fits 100000

pub odd_disk_crosses : IsSend OddDisk.the_row
odd_disk_crosses = search (sendable, std.crosses, maps.crosses) depth 80 fits 100000
