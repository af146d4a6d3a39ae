-- A disk in memory goes from one thread to another.
use denote.Param.Send.{IsSend, sendable}
use Rattle.std.proofs.Crossing as std
use Rattle.std.proofs.MapsCrossing as maps
use Rattle.disk_model.specs.contracts.memory.MemDisk as Disk

pub disk_crosses : IsSend Disk.the_row
disk_crosses = search (sendable, std.crosses, maps.crosses) depth 80 fits 100000
