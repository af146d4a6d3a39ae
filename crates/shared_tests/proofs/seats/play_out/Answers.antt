use denote.Param.Send.{sendable}
use Rattle.shared_tests.proofs.Crossing.{disk_crosses}
use Rattle.shared_tests.proofs.seats.play_out.Goals as goal

pub shared-requires-send-D : goal.shared-requires-send-D
shared-requires-send-D g c κs within = search (sendable, disk_crosses) depth 20
