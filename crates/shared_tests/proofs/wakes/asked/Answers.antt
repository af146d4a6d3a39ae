use denote.Param.Send.{sendable}
use Rattle.shared_tests.proofs.Crossing.{disk_crosses}
use Rattle.shared_tests.proofs.wakes.asked.Goals as goal

pub asked_in-requires-send-D : goal.asked_in-requires-send-D
asked_in-requires-send-D g c κs within = search (sendable, disk_crosses) depth 20
