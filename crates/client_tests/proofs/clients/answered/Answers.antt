use denote.Param.Send.{sendable}
use Rattle.client_tests.proofs.Crossing.{disk_crosses}
use Rattle.client_tests.proofs.clients.answered.Goals as goal

pub run_scripts-core-requires-send-D : goal.run_scripts-core-requires-send-D
run_scripts-core-requires-send-D g c κs within = search (sendable, disk_crosses) depth 20
