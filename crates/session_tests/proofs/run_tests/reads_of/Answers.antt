use denote.Param.Send.{sendable}
use Rattle.session_tests.proofs.Crossing.{disk_crosses}
use Rattle.session_tests.proofs.run_tests.reads_of.Goals as goal

pub run-status-requires-send-D : goal.run-status-requires-send-D
run-status-requires-send-D g c κs within = search (sendable, disk_crosses) depth 20
