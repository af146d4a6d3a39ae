use denote.Param.Send.{sendable}
use Rattle.session_tests.proofs.Crossing.{odd_disk_crosses}
use Rattle.session_tests.proofs.changed_tests.writes_on.Goals as goal

pub run-status-requires-send-D : goal.run-status-requires-send-D
run-status-requires-send-D g c κs within = search (sendable, odd_disk_crosses) depth 20
