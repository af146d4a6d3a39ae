use denote.Param.Send.{sendable}
use Rattle.session_tests.proofs.Crossing.{disk_crosses}
use Rattle.session_tests.proofs.search_tests.a_pattern_that_the_maker_refuses_is_too_big.Goals as goal

pub run-status-requires-send-D : goal.run-status-requires-send-D
run-status-requires-send-D g c κs = search (sendable, disk_crosses) depth 20
