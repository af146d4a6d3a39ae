use denote.Param.Send.{sendable}
use Rattle.shared_tests.proofs.wakes.asked_in.Goals as goal

pub eight_ask-requires-send-Q : goal.eight_ask-requires-send-Q
eight_ask-requires-send-Q g c κs within = let crosses = c.a_core_crosses.ensures in search (sendable, crosses) depth 20
