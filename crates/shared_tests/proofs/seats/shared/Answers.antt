use denote.Param.Send.{sendable}
use Rattle.shared_tests.proofs.seats.shared.Goals as goal

pub shared_by-requires-send-Q : goal.shared_by-requires-send-Q
shared_by-requires-send-Q g c κs within = let crosses = c.a_core_crosses.ensures in search (sendable, crosses) depth 20
