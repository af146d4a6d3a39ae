use denote.Param.Send.{sendable}
use Rattle.run_support.proofs.Crossing.{disk_crosses}
use Rattle.run_support.proofs.runs.play_through.Goals as goal

pub run-status-requires-send-D : goal.run-status-requires-send-D
run-status-requires-send-D g c κs within = search (sendable, disk_crosses) depth 20
