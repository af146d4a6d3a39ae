use denote.Param.Send.{sendable}
use Rattle.traceql_types.proofs.Crossing.{checked-send, checked-sync}
use Rattle.traceql_types.proofs.shared.checked_crosses.Goals as goal

pub crosses-requires-send-T : goal.crosses-requires-send-T
crosses-requires-send-T c κs = search (checked-send, sendable) depth 20

pub crosses-requires-sync-T : goal.crosses-requires-sync-T
crosses-requires-sync-T c κs = search (checked-sync, sendable) depth 20

pub returns : goal.returns
returns c = record { send = checked-send; sync = checked-sync }
