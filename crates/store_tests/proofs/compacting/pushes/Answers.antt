use Rattle.store_state.specs.Replies.{push_reply}
use Rattle.store_tests.proofs.Flushes.{goes_on}
use Rattle.store_tests.proofs.compacting.pushes.Goals as goal

pub returns-in-Ok : goal.returns-in-Ok
returns-in-Ok g c = goes_on g.P.LookPort.meaning c.args.port.now c.push.new.self _ (push_reply c.push.result) c.push.ensures

pub returns-in-Err : goal.returns-in-Err
returns-in-Err g c = λ h. h
