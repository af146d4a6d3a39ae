use Rattle.shared_tests.proofs.SeatHolds.{taken_is_open}
use Rattle.shared_tests.proofs.found.read_all.Goals as goal

pub shown-rows-requires : goal.shown-rows-requires
shown-rows-requires g c = taken_is_open g.P.LookPort.meaning c.args.port.now c.look.new.self c.in-Ok.look c.in-Ok.ensures.called c.requires
