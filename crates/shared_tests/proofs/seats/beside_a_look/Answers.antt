use Rattle.shared_store.specs.Seats.{seat_meaning}
use Rattle.shared_tests.proofs.SeatHolds.{says, taken_is_open}
use Rattle.shared_tests.proofs.seats.beside_a_look.Goals as goal

pub beside_look-requires-clause-open : goal.beside_look-requires-clause-open
beside_look-requires-clause-open g c κs within =
    taken_is_open (seat_meaning g.Q.LookPort.meaning) c.args.host.now c.look.new.self c.in-Ok.look c.in-Ok.ensures.called (says g.Q.LookPort.meaning c.args.host.now)
