use Rattle.shared_store.specs.Seats.{seat_meaning}
use Rattle.shared_tests.proofs.SeatHolds.{begun_is_open, says}
use Rattle.shared_tests.proofs.seats.beside_a_flush.Goals as goal

pub beside_flush-requires-clause-open : goal.beside_flush-requires-clause-open
beside_flush-requires-clause-open g c κs within =
    begun_is_open (seat_meaning g.Q.LookPort.meaning) c.args.host.now c.begin_flush.new.self c.in-Ok-Some.field-0 c.in-Ok-Some.job c.in-Ok-Some.field-0-is
    c.in-Ok-Some.ensures.called (says g.Q.LookPort.meaning c.args.host.now)
