use Rattle.std.proofs.Common.{refl}
use Rattle.store_state.specs.Given.{look_of}
use Rattle.store_state.proofs.HoldLaws.{stays_open}
use Rattle.store_tests.proofs.Looks.{stays_beside}
use Rattle.store_tests.proofs.compacting.joins.Goals as goal

pub returns : goal.returns
returns g c = λ look is.
    let made = c.compact_round-round.ensures.made in
    stays_open g.P.LookPort.meaning c.compact_round-round.new.port c.reclaim.new.self _ _ (look_of look) c.reclaim.ensures
    (stays_beside g.P.LookPort.meaning c.args.port.now c.compact_round-round.new.port made.0 _ look made.2 made.1 is) refl
