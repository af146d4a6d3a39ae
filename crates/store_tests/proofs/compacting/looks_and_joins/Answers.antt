use Rattle.std.proofs.Common.{zero, refl, arith}
use Rattle.store_state.specs.Given.{look_of}
use Rattle.store_state.proofs.HoldLaws.{opens_new}
use Rattle.store_tests.proofs.compacting.looks_and_joins.Goals as goal

pub joins_beside-requires : goal.joins_beside-requires
joins_beside-requires g c = opens_new g.P.LookPort.meaning c.args.port.now c.look.new.self _ _ (look_of c.in-Ok.look) c.in-Ok.ensures.called c.requires (zero, omega arith, refl)
