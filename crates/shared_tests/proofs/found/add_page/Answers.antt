use Rattle.std.proofs.Common.{refl}
use Rattle.store_state.specs.Given.{look_of}
use Rattle.store_state.proofs.HoldLaws.{stays_open}
use Rattle.shared_tests.proofs.Looks.{pins_file}
use Rattle.shared_tests.proofs.found.add_page.Goals as goal

pub read_page-requires : goal.read_page-requires
read_page-requires g c = record { «open» = pins_file g.P.LookPort.meaning c.args.port.now c.args.look.now c.args.page.0 c.names.result c.names.ensures c.if-not-names.false c.requires }

pub returns-in-Ok : goal.returns-in-Ok
returns-in-Ok g c = stays_open g.P.LookPort.meaning c.args.port.now c.read_page.new.self _ _ (look_of c.args.look.now) c.in-Ok.ensures.called c.requires refl

pub returns-in-Err : goal.returns-in-Err
returns-in-Err g c = stays_open g.P.LookPort.meaning c.args.port.now c.read_page.new.self _ _ (look_of c.args.look.now) c.in-Err.ensures.called c.requires refl
