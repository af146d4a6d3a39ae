use Rattle.std.proofs.Common.{refl}
use Rattle.store_state.specs.Given.{look_of, look_parts}
use Rattle.store_state.specs.Given.IsPinOf.{OfLook}
use Rattle.query_fanout.proofs.CallLaws.{read_stays}
use Rattle.query_fanout.proofs.PinnedLaws.{shown_stays}
use Rattle.query_fanout.proofs.pinned.PinnedPages.page.Goals as goal

pub read_page-requires : goal.read_page-requires
read_page-requires g c = record { «open» = OfLook (look_parts c.args.self.now.look.now) refl refl c.requires.0 c.requires.1 }

pub returns-clause-same_files : goal.returns-clause-same_files
returns-clause-same_files g c = λ told file.
    shown_stays g.P.LookPort.meaning c.args.self.now.look.now c.args.self.now.port.now c.read_page.new.self
    (read_stays g.P.LookPort.meaning (look_of c.args.self.now.look.now) c.args.self.now.look.now.pin.number c.args.block c.args.page _ c.args.self.now.port.now c.read_page.new.self
    c.requires.0 c.read_page.ensures.called) told file

pub returns-clause-ready : goal.returns-clause-ready
returns-clause-ready g c = λ other ready.
    let stays = read_stays g.P.LookPort.meaning (look_of c.args.self.now.look.now) c.args.self.now.look.now.pin.number c.args.block c.args.page _ c.args.self.now.port.now c.read_page.new.self
    ready.0 c.read_page.ensures.called in
    (stays.is_open, ready.1)
