use Rattle.std.proofs.Common.{◌∙◌, sym, subst}
use Rattle.store_model.specs.History.{History}
use Rattle.store_core.specs.Port.{LookShows}
use Rattle.store_core.proofs.OpeningEnds.{if_ok_more}
use Rattle.store_core.proofs.KeptCores.{left_kept}
use Rattle.store_core.proofs.PortEvents.{did_is_called}
use Rattle.store_core.proofs.port.CoreLookPort.look.Goals as goal

pub returns-clause-called : goal.returns-clause-called
returns-clause-called g c = did_is_called g.D.Device c.args.self.now _ _ _ c.take_look.ensures.looked

pub returns-clause-pins : goal.returns-clause-pins
returns-clause-pins g c = if_ok_more c.take_look.result _ _ (λ look same infos told. same ∙ sym told) c.take_look.ensures.infos

pub returns-clause-whole : goal.returns-clause-whole
returns-clause-whole g c = λ told. if_ok_more c.take_look.result _ _ (λ look whole held known. whole known.machine known.shown) (c.take_look.ensures.whole told)

pub returns-clause-shows : goal.returns-clause-shows
returns-clause-shows g c =
    let d = g.D.Device in
    if_ok_more c.take_look.result _ _ (λ look shows v known. subst (λ (h : History). LookShows d c.take_look.new.self look h) known.history (shows known.machine known.stands)) c.take_look.ensures.shows

pub returns-clause-left : goal.returns-clause-left
returns-clause-left g c = left_kept g.D.Device c.args.self.now c.take_look.new.self c.take_look.ensures.left
