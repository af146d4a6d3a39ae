use Rattle.store_core.proofs.OpeningEnds.{if_ok_more, if_some_more}
use Rattle.store_core.proofs.PortEvents.{did_is_called}
use Rattle.store_core.proofs.port.CorePort.begin_compact.Goals as goal

pub returns-clause-called : goal.returns-clause-called
returns-clause-called g c = did_is_called g.D.Device c.args.self.now _ _ _ c.begin_compact.ensures.begun

pub returns-clause-joins : goal.returns-clause-joins
returns-clause-joins g c = λ held known. c.begin_compact.ensures.joins known.machine known.shown

pub returns-clause-blocks : goal.returns-clause-blocks
returns-clause-blocks g c = λ told.
    if_ok_more c.begin_compact.result _ _ (λ begun. if_some_more begun _ _ (λ job blocks v known. blocks known.machine known.stands)) (c.begin_compact.ensures.blocks told)

pub returns-clause-whole : goal.returns-clause-whole
returns-clause-whole g c = λ told.
    if_ok_more c.begin_compact.result _ _ (λ begun. if_some_more begun _ _ (λ job whole held known. whole known.machine known.shown)) (c.begin_compact.ensures.whole told)
