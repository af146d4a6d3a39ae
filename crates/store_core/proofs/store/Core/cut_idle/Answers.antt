use Rattle.store_model.specs.Cut.{is_idle}
use Rattle.store_model.specs.Event.Event.{Cut}
use Rattle.store_core.proofs.CutEvents.{did_cut, is_cut}
use Rattle.store_core.proofs.store.Core.cut_idle.Goals as goal

pub returns : goal.returns
returns g c = did_cut g.D.Device g.met.D.Device.only_now c.args.self.now c.cut_idle.new.self (Cut c.args.moment) (is_idle c.args.moment) c.cut_idle.result (is_cut c.args.moment)
    c.cut_idle.ensures.moved c.cut_idle.ensures.refused c.cut_idle.ensures.same
