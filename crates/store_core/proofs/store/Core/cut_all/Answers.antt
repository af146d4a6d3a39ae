use Rattle.std.proofs.Common.{true}
use Rattle.store_model.specs.Event.Event.{CutAll}
use Rattle.store_core.proofs.CutEvents.{did_cut, is_cut_all}
use Rattle.store_core.proofs.store.Core.cut_all.Goals as goal

pub returns : goal.returns
returns g c = did_cut g.D.Device g.met.D.Device.only_now c.args.self.now c.cut_all.new.self (CutAll) (λ live entry. true) c.cut_all.result (is_cut_all)
    c.cut_all.ensures.moved c.cut_all.ensures.refused c.cut_all.ensures.same
