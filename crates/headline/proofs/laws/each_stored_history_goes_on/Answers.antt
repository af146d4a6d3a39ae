use Rattle.headline.proofs.Alike.{each_keeps}
use Rattle.headline.proofs.laws.each_stored_history_goes_on.Goals as goal

pub returns : goal.returns
returns g c = each_keeps g.D.Device c.args.disk.now c.args.later.now
