use Rattle.look_laws.proofs.OfCores.{exact}
use Rattle.look_laws.proofs.laws.a_look_among_events_tells_its_history.Goals as goal

pub returns : goal.returns
returns g c = exact g.D.Device c.args.old.now c.args.new.now
