use Rattle.look_laws.proofs.OfRuns.{of_run}
use Rattle.look_laws.proofs.laws.a_look_of_a_run_tells_its_history.Goals as goal

pub returns : goal.returns
returns g c = of_run g.D.Device c.args.old.now c.args.new.now
