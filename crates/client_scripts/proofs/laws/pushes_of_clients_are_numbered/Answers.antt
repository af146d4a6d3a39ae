use Rattle.client_scripts.proofs.NumberLemmas.{are_numbered}
use Rattle.client_scripts.proofs.laws.pushes_of_clients_are_numbered.Goals as goal

pub returns : goal.returns
returns g c = λ entries scripts answers calls served m stands.
    are_numbered g.D.Device c.args.old.now c.args.new.now entries scripts answers calls served.served m stands
