use Rattle.port_history.proofs.Chains.{made_snoc}
use Rattle.port_history.proofs.laws.one_more_entry.Goals as goal

pub returns : goal.returns
returns g c = made_snoc g.P.LookPort.meaning c.args.old.now c.args.between.now c.args.new.now
