use Rattle.port_history.proofs.Chains.{entries_made}
use Rattle.port_history.proofs.laws.entries_are_calls.Goals as goal

pub returns : goal.returns
returns g c = entries_made g.P.LookPort.meaning c.args.old.now c.args.new.now
