use Rattle.port_history.proofs.Chains.{counts_chain, legal_counts}
use Rattle.port_history.proofs.laws.counts_never_fall.Goals as goal

pub returns-clause-made : goal.returns-clause-made
returns-clause-made g c = λ entries made. counts_chain g.P.LookPort.meaning c.args.old.now c.args.new.now entries made

pub returns-clause-legal : goal.returns-clause-legal
returns-clause-legal g c = legal_counts
