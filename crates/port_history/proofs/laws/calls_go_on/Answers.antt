use Rattle.port_history.proofs.Chains.{holds_chain, tells_chain, faults_chain}
use Rattle.port_history.proofs.laws.calls_go_on.Goals as goal

pub returns-clause-holds : goal.returns-clause-holds
returns-clause-holds g c = holds_chain g.P.LookPort.meaning c.args.old.now c.args.new.now

pub returns-clause-telling : goal.returns-clause-telling
returns-clause-telling g c = tells_chain g.P.LookPort.meaning c.args.old.now c.args.new.now

pub returns-clause-faults : goal.returns-clause-faults
returns-clause-faults g c = faults_chain g.P.LookPort.meaning c.args.old.now c.args.new.now
