use Rattle.shared_store.proofs.Appends.{kept_left}
use Rattle.shared_store.proofs.Leaves.{open_left}
use Rattle.shared_store.proofs.held.others_leave_what_is_held.Goals as goal

pub returns-clause-open : goal.returns-clause-open
returns-clause-open g c = λ held entries. open_left g.P.LookPort.meaning held c.args.old.now c.args.new.now entries

pub returns-clause-bytes : goal.returns-clause-bytes
returns-clause-bytes g c = λ held entries. kept_left g.P.LookPort.meaning held c.args.old.now c.args.new.now entries
