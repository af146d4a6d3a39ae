use Rattle.block_list.proofs.ReadyLemmas.{ready_besides, ready_quiet}
use Rattle.block_list.proofs.laws.stays_ready.Goals as goal

pub returns-clause-change : goal.returns-clause-change
returns-clause-change g c = λ old new file list. let d = g.D.Device in ready_besides file (d.held old) (d.held new) (d.may_leave old) (d.may_leave new) list

pub returns-clause-quiet : goal.returns-clause-quiet
returns-clause-quiet g c = λ old new list. let d = g.D.Device in ready_quiet (d.held old) (d.held new) (d.may_leave old) (d.may_leave new) list
