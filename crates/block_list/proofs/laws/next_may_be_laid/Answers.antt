use Rattle.block_list.proofs.ReadyLemmas.{can_lay}
use Rattle.block_list.proofs.laws.next_may_be_laid.Goals as goal

pub returns : goal.returns
returns g c = λ list next ready follows. can_lay (g.D.Device.held c.args.disk.now) (g.D.Device.may_leave c.args.disk.now) list next ready follows
