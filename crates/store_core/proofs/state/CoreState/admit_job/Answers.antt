use Rattle.store_core.proofs.BeginEvents.{begin_busy}
use Rattle.store_core.proofs.state.CoreState.admit_job.Goals as goal

pub returns-in-Some-clause-refused : goal.returns-in-Some-clause-refused
returns-in-Some-clause-refused c = λ m has. begin_busy c.args.self.now m _ has c.requires c.in-Some.is
