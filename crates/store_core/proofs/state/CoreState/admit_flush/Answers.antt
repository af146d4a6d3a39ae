use Rattle.store_core.proofs.BeginEvents.{begin_read_only}
use Rattle.store_core.proofs.state.CoreState.admit_flush.Goals as goal

pub returns-in-Some-clause-refused : goal.returns-in-Some-clause-refused
returns-in-Some-clause-refused c = λ m has. begin_read_only c.args.self.now m c.in-Some.faults has c.in-Some.is
