use Rattle.shared_store.proofs.Both.{same_calls, same_store, seen_goes_on}
use Rattle.shared_store.proofs.Lists.{own_nobody}
use Rattle.shared_store.proofs.made.a_seat_has_just_its_calls.Goals as goal

pub returns-clause-none : goal.returns-clause-none
returns-clause-none g c = λ v. own_nobody v.seen.entries

pub returns-clause-calls : goal.returns-clause-calls
returns-clause-calls g c = same_calls g.P.LookPort.meaning

pub returns-clause-seen : goal.returns-clause-seen
returns-clause-seen g c = seen_goes_on g.P.LookPort.meaning

pub returns-clause-store : goal.returns-clause-store
returns-clause-store g c = same_store g.P.LookPort.meaning
