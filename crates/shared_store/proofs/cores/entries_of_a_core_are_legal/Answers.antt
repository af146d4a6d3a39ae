use Rattle.shared_store.proofs.CoreLaws.{entries_are_legal, shown_are_legal}
use Rattle.shared_store.proofs.cores.entries_of_a_core_are_legal.Goals as goal

pub returns-clause-stands : goal.returns-clause-stands
returns-clause-stands g c = entries_are_legal g.D.Device c.args.old.now c.args.new.now

pub returns-clause-shown : goal.returns-clause-shown
returns-clause-shown g c = shown_are_legal g.D.Device c.args.old.now c.args.new.now
