use Rattle.headline.proofs.Alike.{next_keeps, stopped_amid, stopped_keeps}
use Rattle.headline.proofs.laws.the_next_run_goes_on.Goals as goal

pub returns-clause-after_its_end : goal.returns-clause-after_its_end
returns-clause-after_its_end g c = λ acts replies first last kept words o old new run recovers opened possible.
    next_keeps g.D.Device c.args.begun.now c.args.left.now c.args.disk.now c.args.later.now acts replies first last kept words o old new run recovers opened possible

pub returns-clause-after_a_crash : goal.returns-clause-after_a_crash
returns-clause-after_a_crash g c = λ acts replies first last kept words o old new run recovers opened at_first since.
    stopped_keeps g.D.Device c.args.begun.now c.args.left.now c.args.disk.now c.args.later.now acts replies first last kept words o old new run recovers opened at_first since

pub returns-clause-after_a_fault_and_a_crash : goal.returns-clause-after_a_fault_and_a_crash
returns-clause-after_a_fault_and_a_crash g c = λ acts replies first last kept words o old new run recovers opened before unsure at_first since.
    stopped_amid g.D.Device c.args.begun.now c.args.left.now c.args.disk.now c.args.later.now acts replies first last kept words o old new run recovers opened before unsure at_first since
