use Rattle.std.proofs.Common.{refl, true}
use Rattle.session_meaning.proofs.EndLaws.{run_ends, run_ends_well}
use Rattle.session_meaning.proofs.laws.comes_to_an_end.Goals as goal

pub returns-clause-ends : goal.returns-clause-ends
returns-clause-ends c = λ told words command o old new spells run well. run_ends told words o old new run command spells well

pub returns-clause-well : goal.returns-clause-well
returns-clause-well c = λ words command o old new spells run well before taken items are none room.
    run_ends_well true words o old new run refl command spells well before taken items are none room
