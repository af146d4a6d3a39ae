use Rattle.session_meaning.proofs.Told.{knows_later}
use Rattle.headline.proofs.Counts.{knows_over, never_falls, never_falls_over, numbered_on}
use Rattle.headline.proofs.laws.counts_grow.Goals as goal

pub returns-clause-as_of : goal.returns-clause-as_of
returns-clause-as_of c = never_falls

pub returns-clause-acknowledged : goal.returns-clause-acknowledged
returns-clause-acknowledged c = λ told items earlier later other first last number accepted rejected skipped further session there known.
    knows_later told earlier later items first last number accepted rejected skipped other further session there known

pub returns-clause-over_openings : goal.returns-clause-over_openings
returns-clause-over_openings c = never_falls_over

pub returns-clause-still_known : goal.returns-clause-still_known
returns-clause-still_known c = knows_over

pub returns-clause-numbered : goal.returns-clause-numbered
returns-clause-numbered c = numbered_on
