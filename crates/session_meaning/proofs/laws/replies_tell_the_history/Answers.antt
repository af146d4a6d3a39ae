use Rattle.session_meaning.proofs.Acts.{acts_tell}
use Rattle.session_meaning.proofs.Told.{knows_later, session_grows}
use Rattle.session_meaning.proofs.laws.replies_tell_the_history.Goals as goal

pub returns-clause-appended : goal.returns-clause-appended
returns-clause-appended c = session_grows

pub returns-clause-kept : goal.returns-clause-kept
returns-clause-kept c = acts_tell

pub returns-clause-known_later : goal.returns-clause-known_later
returns-clause-known_later c = λ told items earlier later first last number kept rejected skipped session reply known there is.
    knows_later told earlier later items first last number kept rejected skipped reply known session there is
