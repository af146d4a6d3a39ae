use Rattle.session_meaning.proofs.AnswerLaws.{session_closes, session_keeps_agreeing}
use Rattle.session_meaning.proofs.ReadOnly.{session_fails}
use Rattle.session_meaning.proofs.laws.sessions_keep_the_store.Goals as goal

pub returns-clause-agrees : goal.returns-clause-agrees
returns-clause-agrees c = session_keeps_agreeing

pub returns-clause-closed : goal.returns-clause-closed
returns-clause-closed c = session_closes

pub returns-clause-read_only : goal.returns-clause-read_only
returns-clause-read_only c = session_fails
