use Rattle.session_meaning.proofs.AnswerLaws.{item_means, session_means}
use Rattle.session_meaning.proofs.laws.calls_answer_as_the_history_says.Goals as goal

pub returns-clause-item : goal.returns-clause-item
returns-clause-item c = λ item before after reply agrees by. item_means item before after reply by.0 agrees by.1 by.2

pub returns-clause-session : goal.returns-clause-session
returns-clause-session c = session_means
