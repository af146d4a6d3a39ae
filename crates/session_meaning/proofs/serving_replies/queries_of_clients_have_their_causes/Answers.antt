use Rattle.session_meaning.proofs.ServedQueries.{look_there, query_shown}
use Rattle.session_meaning.proofs.serving_replies.queries_of_clients_have_their_causes.Goals as goal

pub returns-clause-answered : goal.returns-clause-answered
returns-clause-answered c = look_there

pub returns-clause-refused : goal.returns-clause-refused
returns-clause-refused c = λ told first last scripts answers entries client asked got item why ran this query.
    query_shown told first last scripts answers entries client asked got item why ran this query
