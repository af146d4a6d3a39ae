use Rattle.session_meaning.proofs.Seen.{found_in, search_waits, trace_in, trace_waits}
use Rattle.session_meaning.proofs.laws.queries_tell_what_they_see.Goals as goal

pub returns-clause-traces : goal.returns-clause-traces
returns-clause-traces c = trace_in

pub returns-clause-searches : goal.returns-clause-searches
returns-clause-searches c = found_in

pub returns-clause-waiting : goal.returns-clause-waiting
returns-clause-waiting c = trace_waits

pub returns-clause-searched : goal.returns-clause-searched
returns-clause-searched c = search_waits
