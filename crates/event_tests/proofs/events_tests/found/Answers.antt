use Rattle.std.proofs.Common.{[]}
use Rattle.event_tests.proofs.events_tests.found.Goals as goal

pub find_trace-answer-requires : goal.find_trace-answer-requires
find_trace-answer-requires g c = let begins = c.in-Ok.ensures.opened.begins in ([], c.a_shown_core_is_a_port.ensures begins.0 begins.1.shows)
