use Rattle.std.proofs.Common.{[]}
use Rattle.store_tests.proofs.flushing.opens_and_begins.Goals as goal

pub begins_twice-requires : goal.begins_twice-requires
begins_twice-requires g c = let begins = c.in-Ok.ensures.opened.begins in ([], c.a_shown_core_is_a_port.ensures begins.0 begins.1.shows)
