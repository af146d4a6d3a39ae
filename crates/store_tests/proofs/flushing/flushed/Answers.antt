use Rattle.std.proofs.Common.{[]}
use Rattle.store_tests.proofs.flushing.flushed.Goals as goal

pub flush-end-requires : goal.flush-end-requires
flush-end-requires g c = let begins = c.in-Ok.ensures.opened.begins in ([], c.a_shown_core_is_a_port.ensures begins.0 begins.1.shows)
