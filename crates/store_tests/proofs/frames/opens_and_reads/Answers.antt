use Rattle.std.proofs.Common.{[]}
use Rattle.store_tests.proofs.frames.opens_and_reads.Goals as goal

pub reads-requires : goal.reads-requires
reads-requires g c = let begins = c.in-Ok.ensures.opened.begins in ([], c.a_shown_core_is_a_port.ensures begins.0 begins.1.shows)
