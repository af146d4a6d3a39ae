use Rattle.std.proofs.Common.{[]}
use Rattle.store_tests.proofs.compacting.joined.Goals as goal

pub makes_and_joins-end-requires : goal.makes_and_joins-end-requires
makes_and_joins-end-requires g c = let begins = c.in-Ok.ensures.opened.begins in ([], c.a_shown_core_is_a_port.ensures begins.0 begins.1.shows)
