use Rattle.store_state.specs.Given.{look_of}
use Rattle.store_state.specs.Meaning.{IsOpen}
use Rattle.shared_tests.proofs.found.add_pages.Given as goal

-- the look is open
abbrev pub invariant-loop-page : goal.invariant-loop-page
invariant-loop-page g l = IsOpen g.P.LookPort.meaning l.port (look_of l.fn.look)
