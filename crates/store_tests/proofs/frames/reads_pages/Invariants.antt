use Rattle.store_state.specs.Given.{look_of}
use Rattle.store_state.specs.Meaning.{IsOpen}
use Rattle.store_tests.proofs.frames.reads_pages.Given as goal

-- the look is open
abbrev pub invariant-loop-page : goal.invariant-loop-page
invariant-loop-page g l = IsOpen g.P.LookPort.meaning l.port (look_of l.fn.look)
