use Rattle.store_state.specs.Given.{look_of}
use Rattle.store_state.specs.Meaning.{IsOpen}
use Rattle.shared_tests.proofs.found.add_blocks.Given as goal

-- the look is open
abbrev pub invariant-loop-info : goal.invariant-loop-info
invariant-loop-info g l = IsOpen g.P.LookPort.meaning l.port (look_of l.fn.look)
