use Rattle.std.specs.Prelude.{List}
use Rattle.store_core.specs.Port.{port_of}
use Rattle.store_model.specs.Holds.{Hold}
use Rattle.store_tests.proofs.frames.reads.Given as goal

-- the store says what is open in it
abbrev pub invariant-loop-pages : goal.invariant-loop-pages
invariant-loop-pages g l = (held : List Hold) × (port_of g.D.Device).holds l.store held
