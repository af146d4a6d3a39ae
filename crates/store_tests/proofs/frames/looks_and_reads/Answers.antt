use Rattle.std.proofs.Common.{zero, refl, arith}
use Rattle.store_state.specs.Given.{look_of}
use Rattle.store_state.proofs.HoldLaws.{opens_new}
use Rattle.store_tests.proofs.Flushes.{goes_on}
use Rattle.store_tests.proofs.frames.looks_and_reads.Goals as goal

pub reads_pages-read-requires : goal.reads_pages-read-requires
reads_pages-read-requires g c = opens_new g.P.LookPort.meaning c.args.port.now c.look.new.self _ _ (look_of c.in-Ok.look) c.in-Ok.ensures.called c.requires (zero, omega arith, refl)

pub returns-in-Ok : goal.returns-in-Ok
returns-in-Ok g c = let is = c.reads_pages-read.ensures in goes_on g.P.LookPort.meaning c.reads_pages-read.new.port c.done.new.self _ _ c.done.ensures.called (is.0, is.1)

pub returns-in-Err : goal.returns-in-Err
returns-in-Err g c = goes_on g.P.LookPort.meaning c.args.port.now c.look.new.self _ _ c.in-Err.ensures.called c.requires
