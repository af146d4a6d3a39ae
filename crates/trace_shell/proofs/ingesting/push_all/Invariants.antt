-- Between two lines what was due for the lines so far was done, the core says what is open in it, and each turn brings the reader nearer
-- to the end.
use Rattle.std.proofs.Common.{◌≤◌, List}
use Rattle.io_edges.specs.Reader.{TakesBytes, to_come}
use Rattle.store_core.specs.Port.{port_of}
use Rattle.store_model.specs.Holds.{Hold}
use Rattle.trace_shell.specs.declared.ingesting.After.TheVariants.{Line}
use Rattle.trace_shell.proofs.IngestReads.{HaveTurned}
use Rattle.trace_shell.proofs.ingesting.push_all.Given as goal

abbrev pub invariant-lines : goal.invariant-lines
invariant-lines g l = record {
  at : HaveTurned g.D.Device l.fn.core l.core (g.K.Sink.taken l.fn.sink) (g.K.Sink.taken l.sink) l.fn.tally l.tally (g.C.Clock.moments l.fn.clock) (g.C.Clock.moments l.clock)
      (g.S.Source.left l.fn.source) (g.S.Source.left l.source) l.reader Line;
  holds : (held : List Hold) × (port_of g.D.Device).holds l.core held;
  source_counted : g.S.Source.faults l.fn.source ≤ g.S.Source.faults l.source;
  sink_counted : g.K.Sink.faults l.fn.sink ≤ g.K.Sink.faults l.sink;
  took : TakesBytes (g.S.Source.left l.fn.source) (g.S.Source.left l.source) 0 l.reader.taken;
}

abbrev pub decreases-lines : goal.decreases-lines
decreases-lines g l = to_come l.reader
