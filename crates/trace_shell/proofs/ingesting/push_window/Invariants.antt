-- The lines so far were pushed, and the core says what is open in it.
use Rattle.std.proofs.Common.{◌≤◌, List, None}
use Rattle.store_core.specs.Port.{port_of}
use Rattle.store_model.specs.Holds.{Hold}
use Rattle.trace_shell.proofs.IngestWindows.{Pushing}
use Rattle.trace_shell.proofs.ingesting.push_window.Given as goal

abbrev pub invariant-loop-line : goal.invariant-loop-line
invariant-loop-line g l = record {
  so_far : Pushing g.D.Device l.fn.core l.core (g.K.Sink.taken l.fn.sink) (g.K.Sink.taken l.sink) l.fn.tally l.tally (g.C.Clock.moments l.fn.clock) (g.C.Clock.moments l.clock) l.fn.window.items
      l.line-iterator.rest.items None;
  holds : (held : List Hold) × (port_of g.D.Device).holds l.core held;
  sink_counted : g.K.Sink.faults l.fn.sink ≤ g.K.Sink.faults l.sink;
}
