-- So far each compaction joined blocks, and as many may be made yet as make up the bound with those.
use Rattle.std.proofs.Common.{◌-◌, ◌≤◌, List}
use Rattle.session_meaning.specs.Duties.{most_rounds}
use Rattle.store_core.specs.Port.{port_of}
use Rattle.store_model.specs.Holds.{Hold}
use Rattle.trace_shell.proofs.IngestLemmas.{Compacting}
use Rattle.trace_shell.proofs.ingesting.compact_all.Given as goal

abbrev pub invariant-rounds : goal.invariant-rounds
invariant-rounds g l = record {
  made : Compacting g.D.Device l.fn.core l.core (g.K.Sink.taken l.fn.sink) (g.K.Sink.taken l.sink) l.fn.tally l.tally (most_rounds - l.counter);
  holds : (held : List Hold) × (port_of g.D.Device).holds l.core held;
  sink_counted : g.K.Sink.faults l.fn.sink ≤ g.K.Sink.faults l.sink;
}
