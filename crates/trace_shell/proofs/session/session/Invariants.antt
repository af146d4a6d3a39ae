-- Between two lines the session is where its start and the lines so far bring it, what is open in its store is known, and each turn
-- brings it nearer to its end.
use Rattle.std.proofs.Common.{◌≡◌, ℕ, List, Some, ◌≤◌}
use Rattle.io_edges.specs.Reader.{TakesBytes, to_come}
use Rattle.session_meaning.specs.Act.{Act}
use Rattle.session_meaning.specs.Over.{AreDoneOver}
use Rattle.session_text.specs.declared.reply.Reply.{Reply}
use Rattle.traceql_types.specs.Makers.{RefusesOnly}
use Rattle.trace_shell.specs.Turn.{IsAt, IsHeld}
use Rattle.trace_shell.proofs.session.session.Given as goal

abbrev pub invariant-lines : goal.invariant-lines
invariant-lines g l = record {
  at : (acts : List Act) × (replies : List Reply) × (blamed : List (List ℕ)) × RefusesOnly g.P.PatternMaker.makes l.fn.patterns l.patterns blamed
      × AreDoneOver g.D.Device l.fn.store acts replies l.store
      × ((text before : List ℕ) → g.S.Source.left l.fn.source ≡ Some text → g.K.Sink.taken l.fn.sink ≡ Some before →
      IsAt (g.C.Clock.moments l.fn.clock) text before (g.S.Source.left l.source) (g.K.Sink.taken l.sink) (g.C.Clock.moments l.clock) l.reader l.tally acts replies blamed);
  held : IsHeld g.D.Device l.store;
  source_counted : g.S.Source.faults l.fn.source ≤ g.S.Source.faults l.source;
  sink_counted : g.K.Sink.faults l.fn.sink ≤ g.K.Sink.faults l.sink;
  took : TakesBytes (g.S.Source.left l.fn.source) (g.S.Source.left l.source) 0 l.reader.taken;
}

abbrev pub decreases-lines : goal.decreases-lines
decreases-lines g l = to_come l.reader
