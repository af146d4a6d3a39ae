-- The replies to the clients so far were written whole.
use Rattle.std.proofs.Common.{None, ◌≤◌, take}
use Rattle.session_meaning.specs.ServedRuns.{all_replies}
use Rattle.session_meaning.specs.Serving.{served_texts}
use Rattle.trace_shell.specs.Serving.{HaveBeenGiven}
use Rattle.trace_shell.proofs.serving.write_answers.Given as goal

abbrev pub invariant-loop-client : goal.invariant-loop-client
invariant-loop-client g l = record {
  given : HaveBeenGiven (g.K.Sink.taken l.fn.sink) (g.K.Sink.taken l.sink) l.fn.tally l.tally (all_replies (take l.client l.answers)) (served_texts 0 (take l.client l.answers)) None;
  sink_counted : g.K.Sink.faults l.fn.sink ≤ g.K.Sink.faults l.sink;
}
