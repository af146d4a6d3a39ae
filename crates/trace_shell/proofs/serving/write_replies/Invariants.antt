-- The replies so far were written whole.
use Rattle.std.proofs.Common.{None, ◌≤◌, take}
use Rattle.session_meaning.specs.Serving.{texts_to}
use Rattle.trace_shell.specs.Serving.{HaveBeenGiven}
use Rattle.trace_shell.proofs.serving.write_replies.Given as goal

abbrev pub invariant-loop-reply : goal.invariant-loop-reply
invariant-loop-reply g l = record {
  given : HaveBeenGiven (g.K.Sink.taken l.fn.sink) (g.K.Sink.taken l.sink) l.fn.tally l.tally (take l.reply-index l.replies) (texts_to l.client (take l.reply-index l.replies)) None;
  sink_counted : g.K.Sink.faults l.fn.sink ≤ g.K.Sink.faults l.sink;
}
