-- The lines so far were pushed, and what was due after each was done.
use Rattle.std.proofs.Common.{List}
use Rattle.session_meaning.specs.Drill.{LinesMade}
use Rattle.session_text.specs.declared.reply.Reply.{Reply}
use Rattle.session_text.specs.Items.{Item}
use Rattle.store_core.specs.Port.{port_of}
use Rattle.store_model.specs.Holds.{Hold}
use Rattle.trace_shell.specs.Drilling.{HasMade}
use Rattle.trace_shell.proofs.drilling.push_all.Given as goal

abbrev pub invariant-loop-index : goal.invariant-loop-index
invariant-loop-index g l = record {
  made : (items : List Item) × (replies : List Reply) × HasMade g.D.Device l.fn.core l.core l.fn.counts l.counts items replies
      × LinesMade l.fn.seed l.fn.traces 0 l.index (g.C.Clock.moments l.fn.clock) items (g.C.Clock.moments l.clock);
  holds : (held : List Hold) × (port_of g.D.Device).holds l.core held;
}
