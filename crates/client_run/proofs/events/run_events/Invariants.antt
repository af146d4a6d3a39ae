-- The events before were run.
use Rattle.std.proofs.Common.{take}
use Rattle.client_run.specs.Taken.{HasCome, looks_of}
use Rattle.client_run.proofs.events.run_events.Given as goal

abbrev pub invariant-loop-event : goal.invariant-loop-event
invariant-loop-event g l =
    HasCome g.P.LookPort.meaning l.fn.port (take l.event-index l.all) l.replies.items l.port (looks_of l.looks.items) l.tasks
