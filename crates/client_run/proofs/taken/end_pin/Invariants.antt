-- The looks before were walked over.
use Rattle.store_model.specs.Event.Event.{Done}
use Rattle.store_model.specs.Event.Reply.{Fine}
use Rattle.store_state.specs.Made.{call}
use Rattle.client_run.specs.Calls.{unless_ended}
use Rattle.client_run.specs.Taken.{looks_of}
use Rattle.client_run.specs.Walked.{Walked}
use Rattle.client_run.proofs.taken.end_pin.Given as goal

abbrev pub invariant-loop-at : goal.invariant-loop-at
invariant-loop-at l = Walked (unless_ended (call (Done l.pin) Fine)) l.at (looks_of l.fn.looks.items) (looks_of l.looks.items)
