use Rattle.std.proofs.Common.{rules, arith}
use Rattle.store_model.specs.Event.Event.{Done}
use Rattle.store_model.specs.Event.Reply.{Fine}
use Rattle.store_state.specs.Made.{call}
use Rattle.client_run.specs.Calls.{unless_ended}
use Rattle.client_run.proofs.LookLemmas.{pin_step}
use Rattle.client_run.proofs.taken.end_pin.Goals as goal

pub loop-at-preserved : goal.loop-at-preserved
loop-at-preserved c =
    pin_step (unless_ended (call (Done c.args.pin) Fine)) c.args.looks.now.items c.loop-at.looks.items c.loop-at.at c.index_mut.result.now c.end_one.new.look
    c.loop-at.invariant (first_of (search rules, omega (arith, c.loop-at-test.true, c.len-at-end.ensures, c.args.looks.now.ok.0))) c.index_mut.ensures.value c.end_one.ensures
