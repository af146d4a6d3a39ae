use Rattle.std.proofs.Common.{◌∙◌, ap, sym, subst}
use Rattle.store_model.specs.Event.Event.{Push}
use Rattle.store_state.specs.Meaning.{Called}
use Rattle.store_state.specs.Replies.{push_reply}
use Rattle.shared_store.specs.Seats.{seat_meaning}
use Rattle.shared_store.proofs.Calls.{seat_did, stand, went}
use Rattle.shared_store.proofs.Events.{own_push}
use Rattle.shared_store.proofs.look_port.PortSeatLookPort.push.Goals as goal

pub returns : goal.returns
returns g c =
    let m = g.Q.LookPort.meaning in
    let took = c.take-port.ensures in
    let ended = c.finish.ensures.place in
    let called = subst (λ b. Called m c.take-port.result (Push b.spans c.args.moment) (push_reply c.push-answer.result) c.push-answer.new.self) (sym c.of.ensures) c.push-answer.ensures in
    subst (λ b. Called (seat_meaning m) c.args.self.now (Push b.spans c.args.moment) (push_reply c.push-answer.result) (stand c.finish.new.place.table_id c.finish.new.place.me.0)) c.of.ensures
    (seat_did m _ _ c.take-port.result _ c.self.inside.place.me.0 c.take-port.new.place.me.0 c.finish.new.place.me.0 c.args.self.now
    c.self.inside.place.table_id c.finish.new.place.table_id
    (went m _ _ _ c.take-port.result _ c.self.inside.place.me.0 c.take-port.new.place.me.0 c.finish.new.place.me.0
    c.self.invariant.start (ap (λ me. me.0) took.place.2) took.found called (own_push _ _ _ _) ended.3 c.finish.ensures.appended)
    (sym c.self.view_is) (ended.0 ∙ took.place.0))
