use Rattle.std.proofs.Common.{◌∙◌, ap, sym}
use Rattle.shared_store.proofs.Calls.{seat_did, went}
use Rattle.shared_store.proofs.Events.{own_held}
use Rattle.shared_store.proofs.look_port.PortSeatLookPort.held.Goals as goal

pub returns : goal.returns
returns g c =
    let took = c.take-port.ensures in
    let ended = c.finish.ensures.place in
    seat_did g.Q.LookPort.meaning _ _ c.take-port.result _ c.self.inside.place.me.0 c.take-port.new.place.me.0 c.finish.new.place.me.0 c.args.self.now
    c.self.inside.place.table_id c.finish.new.place.table_id
    (went g.Q.LookPort.meaning _ _ _ c.take-port.result _ c.self.inside.place.me.0 c.take-port.new.place.me.0 c.finish.new.place.me.0
    c.self.invariant.start (ap (λ me. me.0) took.place.2) took.found c.held-rows.ensures (own_held _ _) ended.3 c.finish.ensures.appended)
    (sym c.self.view_is) (ended.0 ∙ took.place.0)
