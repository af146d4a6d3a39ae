use Rattle.std.proofs.Common.{◌∙◌, ap, sym}
use Rattle.shared_store.proofs.Calls.{seat_did, went}
use Rattle.shared_store.proofs.Events.{own_reclaim}
use Rattle.shared_store.proofs.port.PortSeatPort.reclaim.Goals as goal

pub returns : goal.returns
returns g c =
    seat_did g.Q.LookPort.meaning _ _ c.take-port.result _ c.self.inside.place.me.0 c.take-port.new.place.me.0 c.finish.new.place.me.0 c.args.self.now
    c.self.inside.place.table_id c.finish.new.place.table_id
    (went g.Q.LookPort.meaning _ _ _ c.take-port.result _ c.self.inside.place.me.0 c.take-port.new.place.me.0 c.finish.new.place.me.0
    c.self.invariant.start (ap (λ me. me.0) c.take-port.ensures.place.2) c.take-port.ensures.found c.reclaim-answer.ensures (own_reclaim _ _) c.finish.ensures.place.3
    c.finish.ensures.appended)
    (sym c.self.view_is) (c.finish.ensures.place.0 ∙ c.take-port.ensures.place.0)
