use Rattle.std.proofs.Common.{◌∙◌, ap, sym, subst, List}
use Rattle.std.specs.List.{Contains}
use Rattle.store_model.specs.Holds.{Hold}
use Rattle.store_state.specs.Given.{look_of, look_parts}
use Rattle.shared_store.proofs.Calls.{lists_nothing, seat_did, went}
use Rattle.shared_store.proofs.Events.{own_done}
use Rattle.shared_store.proofs.look_port.PortSeatLookPort.done.Goals as goal

pub done-requires : goal.done-requires
done-requires g c =
    (c.take-port.ensures.found _ c.self.invariant.start).are_open (look_of c.args.look)
    (subst (λ (hs : List Hold). Contains hs (look_of c.args.look)) (c.requires.1 ∙ ap (λ s. s.known.seen.holds) (sym c.self.view_is)) c.requires.2)

pub finish-requires-clause-mine : goal.finish-requires-clause-mine
finish-requires-clause-mine g c =
    own_done _ (look_parts c.args.look) _
    (subst (λ (hs : List Hold). Contains hs (look_of c.args.look))
    (c.requires.1 ∙ ap (λ s. s.known.seen.holds) (sym c.self.view_is) ∙ ap (λ me. me.0.seen.holds) (sym c.take-port.ensures.place.2)) c.requires.2)

pub returns-clause-called : goal.returns-clause-called
returns-clause-called g c =
    let took = c.take-port.ensures in
    let ended = c.finish.ensures.place in
    seat_did g.Q.LookPort.meaning _ _ c.take-port.result _ c.self.inside.place.me.0 c.take-port.new.place.me.0 c.finish.new.place.me.0 c.args.self.now
    c.self.inside.place.table_id c.finish.new.place.table_id
    (went g.Q.LookPort.meaning _ _ _ c.take-port.result _ c.self.inside.place.me.0 c.take-port.new.place.me.0 c.finish.new.place.me.0
    c.self.invariant.start (ap (λ me. me.0) took.place.2) took.found c.done.ensures.called
    (own_done _ (look_parts c.args.look) _
    (subst (λ (hs : List Hold). Contains hs (look_of c.args.look)) (c.requires.1 ∙ ap (λ s. s.known.seen.holds) (sym c.self.view_is)) c.requires.2))
    ended.3 c.finish.ensures.appended)
    (sym c.self.view_is) (ended.0 ∙ took.place.0)

pub returns-clause-left : goal.returns-clause-left
returns-clause-left g c = lists_nothing g.Q.LookPort.meaning _ _
