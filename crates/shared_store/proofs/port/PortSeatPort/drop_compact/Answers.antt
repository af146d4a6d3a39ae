use Rattle.std.proofs.Common.{◌∙◌, ap, sym, subst, List}
use Rattle.std.specs.List.{Contains}
use Rattle.store_model.specs.Holds.{Hold}
use Rattle.store_state.specs.Given.{compact_of, compact_parts}
use Rattle.shared_store.proofs.Calls.{seat_did, went}
use Rattle.shared_store.proofs.Events.{own_drop_compact}
use Rattle.shared_store.proofs.Files.{its, its_open}
use Rattle.shared_store.proofs.port.PortSeatPort.drop_compact.Goals as goal

pub drop_compact-requires : goal.drop_compact-requires
drop_compact-requires g c = its_open g.Q.LookPort.meaning _ c.take-port.result c.args.self.now c.self.inside.place.table_id c.self.inside.place.me.0 (sym c.self.view_is) c.self.invariant.start
    (c.take-port.ensures.found _ c.self.invariant.start) (compact_of c.args.job) c.requires

pub finish-requires-clause-mine : goal.finish-requires-clause-mine
finish-requires-clause-mine g c =
    own_drop_compact _ (compact_parts c.args.job) _
    (subst (λ (hs : List Hold). Contains hs (compact_of c.args.job)) (ap (λ me. me.0.seen.holds) (sym c.take-port.ensures.place.2))
    (its g.Q.LookPort.meaning _ c.take-port.result c.args.self.now c.self.inside.place.table_id c.self.inside.place.me.0 (sym c.self.view_is) c.self.invariant.start
    (c.take-port.ensures.found _ c.self.invariant.start) (compact_of c.args.job) c.requires))

pub returns : goal.returns
returns g c =
    seat_did g.Q.LookPort.meaning _ _ c.take-port.result _ c.self.inside.place.me.0 c.take-port.new.place.me.0 c.finish.new.place.me.0 c.args.self.now
    c.self.inside.place.table_id c.finish.new.place.table_id
    (went g.Q.LookPort.meaning _ _ _ c.take-port.result _ c.self.inside.place.me.0 c.take-port.new.place.me.0 c.finish.new.place.me.0
    c.self.invariant.start (ap (λ me. me.0) c.take-port.ensures.place.2) c.take-port.ensures.found c.drop_compact.ensures (own_drop_compact _ (compact_parts c.args.job) _ (its g.Q.LookPort.meaning _ c.take-port.result c.args.self.now c.self.inside.place.table_id c.self.inside.place.me.0 (sym c.self.view_is) c.self.invariant.start
    (c.take-port.ensures.found _ c.self.invariant.start) (compact_of c.args.job) c.requires)) c.finish.ensures.place.3
    c.finish.ensures.appended)
    (sym c.self.view_is) (c.finish.ensures.place.0 ∙ c.take-port.ensures.place.0)
