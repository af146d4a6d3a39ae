use Rattle.std.proofs.Common.{◌∙◌, ap, sym}
use Rattle.shared_store.proofs.Calls.{seat_did, went}
use Rattle.shared_store.proofs.Events.{own_begin_compact}
use Rattle.shared_store.specs.Seats.{seat_meaning}
use Rattle.shared_store.proofs.Files.{joins_some, seat_blocks, seat_joins_whole}
use Rattle.shared_store.proofs.port.PortSeatPort.begin_compact.Goals as goal

pub returns-clause-called : goal.returns-clause-called
returns-clause-called g c =
    seat_did g.Q.LookPort.meaning _ _ c.take-port.result _ c.self.inside.place.me.0 c.take-port.new.place.me.0 c.finish.new.place.me.0 c.args.self.now
    c.self.inside.place.table_id c.finish.new.place.table_id
    (went g.Q.LookPort.meaning _ _ _ c.take-port.result _ c.self.inside.place.me.0 c.take-port.new.place.me.0 c.finish.new.place.me.0
    c.self.invariant.start (ap (λ me. me.0) c.take-port.ensures.place.2) c.take-port.ensures.found c.begin_compact-answer.ensures.called (own_begin_compact _ _) c.finish.ensures.place.3
    c.finish.ensures.appended)
    (sym c.self.view_is) (c.finish.ensures.place.0 ∙ c.take-port.ensures.place.0)

pub returns-clause-joins : goal.returns-clause-joins
returns-clause-joins g c = λ held is.
    let found = c.take-port.ensures.found _ c.self.invariant.start in
    joins_some g.Q.LookPort.meaning c.take-port.result c.begin_compact-answer.result (c.begin_compact-answer.ensures.joins found.held found.holds)

pub returns-clause-blocks : goal.returns-clause-blocks
returns-clause-blocks g c =
    seat_blocks g.Q.LookPort.meaning c.begin_compact-answer.result c.take-port.result _ c.self.inside.place.me.0 c.take-port.new.place.me.0 c.finish.new.place.me.0
    (went g.Q.LookPort.meaning _ _ _ c.take-port.result _ c.self.inside.place.me.0 c.take-port.new.place.me.0 c.finish.new.place.me.0
    c.self.invariant.start (ap (λ me. me.0) c.take-port.ensures.place.2) c.take-port.ensures.found c.begin_compact-answer.ensures.called (own_begin_compact _ _) c.finish.ensures.place.3
    c.finish.ensures.appended)
    c.begin_compact-answer.ensures.blocks

pub returns-clause-whole : goal.returns-clause-whole
returns-clause-whole g c =
    seat_joins_whole g.Q.LookPort.meaning c.begin_compact-answer.result c.take-port.result _ c.self.inside.place.me.0 c.take-port.new.place.me.0 c.finish.new.place.me.0
    (went g.Q.LookPort.meaning _ _ _ c.take-port.result _ c.self.inside.place.me.0 c.take-port.new.place.me.0 c.finish.new.place.me.0
    c.self.invariant.start (ap (λ me. me.0) c.take-port.ensures.place.2) c.take-port.ensures.found c.begin_compact-answer.ensures.called (own_begin_compact _ _) c.finish.ensures.place.3
    c.finish.ensures.appended)
    c.begin_compact-answer.ensures.whole ((seat_meaning g.Q.LookPort.meaning).holds c.args.self.now)
