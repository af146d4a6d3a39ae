use Rattle.std.proofs.Common.{◌∙◌, ap, sym}
use Rattle.shared_store.specs.Seats.{seat_meaning}
use Rattle.shared_store.proofs.Calls.{keeps_none, lists_nothing, pins_none, seat_did, seat_shows, seat_whole, went}
use Rattle.shared_store.proofs.Events.{own_look}
use Rattle.shared_store.proofs.look_port.PortSeatLookPort.look.Goals as goal

pub returns-clause-called : goal.returns-clause-called
returns-clause-called g c =
    let took = c.take-port.ensures in
    let ended = c.finish.ensures.place in
    seat_did g.Q.LookPort.meaning _ _ c.take-port.result _ c.self.inside.place.me.0 c.take-port.new.place.me.0 c.finish.new.place.me.0 c.args.self.now
    c.self.inside.place.table_id c.finish.new.place.table_id
    (went g.Q.LookPort.meaning _ _ _ c.take-port.result _ c.self.inside.place.me.0 c.take-port.new.place.me.0 c.finish.new.place.me.0
    c.self.invariant.start (ap (λ me. me.0) took.place.2) took.found c.look-answer.ensures.called (own_look _ _) ended.3 c.finish.ensures.appended)
    (sym c.self.view_is) (ended.0 ∙ took.place.0)

pub returns-clause-pins : goal.returns-clause-pins
returns-clause-pins g c = pins_none c.look-answer.result

pub returns-clause-kept : goal.returns-clause-kept
returns-clause-kept g c = keeps_none _ c.look-answer.result

pub returns-clause-left : goal.returns-clause-left
returns-clause-left g c = lists_nothing g.Q.LookPort.meaning _ _

pub returns-clause-shows : goal.returns-clause-shows
returns-clause-shows g c =
    let took = c.take-port.ensures in
    seat_shows g.Q.LookPort.meaning c.look-answer.result c.take-port.result _ c.self.inside.place.me.0 c.take-port.new.place.me.0 c.finish.new.place.me.0
    (went g.Q.LookPort.meaning _ _ _ c.take-port.result _ c.self.inside.place.me.0 c.take-port.new.place.me.0 c.finish.new.place.me.0
    c.self.invariant.start (ap (λ me. me.0) took.place.2) took.found c.look-answer.ensures.called (own_look _ _) c.finish.ensures.place.3 c.finish.ensures.appended)
    c.look-answer.ensures.shows

pub returns-clause-whole : goal.returns-clause-whole
returns-clause-whole g c =
    let took = c.take-port.ensures in
    seat_whole g.Q.LookPort.meaning c.look-answer.result c.take-port.result _ c.self.inside.place.me.0 c.take-port.new.place.me.0 c.finish.new.place.me.0
    (went g.Q.LookPort.meaning _ _ _ c.take-port.result _ c.self.inside.place.me.0 c.take-port.new.place.me.0 c.finish.new.place.me.0
    c.self.invariant.start (ap (λ me. me.0) took.place.2) took.found c.look-answer.ensures.called (own_look _ _) c.finish.ensures.place.3 c.finish.ensures.appended)
    c.look-answer.ensures.whole ((seat_meaning g.Q.LookPort.meaning).holds c.args.self.now)
