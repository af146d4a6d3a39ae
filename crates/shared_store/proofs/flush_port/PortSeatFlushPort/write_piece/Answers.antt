use Rattle.std.proofs.Common.{◌∙◌, ap, sym, subst, List}
use Rattle.std.specs.List.{Contains}
use Rattle.store_model.specs.Holds.{Hold}
use Rattle.shared_store.proofs.Calls.{seat_did, went}
use Rattle.shared_store.proofs.Events.{own_piece}
use Rattle.shared_store.proofs.Files.{broke, fault_fails, its, its_open, job_hold, job_open, whole_now, whole_then, writing}
use Rattle.shared_store.proofs.flush_port.PortSeatFlushPort.write_piece.Goals as goal

pub write_piece-answer-requires-clause-open : goal.write_piece-answer-requires-clause-open
write_piece-answer-requires-clause-open g c = job_open c.args.out.now _ _ (its_open g.Q.LookPort.meaning _ c.take-port.result c.args.self.now c.self.inside.place.table_id c.self.inside.place.me.0 (sym c.self.view_is) c.self.invariant.start
    (c.take-port.ensures.found _ c.self.invariant.start)) c.requires.open

pub write_piece-answer-requires-clause-whole : goal.write_piece-answer-requires-clause-whole
write_piece-answer-requires-clause-whole g c = whole_then g.Q.LookPort.meaning _ c.take-port.result c.args.self.now c.self.inside.place.table_id c.self.inside.place.me.0 (sym c.self.view_is) c.self.invariant.start
    (c.take-port.ensures.found _ c.self.invariant.start) c.args.out.now c.requires.open c.requires.whole

pub finish-requires-clause-mine : goal.finish-requires-clause-mine
finish-requires-clause-mine g c =
    let o = job_hold c.args.out.now _ c.requires.open in
    own_piece _ _ _ _ _ o.0
    (subst (λ (hs : List Hold). Contains hs o.0) (ap (λ me. me.0.seen.holds) (sym c.take-port.ensures.place.2)) (its g.Q.LookPort.meaning _ c.take-port.result c.args.self.now c.self.inside.place.table_id c.self.inside.place.me.0 (sym c.self.view_is) c.self.invariant.start
    (c.take-port.ensures.found _ c.self.invariant.start) o.0 o.1)) o.2

pub returns-clause-called : goal.returns-clause-called
returns-clause-called g c =
    let o = job_hold c.args.out.now _ c.requires.open in
    seat_did g.Q.LookPort.meaning _ _ c.take-port.result _ c.self.inside.place.me.0 c.take-port.new.place.me.0 c.finish.new.place.me.0 c.args.self.now
    c.self.inside.place.table_id c.finish.new.place.table_id
    (went g.Q.LookPort.meaning _ _ _ c.take-port.result _ c.self.inside.place.me.0 c.take-port.new.place.me.0 c.finish.new.place.me.0
    c.self.invariant.start (ap (λ me. me.0) c.take-port.ensures.place.2) c.take-port.ensures.found c.write_piece-answer.ensures.called (own_piece _ _ _ _ _ o.0 (its g.Q.LookPort.meaning _ c.take-port.result c.args.self.now c.self.inside.place.table_id c.self.inside.place.me.0 (sym c.self.view_is) c.self.invariant.start
    (c.take-port.ensures.found _ c.self.invariant.start) o.0 o.1) o.2) c.finish.ensures.place.3
    c.finish.ensures.appended)
    (sym c.self.view_is) (c.finish.ensures.place.0 ∙ c.take-port.ensures.place.0)

pub returns-clause-whole : goal.returns-clause-whole
returns-clause-whole g c =
    let o = job_hold c.args.out.now _ c.requires.open in
    whole_now g.Q.LookPort.meaning c.take-port.result _ c.args.self.now c.self.inside.place.table_id c.self.inside.place.me.0 c.take-port.new.place.me.0 c.finish.new.place.me.0 _ _ _
    c.write_piece-answer.result c.args.out.now c.write_piece-answer.new.out (sym c.self.view_is)
    (went g.Q.LookPort.meaning _ _ _ c.take-port.result _ c.self.inside.place.me.0 c.take-port.new.place.me.0 c.finish.new.place.me.0
    c.self.invariant.start (ap (λ me. me.0) c.take-port.ensures.place.2) c.take-port.ensures.found c.write_piece-answer.ensures.called (own_piece _ _ _ _ _ o.0 (its g.Q.LookPort.meaning _ c.take-port.result c.args.self.now c.self.inside.place.table_id c.self.inside.place.me.0 (sym c.self.view_is) c.self.invariant.start
    (c.take-port.ensures.found _ c.self.invariant.start) o.0 o.1) o.2) c.finish.ensures.place.3
    c.finish.ensures.appended)
    c.requires.open c.write_piece-answer.ensures.same.1 c.write_piece-answer.ensures.whole

pub returns-clause-broken : goal.returns-clause-broken
returns-clause-broken g c = λ is none.
    let o = job_hold c.args.out.now _ c.requires.open in
    broke g.Q.LookPort.meaning _ _ c.take-port.result _ c.self.inside.place.me.0 c.take-port.new.place.me.0 c.finish.new.place.me.0
    (went g.Q.LookPort.meaning _ _ _ c.take-port.result _ c.self.inside.place.me.0 c.take-port.new.place.me.0 c.finish.new.place.me.0
    c.self.invariant.start (ap (λ me. me.0) c.take-port.ensures.place.2) c.take-port.ensures.found c.write_piece-answer.ensures.called (own_piece _ _ _ _ _ o.0 (its g.Q.LookPort.meaning _ c.take-port.result c.args.self.now c.self.inside.place.table_id c.self.inside.place.me.0 (sym c.self.view_is) c.self.invariant.start
    (c.take-port.ensures.found _ c.self.invariant.start) o.0 o.1) o.2) c.finish.ensures.place.3
    c.finish.ensures.appended)
    (fault_fails c.args.out.now.number c.args.out.now.file c.args.bytes.now c.write_piece-answer.result is) none

pub returns-clause-refused : goal.returns-clause-refused
returns-clause-refused g c = λ no. c.write_piece-answer.ensures.refused (λ writes. no (writing g.Q.LookPort.meaning _ c.take-port.result c.args.self.now c.self.inside.place.table_id c.self.inside.place.me.0 (sym c.self.view_is) c.self.invariant.start
    (c.take-port.ensures.found _ c.self.invariant.start) writes))
