use Rattle.std.proofs.Common.{◌≡◌, ◌∙◌, ap, sym, subst, List, ℕ}
use Rattle.std.specs.Prelude.{OnOk}
use Rattle.std.specs.List.{Contains}
use Rattle.store_model.specs.Holds.{Hold}
use Rattle.store_state.specs.Written.{page_of}
use Rattle.shared_store.proofs.Calls.{lists_nothing, seat_did, went}
use Rattle.shared_store.proofs.Events.{own_page}
use Rattle.shared_store.proofs.Files.{its, its_open, pin_hold, pin_open, same_bytes, told_back}
use Rattle.shared_store.proofs.flush_port.PortSeatFlushPort.read_page.Goals as goal

pub read_page-answer-requires : goal.read_page-answer-requires
read_page-answer-requires g c = record {
  «open» = pin_open c.args.pin.now c.args.block _ _ (its_open g.Q.LookPort.meaning _ c.take-port.result c.args.self.now c.self.inside.place.table_id c.self.inside.place.me.0 (sym c.self.view_is) c.self.invariant.start
      (c.take-port.ensures.found _ c.self.invariant.start)) c.requires.open;
}

pub finish-requires-clause-mine : goal.finish-requires-clause-mine
finish-requires-clause-mine g c =
    let o = pin_hold c.args.pin.now c.args.block _ c.requires.open in
    own_page _ _ _ _ _ o.0
    (subst (λ (hs : List Hold). Contains hs o.0) (ap (λ me. me.0.seen.holds) (sym c.take-port.ensures.place.2)) (its g.Q.LookPort.meaning _ c.take-port.result c.args.self.now c.self.inside.place.table_id c.self.inside.place.me.0 (sym c.self.view_is) c.self.invariant.start
    (c.take-port.ensures.found _ c.self.invariant.start) o.0 o.1)) o.2

pub returns-clause-called : goal.returns-clause-called
returns-clause-called g c =
    let o = pin_hold c.args.pin.now c.args.block _ c.requires.open in
    seat_did g.Q.LookPort.meaning _ _ c.take-port.result _ c.self.inside.place.me.0 c.take-port.new.place.me.0 c.finish.new.place.me.0 c.args.self.now
    c.self.inside.place.table_id c.finish.new.place.table_id
    (went g.Q.LookPort.meaning _ _ _ c.take-port.result _ c.self.inside.place.me.0 c.take-port.new.place.me.0 c.finish.new.place.me.0
    c.self.invariant.start (ap (λ me. me.0) c.take-port.ensures.place.2) c.take-port.ensures.found c.read_page-answer.ensures.called (own_page _ _ _ _ _ o.0 (its g.Q.LookPort.meaning _ c.take-port.result c.args.self.now c.self.inside.place.table_id c.self.inside.place.me.0 (sym c.self.view_is) c.self.invariant.start
    (c.take-port.ensures.found _ c.self.invariant.start) o.0 o.1) o.2) c.finish.ensures.place.3
    c.finish.ensures.appended)
    (sym c.self.view_is) (c.finish.ensures.place.0 ∙ c.take-port.ensures.place.0)

pub returns-clause-bytes : goal.returns-clause-bytes
returns-clause-bytes g c = λ told.
    let o = pin_hold c.args.pin.now c.args.block _ c.requires.open in
    let then = told_back g.Q.LookPort.meaning _ c.take-port.result c.args.self.now c.self.inside.place.table_id c.self.inside.place.me.0 (sym c.self.view_is) c.self.invariant.start
    (c.take-port.ensures.found _ c.self.invariant.start) told in
    subst (λ (bytes : List ℕ). OnOk c.read_page-answer.result (c.read_page-answer.new.buf ≡ page_of bytes c.args.page))
    (sym (same_bytes g.Q.LookPort.meaning _ c.take-port.result c.args.self.now c.self.inside.place.table_id c.self.inside.place.me.0 (sym c.self.view_is) c.self.invariant.start
    (c.take-port.ensures.found _ c.self.invariant.start) then o.0 o.1 c.args.block o.2))
    (c.read_page-answer.ensures.bytes then)

pub returns-clause-left : goal.returns-clause-left
returns-clause-left g c = lists_nothing g.Q.LookPort.meaning _ _
