use Rattle.std.proofs.Common.{◌∙◌, ap, sym, subst, List}
use Rattle.std.specs.List.{Contains}
use Rattle.store_model.specs.Event.Event.{CommitCompact}
use Rattle.store_model.specs.Holds.{Hold}
use Rattle.store_state.specs.Given.{compact_of, compact_parts}
use Rattle.store_state.specs.Meaning.{Called}
use Rattle.store_state.specs.Replies.{write_reply}
use Rattle.shared_store.specs.Seats.{seat_meaning}
use Rattle.shared_store.proofs.Calls.{seat_did, stand, went}
use Rattle.shared_store.proofs.Events.{own_commit_compact}
use Rattle.shared_store.proofs.Files.{joined_then, its, its_open}
use Rattle.shared_store.proofs.port.PortSeatPort.commit_compact.Goals as goal

pub commit_compact-answer-requires-clause-open : goal.commit_compact-answer-requires-clause-open
commit_compact-answer-requires-clause-open g c = its_open g.Q.LookPort.meaning _ c.take-port.result c.args.self.now c.self.inside.place.table_id c.self.inside.place.me.0 (sym c.self.view_is) c.self.invariant.start
    (c.take-port.ensures.found _ c.self.invariant.start) (compact_of c.args.job) c.requires.open

pub commit_compact-answer-requires-clause-block : goal.commit_compact-answer-requires-clause-block
commit_compact-answer-requires-clause-block g c = joined_then g.Q.LookPort.meaning _ c.take-port.result c.args.self.now c.self.inside.place.table_id c.self.inside.place.me.0 (sym c.self.view_is) c.self.invariant.start
    (c.take-port.ensures.found _ c.self.invariant.start) c.args.job c.args.info c.requires.open c.requires.block

pub finish-requires-clause-mine : goal.finish-requires-clause-mine
finish-requires-clause-mine g c =
    own_commit_compact _ (compact_parts c.args.job) _ _
    (subst (λ (hs : List Hold). Contains hs (compact_of c.args.job)) (ap (λ me. me.0.seen.holds) (sym c.take-port.ensures.place.2))
    (its g.Q.LookPort.meaning _ c.take-port.result c.args.self.now c.self.inside.place.table_id c.self.inside.place.me.0 (sym c.self.view_is) c.self.invariant.start
    (c.take-port.ensures.found _ c.self.invariant.start) (compact_of c.args.job) c.requires.open))

pub returns : goal.returns
returns g c =
    let m = g.Q.LookPort.meaning in
    let called = subst (λ n. Called m c.take-port.result (CommitCompact c.args.job.out.number n) (write_reply c.commit_compact-answer.result) c.commit_compact-answer.new.self) (sym c.rows_in.ensures) c.commit_compact-answer.ensures in
    subst (λ n. Called (seat_meaning m) c.args.self.now (CommitCompact c.args.job.out.number n) (write_reply c.commit_compact-answer.result) (stand c.finish.new.place.table_id c.finish.new.place.me.0)) c.rows_in.ensures
    (seat_did g.Q.LookPort.meaning _ _ c.take-port.result _ c.self.inside.place.me.0 c.take-port.new.place.me.0 c.finish.new.place.me.0 c.args.self.now
    c.self.inside.place.table_id c.finish.new.place.table_id
    (went g.Q.LookPort.meaning _ _ _ c.take-port.result _ c.self.inside.place.me.0 c.take-port.new.place.me.0 c.finish.new.place.me.0
    c.self.invariant.start (ap (λ me. me.0) c.take-port.ensures.place.2) c.take-port.ensures.found called (own_commit_compact _ (compact_parts c.args.job) _ _ (its g.Q.LookPort.meaning _ c.take-port.result c.args.self.now c.self.inside.place.table_id c.self.inside.place.me.0 (sym c.self.view_is) c.self.invariant.start
    (c.take-port.ensures.found _ c.self.invariant.start) (compact_of c.args.job) c.requires.open)) c.finish.ensures.place.3
    c.finish.ensures.appended)
    (sym c.self.view_is) (c.finish.ensures.place.0 ∙ c.take-port.ensures.place.0))
