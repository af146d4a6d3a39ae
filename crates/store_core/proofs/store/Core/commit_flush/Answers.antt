use Rattle.std.proofs.Common.{◌∙◌, Some, refl}
use Rattle.disk_model.proofs.CallRuns.{passes_once, plain_calls}
use Rattle.block_list.specs.Commit.{slot_of}
use Rattle.block_list.proofs.ReadyLemmas.{can_lay}
use Rattle.store_core.proofs.CommitAnswers.{did_stopped, firsts, flush_here, rules_known, commits, next_generation, other_named, loose_fits, infos_spent, unsure_spent, unsure_after_spent, spent_is, has_stopped_spent, took_over}
use Rattle.store_core.proofs.CommitRuns.{ran_by, synced_by}
use Rattle.store_core.proofs.CommitEvents.{flush_commits, no_commit, did_sync_fail}
use Rattle.store_core.proofs.FlushCommits.{did_flush_committed, did_flush_fail}
use Rattle.store_core.proofs.States.{none_of}
use Rattle.store_core.proofs.store.Core.commit_flush.Goals as goal

pub returns-in-Some : goal.returns-in-Some
returns-in-Some g c = no_commit g.D.Device g.met.D.Device.only_now c.args.self.now _ (flush_commits c.args.job.out.number c.args.info.rows) c.in-Some.faults c.in-Some.is

pub returns-in_default-sync : goal.returns-in_default-sync
returns-in_default-sync g c =
    let core = c.args.self.now in
    let e = c.sync.ensures in
    did_stopped g.D.Device core c.stop_writing.new.self _ _ c.stop_writing.ensures
    (did_sync_fail g.D.Device g.met.D.Device.only_now core c.sync.new.self _ (flush_commits c.args.job.out.number c.args.info.rows) (none_of core.state.read_only c.in_default.not-Some)
    _ (plain_calls g.D.Device core.disk c.sync.new.self _ 0 (passes_once g.D.Device _ _ e.time) c.in_default-sync.ensures.counted) e.same_bytes e.crash e.time (g.D.Device.faults c.sync.new.self) refl refl)

pub next_list-list-requires-clause-rules : goal.next_list-list-requires-clause-rules
next_list-list-requires-clause-rules g c =
    let core = c.args.self.now in
    let known = c.requires.job in
    rules_known g.D.Device core known.0 known.1.state c.args.job.out.number c.args.job.out.file c.args.job.rows known.2 c.args.info (none_of core.state.read_only c.in_default.not-Some) c.requires.size c.requires.names c.requires.block
    c.rows_in.result c.rows_in.ensures

pub take_over-requires-clause-other : goal.take_over-requires-clause-other
take_over-requires-clause-other g c =
    let core = c.args.self.now in
    let known = c.requires.job in
    let s = c.next_list-list.ensures in
    let mine = flush_here core.state known.0 known.0 c.args.job.out.number c.args.job.out.file c.args.job.rows known.1.state.has known.2 known.1.state.has in
    other_named core.state c.next_list-list.new.self mine.mine c.rows_in.result c.next_list-list.result.0 mine.known (spent_is core.state c.next_list-list.new.self mine.mine mine.known s.same s.flush) s.list

pub take_over-requires-clause-loose : goal.take_over-requires-clause-loose
take_over-requires-clause-loose g c =
    let core = c.args.self.now in
    let known = c.requires.job in
    let s = c.next_list-list.ensures in
    let mine = flush_here core.state known.0 known.0 c.args.job.out.number c.args.job.out.file c.args.job.rows known.1.state.has known.2 known.1.state.has in
    loose_fits core.state c.next_list-list.new.self mine.mine c.rows_in.result c.next_list-list.result.0 known.0 known.1.state.has mine.known (spent_is core.state c.next_list-list.new.self mine.mine mine.known s.same s.flush) s.list

-- ---- where the list was made

pub returns-in-Ok-commit : goal.returns-in-Ok-commit
returns-in-Ok-commit g c =
    let d = g.D.Device in
    let core = c.args.self.now in
    let known = c.requires.job in
    let list = c.next_list-list.result.0 in
    let text = c.next_list-list.result.1 in
    let e = c.sync.ensures in
    let s = c.next_list-list.ensures in
    let w = c.commit.ensures in
    let o = c.in-Ok-commit.ensures in
    let t = c.take_over.ensures in
    let writes = none_of core.state.read_only c.in_default.not-Some in
    let mine = flush_here core.state known.0 known.0 c.args.job.out.number c.args.job.out.file c.args.job.rows known.1.state.has known.2 known.1.state.has in
    let follows = s.text.generation ∙ next_generation core.state mine.mine c.rows_in.result list mine.known s.list in
    did_flush_committed d g.met.D.Device.only_now core c.sync.new.self c.commit.new.disk c.args.job.out.number c.args.job.out.file c.args.info.rows (slot_of text) c.args.job.rows
    (firsts d core known.0 known.1.state c.args.job.out.number c.args.job.out.file c.args.job.rows known.2 c.args.info writes c.requires.size c.requires.names c.requires.block) c.args.info list
    (commits d core known.0 known.1.state c.args.job.out.number c.args.job.out.file c.args.job.rows known.2 c.args.info writes c.requires.size c.requires.names c.requires.block list c.rows_in.result c.rows_in.ensures s.list)
    _ (synced_by d core.disk c.sync.new.self _ _ refl c.in-Ok.ensures.counted e.same_bytes e.crash e.time c.in-Ok.ensures.lasting)
    (ran_by d c.sync.new.self c.commit.new.disk core.state.list list text _ follows s.text w.any_moment w.besides c.in-Ok-commit.ensures.counted)
    refl c.take_over.new.self (unsure_after_spent core.state c.next_list-list.new.self c.take_over.new.self mine.mine (spent_is core.state c.next_list-list.new.self mine.mine mine.known s.same s.flush) t.same.2)
    (λ m has.
    let here = flush_here core.state known.0 m c.args.job.out.number c.args.job.out.file c.args.job.rows known.1.state.has known.2 has in
    took_over core.state c.next_list-list.new.self c.take_over.new.self list c.args.info m here.mine has here.known (spent_is core.state c.next_list-list.new.self here.mine here.known s.same s.flush)
    t.list t.infos t.segment t.empty t.jobs t.loose t.room t.rows t.same)
    (g.met.D.Device.held_may_stay c.sync.new.self)
    (λ told ready. o.ready told (can_lay (d.held c.sync.new.self) (d.may_leave c.sync.new.self) (Some core.state.list) text ready follows) (Some core.state.list) list ready s.text)

pub returns : goal.returns
returns g c =
    let d = g.D.Device in
    let core = c.args.self.now in
    let known = c.requires.job in
    let list = c.next_list-list.result.0 in
    let text = c.next_list-list.result.1 in
    let e = c.sync.ensures in
    let s = c.next_list-list.ensures in
    let w = c.commit.ensures in
    let writes = none_of core.state.read_only c.in_default.not-Some in
    let mine = flush_here core.state known.0 known.0 c.args.job.out.number c.args.job.out.file c.args.job.rows known.1.state.has known.2 known.1.state.has in
    let follows = s.text.generation ∙ next_generation core.state mine.mine c.rows_in.result list mine.known s.list in
    let is = spent_is core.state c.next_list-list.new.self mine.mine mine.known s.same s.flush in
    did_stopped d core c.stop_writing-in-Err.new.self _ _ c.stop_writing-in-Err.ensures
    (did_flush_fail d g.met.D.Device.only_now core c.sync.new.self c.commit.new.disk c.args.job.out.number c.args.job.out.file c.args.info.rows (slot_of text) c.args.job.rows
    (firsts d core known.0 known.1.state c.args.job.out.number c.args.job.out.file c.args.job.rows known.2 c.args.info writes c.requires.size c.requires.names c.requires.block) c.args.info list
    (commits d core known.0 known.1.state c.args.job.out.number c.args.job.out.file c.args.job.rows known.2 c.args.info writes c.requires.size c.requires.names c.requires.block list c.rows_in.result c.rows_in.ensures s.list)
    _ (synced_by d core.disk c.sync.new.self _ _ refl c.in-Ok.ensures.counted e.same_bytes e.crash e.time c.in-Ok.ensures.lasting)
    (ran_by d c.sync.new.self c.commit.new.disk core.state.list list text _ follows s.text w.any_moment w.besides c.in-Err.ensures.counted)
    _
    (λ m has.
    let here = flush_here core.state known.0 m c.args.job.out.number c.args.job.out.file c.args.job.rows known.1.state.has known.2 has in
    has_stopped_spent core.state c.next_list-list.new.self here.mine (d.faults c.commit.new.disk) m here.known (spent_is core.state c.next_list-list.new.self here.mine here.known s.same s.flush) has)
    (infos_spent core.state c.next_list-list.new.self mine.mine is) refl (unsure_spent core.state c.next_list-list.new.self mine.mine is) refl)
