use Rattle.std.proofs.Common.{◌≡◌, ◌∙◌, ℕ, List, ◌==◌, Option, Some, length, if◌then◌else◌, refl, sym, ap, subst, arith}
use Rattle.std.specs.Prelude.{◌||◌}
use Rattle.disk_model.proofs.CallRuns.{passes_once, plain_calls}
use Rattle.block_list.specs.Commit.{slot_of}
use Rattle.block_list.proofs.ReadyLemmas.{can_lay}
use Rattle.store_state.specs.Given.{info_files}
use Rattle.store_model.specs.State.{without_pin}
use Rattle.store_files.specs.Pins.{is_taken, files_at}
use Rattle.store_core.specs.declared.state.CoreState.{CoreState}
use Rattle.store_core.proofs.CommitAnswers.{did_stopped}
use Rattle.store_core.proofs.CommitRuns.{ran_by, synced_by}
use Rattle.store_core.proofs.CommitEvents.{compact_commits, no_commit, did_sync_fail}
use Rattle.store_core.proofs.CompactAnswers.{rules_joined, joins, pins_ended, taken_inside, spent_is, infos_spent, unsure_spent, unsure_after, next_generation, pin_back, files_back, has_stopped_spent, others_fit, loose_fits, took_joined, pins_after}
use Rattle.store_core.proofs.CompactCommits.{did_compact_committed, did_compact_fail}
use Rattle.store_core.proofs.Looking.{ShowsPins}
use Rattle.store_core.proofs.OpenCompactions.{compaction_here}
use Rattle.store_core.proofs.States.{none_of}
use Rattle.store_core.proofs.store.Core.commit_compact.Goals as goal

pub returns-in-Some : goal.returns-in-Some
returns-in-Some g c = no_commit g.D.Device g.met.D.Device.only_now c.args.self.now _ (compact_commits c.args.job.out.number c.args.info.rows) c.in-Some.faults c.in-Some.is

pub returns-in_default-sync : goal.returns-in_default-sync
returns-in_default-sync g c =
    let core = c.args.self.now in
    let e = c.sync.ensures in
    did_stopped g.D.Device core c.stop_writing.new.self _ _ c.stop_writing.ensures
    (did_sync_fail g.D.Device g.met.D.Device.only_now core c.sync.new.self _ (compact_commits c.args.job.out.number c.args.info.rows) (none_of core.state.read_only c.in_default.not-Some)
    _ (plain_calls g.D.Device core.disk c.sync.new.self _ 0 (passes_once g.D.Device _ _ e.time) c.in_default-sync.ensures.counted) e.same_bytes e.crash e.time (g.D.Device.faults c.sync.new.self) refl refl)

pub joined_list-list-requires-clause-rules : goal.joined_list-list-requires-clause-rules
joined_list-list-requires-clause-rules g c =
    let core = c.args.self.now in
    let known = c.requires.job in
    let job = c.args.job in
    let mine = compaction_here core.state known.0 known.0 job.out.number job.out.file job.level job.pin.number (info_files job.pin.blocks) known.1.state.has known.2 known.1.state.has in
    rules_joined g.D.Device core known.0 known.1.state job.out.number job.out.file job.level job.pin.number job.pin.blocks known.2 c.args.info (none_of core.state.read_only c.in_default.not-Some) c.requires.size c.requires.names c.requires.block
    c.as_slice.result.now c.rows_in.result (c.as_slice.ensures ∙ c.take_files-joined.ensures.result ∙ mine.named) c.rows_in.ensures

-- ---- where the list was made

pub take_over_joined-requires-clause-other : goal.take_over_joined-requires-clause-other
take_over_joined-requires-clause-other g c =
    let core = c.args.self.now in
    let known = c.requires.job in
    let job = c.args.job in
    let mine = compaction_here core.state known.0 known.0 job.out.number job.out.file job.level job.pin.number (info_files job.pin.blocks) known.1.state.has known.2 known.1.state.has in
    let s = c.joined_list-list.ensures in
    others_fit core.state c.joined_list-list.new.self mine.mine c.take_files-joined.new.pins c.as_slice.result.now c.rows_in.result c.joined_list-list.result.0 mine.known
    (spent_is core.state c.joined_list-list.new.self mine.mine c.take_files-joined.new.pins mine.known s.same s.compaction) s.list

pub take_over_joined-requires-clause-loose : goal.take_over_joined-requires-clause-loose
take_over_joined-requires-clause-loose g c =
    let core = c.args.self.now in
    let known = c.requires.job in
    let job = c.args.job in
    let mine = compaction_here core.state known.0 known.0 job.out.number job.out.file job.level job.pin.number (info_files job.pin.blocks) known.1.state.has known.2 known.1.state.has in
    let s = c.joined_list-list.ensures in
    loose_fits core.state c.joined_list-list.new.self mine.mine c.take_files-joined.new.pins c.as_slice.result.now c.rows_in.result c.joined_list-list.result.0 known.0 known.1.state.has mine.known
    (spent_is core.state c.joined_list-list.new.self mine.mine c.take_files-joined.new.pins mine.known s.same s.compaction) s.list

pub give_back-requires : goal.give_back-requires
give_back-requires g c =
    let core = c.args.self.now in
    let known = c.requires.job in
    let job = c.args.job in
    let mine = compaction_here core.state known.0 known.0 job.out.number job.out.file job.level job.pin.number (info_files job.pin.blocks) known.1.state.has known.2 known.1.state.has in
    let s = c.joined_list-list.ensures in
    let same : length c.joined_list-list.new.self.pins.items ≡ length c.take_files-joined.new.pins.items = ap (λ (x : CoreState). length x.pins.items) s.same in
    let len = c.take_files-joined.ensures.len in
    let below = taken_inside core.state.pins.items job.pin.number mine.taken in
    omega (arith, same, len, below)

pub returns-in-Ok-commit : goal.returns-in-Ok-commit
returns-in-Ok-commit g c =
    let d = g.D.Device in
    let core = c.args.self.now in
    let known = c.requires.job in
    let job = c.args.job in
    let list = c.joined_list-list.result.0 in
    let text = c.joined_list-list.result.1 in
    let e = c.sync.ensures in
    let f = c.take_files-joined.ensures in
    let s = c.joined_list-list.ensures in
    let w = c.commit.ensures in
    let o = c.in-Ok-commit.ensures in
    let t = c.take_over_joined.ensures in
    let writes = none_of core.state.read_only c.in_default.not-Some in
    let mine = compaction_here core.state known.0 known.0 job.out.number job.out.file job.level job.pin.number (info_files job.pin.blocks) known.1.state.has known.2 known.1.state.has in
    let pins = c.take_files-joined.new.pins in
    let is = spent_is core.state c.joined_list-list.new.self mine.mine pins mine.known s.same s.compaction in
    let files = c.as_slice.ensures ∙ f.result ∙ mine.named in
    let follows = s.text.generation ∙ next_generation core.state mine.mine c.as_slice.result.now c.rows_in.result list mine.known s.list in
    did_compact_committed d g.met.D.Device.only_now core c.sync.new.self c.commit.new.disk job.out.number job.out.file job.level job.pin.number (slot_of text) job.pin.blocks c.args.info list
    (joins d core known.0 known.1.state job.out.number job.out.file job.level job.pin.number job.pin.blocks known.2 c.args.info writes c.requires.size c.requires.names c.requires.block list c.as_slice.result.now c.rows_in.result files c.rows_in.ensures s.list)
    _ (synced_by d core.disk c.sync.new.self _ _ refl c.in-Ok.ensures.counted e.same_bytes e.crash e.time c.in-Ok.ensures.lasting)
    (ran_by d c.sync.new.self c.commit.new.disk core.state.list list text _ follows s.text w.any_moment w.besides c.in-Ok-commit.ensures.counted)
    refl c.take_over_joined.new.self (unsure_after core.state c.joined_list-list.new.self c.take_over_joined.new.self mine.mine pins is t.same.4)
    (took_joined core.state c.joined_list-list.new.self c.take_over_joined.new.self list c.args.info c.as_slice-in-Ok-commit.result.now (info_files job.pin.blocks) mine.mine pins mine.known is (c.as_slice-in-Ok-commit.ensures ∙ f.result ∙ mine.named)
    t.list t.infos t.jobs t.loose t.room t.same)
    (λ m has.
    subst (λ (items : List (Option (List ℕ))). ShowsPins (without_pin (compaction_here core.state known.0 m job.out.number job.out.file job.level job.pin.number (info_files job.pin.blocks) known.1.state.has known.2 has).mine.pin m.state.pins) items) (sym (pins_after core.state c.joined_list-list.new.self c.take_over_joined.new.self mine.mine pins is t.same.2))
    (pins_ended d core known.0 known.1.state job.out.number job.out.file job.level job.pin.number job.pin.blocks known.2 c.args.info writes c.requires.size c.requires.names c.requires.block pins.items f.taken f.files m has))
    (g.met.D.Device.held_may_stay c.sync.new.self)
    (λ told ready. o.ready told (can_lay (d.held c.sync.new.self) (d.may_leave c.sync.new.self) (Some core.state.list) text ready follows) (Some core.state.list) list ready s.text)

pub returns : goal.returns
returns g c =
    let d = g.D.Device in
    let core = c.args.self.now in
    let known = c.requires.job in
    let job = c.args.job in
    let list = c.joined_list-list.result.0 in
    let text = c.joined_list-list.result.1 in
    let e = c.sync.ensures in
    let f = c.take_files-joined.ensures in
    let s = c.joined_list-list.ensures in
    let b = c.give_back.ensures in
    let w = c.commit.ensures in
    let writes = none_of core.state.read_only c.in_default.not-Some in
    let mine = compaction_here core.state known.0 known.0 job.out.number job.out.file job.level job.pin.number (info_files job.pin.blocks) known.1.state.has known.2 known.1.state.has in
    let pins = c.take_files-joined.new.pins in
    let is = spent_is core.state c.joined_list-list.new.self mine.mine pins mine.known s.same s.compaction in
    let between = ap (λ (x : CoreState). x.pins.items) is in
    let follows = s.text.generation ∙ next_generation core.state mine.mine c.as_slice.result.now c.rows_in.result list mine.known s.list in
    did_stopped d core c.stop_writing-in-Err.new.self _ _ c.stop_writing-in-Err.ensures
    (did_compact_fail d g.met.D.Device.only_now core c.sync.new.self c.commit.new.disk job.out.number job.out.file job.level job.pin.number (slot_of text) job.pin.blocks c.args.info list
    (joins d core known.0 known.1.state job.out.number job.out.file job.level job.pin.number job.pin.blocks known.2 c.args.info writes c.requires.size c.requires.names c.requires.block list c.as_slice.result.now c.rows_in.result (c.as_slice.ensures ∙ f.result ∙ mine.named) c.rows_in.ensures s.list)
    _ (synced_by d core.disk c.sync.new.self _ _ refl c.in-Ok.ensures.counted e.same_bytes e.crash e.time c.in-Ok.ensures.lasting)
    (ran_by d c.sync.new.self c.commit.new.disk core.state.list list text _ follows s.text w.any_moment w.besides c.in-Err.ensures.counted)
    _
    (λ m has.
    has_stopped_spent core.state c.joined_list-list.new.self mine.mine pins c.give_back.new.pins (d.faults c.commit.new.disk) m mine.known is
    (pin_back core.state.pins.items pins.items c.give_back.new.pins.items job.pin.number mine.taken f.taken
    (λ other. b.taken other ∙ ap (λ (items : List (Option (List ℕ))). is_taken other items || (job.pin.number == other)) between))
    (files_back core.state.pins.items pins.items c.give_back.new.pins.items job.pin.number c.take_files-joined.result f.result f.files
    (λ other. b.files other ∙ ap (λ (items : List (Option (List ℕ))). if job.pin.number == other then c.take_files-joined.result else files_at other items) between))
    has)
    (infos_spent core.state c.joined_list-list.new.self mine.mine pins is) refl (unsure_spent core.state c.joined_list-list.new.self mine.mine pins is)
    refl)
