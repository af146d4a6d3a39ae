-- A flush's commit as an event of a core: its next list, and what it leaves.
use Rattle.std.proofs.Common.{◌≡◌, ℕ, ◌+◌, ◌%◌, ◌<◌, ◌≤◌, List, [], ◌∷◌, ◌++◌, map, length, Some, None, Option, IfSome, IsTrue, refl, sym, ◌∙◌, ap, subst, arith, Result, IsOk, IsErr}
use Rattle.span_types.specs.First.{IsFirstOf}
use Rattle.span_types.specs.declared.spans.Row.{Row}
use Rattle.span_types.specs.declared.errors.Failed.{Failed}
use Rattle.disk_model.specs.Images.{Image, bytes_of}
use Rattle.disk_model.specs.Crash.{OnlyBytes}
use Rattle.disk_model.specs.declared.disk.Device.{Ghosts}
use Rattle.head_log.specs.Stands.{SegmentHolds}
use Rattle.block_info.specs.InfoParts.{InfoParts}
use Rattle.block_format.specs.Blocks.{BlockHolds, BlockHasInfo}
use Rattle.block_list.specs.Body.{MeetsRules}
use Rattle.block_list.specs.Loading.{IsReady}
use Rattle.block_list.specs.declared.body.SegmentRef.{SegmentRef}
use Rattle.block_list.specs.declared.body.ListBody.{ListBody}
use Rattle.store_model.specs.History.{count_of}
use Rattle.store_model.specs.State.{State, Block, LiveRow, flush_rows, live_rows}
use Rattle.store_model.specs.After.{floor_after, released, staying}
use Rattle.store_model.specs.Event.Event.{CommitFlush}
use Rattle.store_model.specs.Event.Reply.{Fine, Refused}
use Rattle.store_model.specs.Event.Refusal.{Fault}
use Rattle.store_model.specs.Sound.{StateIsSound}
use Rattle.store_model.specs.Step.{Machine, Step, broken, if_read_only, with_state}
use Rattle.store_model.specs.Step.Step.{Succeeds}
use Rattle.store_model.proofs.KeepsSound.{step_keeps as keeps_sound}
use Rattle.live_traces.specs.Parts.{least_number}
use Rattle.store_state.specs.Listed.{floor_from}
use Rattle.store_state.specs.Shown.{AreBlocks}
use Rattle.store_state.specs.declared.listing.FlushFiles.{FlushFiles}
use Rattle.store_state.proofs.Listings.{floor_is}
use Rattle.store_images.specs.Stored.{ImageStandsFor, ref_of}
use Rattle.store_images.specs.Settled.{Tail, IsSettled}
use Rattle.store_images.proofs.Storing.{settled_now}
use Rattle.store_core.specs.declared.jobs.OpenFlush.{OpenFlush}
use Rattle.store_core.specs.declared.state.CoreState.{CoreState}
use Rattle.store_core.specs.declared.store.Core.{Core}
use Rattle.store_core.specs.Cores.{HasState, StandsFor, StateShows, segment_of, unsure_of}
use Rattle.store_files.specs.Described.{AreDescribed}
use Rattle.store_files.specs.LogReading.{tail_of}
use Rattle.store_core.specs.Events.{Did}
use Rattle.store_core.specs.Jobs.{files_of_compaction}
use Rattle.store_core.specs.Waiting.{rows_outside, AreLogged}
use Rattle.store_core.specs.NextList.{IsNextList, length_of, next_floor}
use Rattle.store_core.proofs.CommitEnds.{IsDecided, Lists, Takes, built_old, listed_still, did_committed, did_commit_fail, same_file}
use Rattle.store_core.proofs.CommitEvents.{flush_commits}
use Rattle.store_core.proofs.CommitFacts.{may_commit}
use Rattle.store_core.proofs.CommitImages.{MayCommit, empty_tail, described_more, image_stands, logged_committed, settled_committed, tidy_stands}
use Rattle.store_core.proofs.CommitRuns.{Synced, Ran, MayList, its_run}
use Rattle.store_core.proofs.CommitStates.{new_block, committed_state, next_last, next_parting, next_segments, names_next, next_meets, TookOver, IsItsInfo, has_committed}
use Rattle.store_core.proofs.InUse.{all_named}
use Rattle.store_core.proofs.ListedBlocks.{whole_same, whole_with}
use Rattle.store_core.proofs.NextLists.{NamesState}
use Rattle.store_core.proofs.NextTaken.{flush_blocks, flush_loose}
use Rattle.store_core.proofs.OpenJobs.{IsOpenHere, spare_file}
use Rattle.store_core.proofs.PushEvents.{OnlyNow}
use Rattle.store_core.proofs.Spare.{spare_low}
use Rattle.store_core.proofs.States.{ref_to}

-- the next list, as the machine has it
record IsNextFor (core : CoreState) (m : Machine) (files : FlushFiles) (list : ListBody) : Type 0 where
  segments : map segment_of list.segments ≡ staying (floor_after (count_of m.history) m.state) (map segment_of (core.list.segments ++ next_last files m ∷ []))
  loose : list.loose ≡ (core.jobs.loose.items ++ released (floor_after (count_of m.history) m.state) (map segment_of (core.list.segments ++ next_last files m ∷ []))) ++ files_of_compaction core.jobs.compaction
  floor : list.floor ≡ floor_after (count_of m.history) m.state

next_for : (core : CoreState) (m : Machine) (files : FlushFiles) (size : ℕ) (list : ListBody) → HasState core m → IsNextList core files size list → IsNextFor core m files list
next_for core m files size list has next = record {
  segments = next.segments ∙ ap (λ (n : ℕ). staying n (map segment_of (core.list.segments ++ ref_to files.segment (length_of core) ∷ []))) floors
      ∙ ap (λ (n : ℕ). staying (floor_after (count_of m.history) m.state) (map segment_of (core.list.segments ++ ref_to files.segment n ∷ []))) (sym has.count);
  loose = flush_loose core files size list next ∙ ap (λ (n : ℕ). (core.jobs.loose.items ++ released n (map segment_of (core.list.segments ++ ref_to files.segment (length_of core) ∷ []))) ++ files_of_compaction core.jobs.compaction) floors
      ∙ ap (λ (n : ℕ). (core.jobs.loose.items ++ released (floor_after (count_of m.history) m.state) (map segment_of (core.list.segments ++ ref_to files.segment n ∷ []))) ++ files_of_compaction core.jobs.compaction) (sym has.count);
  floor = next.its_floor ∙ floors;
}
  where
    rows_same : core.live.head ++ live_rows core.live.live ≡ m.state.head ++ live_rows m.state.live
    rows_same = ap (λ (h : List Row). h ++ live_rows core.live.live) (sym has.head) ∙ ap (λ (l : List LiveRow). m.state.head ++ live_rows l) (sym has.live)

    floors : next_floor core ≡ floor_after (count_of m.history) m.state
    floors = ap (λ (n : ℕ). floor_from n (least_number (core.live.head ++ live_rows core.live.live))) (sym has.count)
        ∙ sym (floor_is (count_of m.history) m.state (least_number (core.live.head ++ live_rows core.live.live)) (ap least_number rows_same))

-- ---- the step, and the next list

module _ (told : Type 0) (held : Image) (may_leave : Image → Type 0) (core : CoreState) (m : Machine) (s : StandsFor told held may_leave core m) (writes : core.read_only ≡ None) (number file size : ℕ)
    (here : IsOpenHere core m number file) (firsts : List Row) (are_first : IsFirstOf here.job.rows firsts) where
  pub step_committed : (before faults : ℕ) → Step before faults m (CommitFlush number size) Fine (with_state (committed_state m here.job size firsts) m)
  step_committed before faults = Succeeds (ap (λ (r : Option ℕ). if_read_only r None) (s.has.read_only ∙ writes)) (here.job, firsts, here.is_open, here.its_number, are_first, refl, refl)

  sound_committed : StateIsSound (committed_state m here.job size firsts)
  sound_committed = keeps_sound 0 0 m (with_state (committed_state m here.job size firsts) m) (CommitFlush number size) Fine s.sound (step_committed 0 0)

  module _ (list : ListBody) (next : IsNextList core here.mine.files size list) where
    pub names_committed : NamesState list (committed_state m here.job size firsts)
    names_committed =
        let f = next_for core m here.mine.files size list s.has next in
        names_next core m s.has here.mine.files here.job size firsts list here.files (flush_blocks core here.mine.files size list next) f.segments f.loose f.floor next.its_next_file

    pub segments_committed : list.segments ≡ (next_parting core m s.has here.mine.files s.above).kept ++ next_last here.mine.files m ∷ []
    segments_committed = next_segments core m s.has here.mine.files list s.above (next_for core m here.mine.files size list s.has next).segments

    pub meets_rules : 1 ≤ size → size ≤ 1048576 → MeetsRules list
    meets_rules some most =
        next_meets core m s.has here.mine.files here.job size firsts list s.above names_committed sound_committed segments_committed (flush_blocks core here.mine.files size list next)
        (let is = next.generation in omega (arith, is, few core.list.generation)) some most
      where
        few : (n : ℕ) → (n + 1) % 256 < 256
        few n = omega arith

-- What a commit knows: the open flush, its rows and their block, and the next list.
pub record Commits (old : CoreState) (held : Image) (told : Type 0) (number file size : ℕ) (rows firsts : List Row) (info : InfoParts) (list : ListBody) : Type 0 where
  pub writes : old.read_only ≡ None
  pub here : (m : Machine) → HasState old m → IsOpenHere old m number file
  pub its_rows : old.live.flushing ≡ rows
  pub are_first : IsFirstOf rows firsts
  pub block : told → BlockHasInfo info (bytes_of held file) firsts
  pub its_info : IsItsInfo info file size
  pub counted : told → size ≡ length firsts
  pub some : 1 ≤ size
  pub most : size ≤ 1048576
  pub next : (m : Machine) → (has : HasState old m) → IsNextList old (here m has).mine.files size list

module _ {D : Type 0} (g : Ghosts D) (only_now : OnlyNow g) (old : Core D) (mid disk : D) (number file size slot : ℕ) (rows firsts : List Row) (info : InfoParts) (list : ListBody)
    (c : Commits old.state (g.held old.disk) (IsTrue (g.tells old.disk)) number file size rows firsts info list)
    (result : Result (Unit {0}) Failed) (synced : Synced g old.disk mid file) (ran : Ran g mid disk old.state.list list slot result) where
  module _ (told : Type 0) (tells : told → IsTrue (g.tells old.disk)) (m : Machine) (s : StandsFor told (g.held old.disk) (g.may_leave old.disk) old.state m) where
    abbrev here : IsOpenHere old.state m number file
    here = c.here m s.has

    abbrev files : FlushFiles
    files = here.mine.files

    abbrev u' : State
    u' = committed_state m here.job size firsts

    abbrev m' : Machine
    m' = with_state u' m

    rows_are : here.job.rows ≡ rows
    rows_are = sym (s.has.flushing ∙ ap flush_rows here.is_open) ∙ c.its_rows

    firsts_are : IsFirstOf here.job.rows firsts
    firsts_are = subst (λ (r : List Row). IsFirstOf r firsts) (sym rows_are) c.are_first

    nexts : IsNextList old.state files size list
    nexts = c.next m s.has

    for_m : IsNextFor old.state m files list
    for_m = next_for old.state m files size list s.has nexts

    pub done : (before faults : ℕ) → Step before faults m (CommitFlush number size) Fine m'
    done before faults = step_committed told (g.held old.disk) (g.may_leave old.disk) old.state m s c.writes number file size here firsts firsts_are before faults

    names : NamesState list u'
    names = names_committed told (g.held old.disk) (g.may_leave old.disk) old.state m s c.writes number file size here firsts firsts_are list nexts

    sound : StateIsSound u'
    sound = keeps_sound 0 0 m m' (CommitFlush number size) Fine s.sound (done 0 0)

    segments : list.segments ≡ (next_parting old.state m s.has files s.above).kept ++ next_last files m ∷ []
    segments = segments_committed told (g.held old.disk) (g.may_leave old.disk) old.state m s c.writes number file size here firsts firsts_are list nexts

    rules : MeetsRules list
    rules = meets_rules told (g.held old.disk) (g.may_leave old.disk) old.state m s c.writes number file size here firsts firsts_are list nexts c.some c.most

    abbrev block : Block
    block = new_block here.job size firsts

    abbrev waits : List Row
    waits = m.state.head ++ live_rows m.state.live

    blocks_are : list.blocks ≡ old.state.list.blocks ++ ref_of block ∷ []
    blocks_are = flush_blocks old.state files size list nexts ∙ ap (λ (n : ℕ). old.state.list.blocks ++ record { file = n; level = 0; rows = size } ∷ []) here.files.block

    its_rows_hold : told → BlockHolds (bytes_of (g.held old.disk) file) firsts
    its_rows_hold known = let b = c.block (tells known) in record { header = b.header; parts = b.parts }

    may : told → MayCommit (g.held mid) (g.may_leave mid) old.state.list list m.state.blocks block (tail_of old.state.segment) m.history (next_last files m) waits
    may known =
        may_commit told known (g.held old.disk) (g.held mid) (g.may_leave old.disk) (g.may_leave mid) old.state m s c.writes number file size here firsts list 0 0
        (synced.same (tells known)) synced.crash
        (subst (λ (n : ℕ). OnlyBytes n (bytes_of (g.held mid) n) (g.may_leave mid)) (sym here.its_file) (synced.lasting (tells known)))
        (done 0 0) firsts_are
        (subst (λ (n : ℕ). BlockHolds (bytes_of (g.held old.disk) n) firsts) (sym here.its_file) (its_rows_hold known))
        (c.counted (tells known)) segments blocks_are for_m.floor

    pub may_list : told → MayList (g.held mid) (g.may_leave mid) old.state.list list m.history
    may_list known = record {
      ready = (may known).settled.lies.ready;
      stands = image_stands (g.held mid) (g.may_leave mid) old.state.list list m.state.blocks block (tail_of old.state.segment) m.history (next_last files m) waits (may known);
      tidy = tidy_stands (g.held mid) (g.may_leave mid) old.state.list list m.state.blocks block (tail_of old.state.segment) m.history (next_last files m) waits (may known)
          (all_named old.state.list list m.state (count_of m.history) here.job size firsts here.is_open s.has.used names);
    }

    abbrev pub flush_lists : Lists told (g.held mid) (g.may_leave mid) old.state list (CommitFlush number size) m
    flush_lists = record { after = u'; step = done; images = may_list }

  abbrev lists : (told : Type 0) → (told → IsTrue (g.tells old.disk)) → IsDecided told → (m : Machine) → StandsFor told (g.held old.disk) (g.may_leave old.disk) old.state m
      → Lists told (g.held mid) (g.may_leave mid) old.state list (CommitFlush number size) m
  lists told tells decided m s = flush_lists told tells m s

  -- ---- the list was written

  module _ (told : Type 0) (tells : told → IsTrue (g.tells old.disk)) (decided : IsDecided told) (m : Machine) (s : StandsFor told (g.held old.disk) (g.may_leave old.disk) old.state m)
      (later : CoreState) (took : TookOver old.state later list info (c.here m s.has).mine.files.segment (count_of m.history)) (stays : told → g.may_leave mid (g.held mid))
      (ready : told → IsReady (g.held mid) (g.may_leave mid) (Some old.state.list) → IsReady (g.held disk) (g.may_leave disk) (Some list)) where
    abbrev its_files : FlushFiles
    its_files = (c.here m s.has).mine.files

    abbrev its_last : SegmentRef
    its_last = next_last its_files m

    abbrev its_block : Block
    its_block = new_block (c.here m s.has).job size firsts

    abbrev waiting : List Row
    waiting = m.state.head ++ live_rows m.state.live

    abbrev after : State
    after = committed_state m (c.here m s.has).job size firsts

    its_own : told → MayCommit (g.held mid) (g.may_leave mid) old.state.list list m.state.blocks its_block (tail_of old.state.segment) m.history its_last waiting
    its_own known = may told tells m s known

    block_stays : told → BlockHasInfo info (bytes_of (g.held disk) info.file) firsts
    block_stays known =
        let low : 2 ≤ info.file = (let least = (its_own known).low in let one = (c.here m s.has).its_file in let two = c.its_info.file_is in omega (arith, least, one, two)) in
        subst (λ (b : List ℕ). BlockHasInfo info b firsts) (sym (same_file g only_now old mid disk (CommitFlush number size) (flush_commits number size) file slot list c.writes result synced ran lists (tells known) info.file low))
        (subst (λ (n : ℕ). BlockHasInfo info (bytes_of (g.held old.disk) n) firsts) (sym c.its_info.file_is) (c.block (tells known)))

    tail_is : tail_of later.segment ≡ record { file = its_files.segment; first = count_of m.history; count = 0; gate = 1 }
    tail_is =
        ap (λ (n : ℕ). record { file = n; first = later.segment.first; count = later.segment.count; gate = later.segment.gate }) took.file_is
        ∙ ap (λ (n : ℕ). record { file = its_files.segment; first = n; count = later.segment.count; gate = later.segment.gate }) took.first_is
        ∙ ap (λ (n : ℕ). record { file = its_files.segment; first = count_of m.history; count = n; gate = later.segment.gate }) took.count
        ∙ ap (λ (n : ℕ). record { file = its_files.segment; first = count_of m.history; count = 0; gate = n }) took.gate

    before : told → (image : Image) → g.may_leave old.disk image → ImageStandsFor image m.history
    before known image left = settled_now (g.held old.disk) (g.may_leave old.disk) old.state.list m.state.blocks (tail_of old.state.segment) m.history (s.settled known c.writes) image left

    its_settled : told → IsSettled (g.held disk) (g.may_leave disk) later.list (m.state.blocks ++ its_block ∷ []) (tail_of later.segment) m.history
    its_settled known =
        let run = its_run g only_now old.disk mid disk file slot old.state.list list m.history result synced ran (tells known) (before known) (may_list told tells m s known) in
        subst (λ (t : Tail). IsSettled (g.held disk) (g.may_leave disk) later.list (m.state.blocks ++ its_block ∷ []) t m.history) (sym tail_is)
        (subst (λ (l : ListBody). IsSettled (g.held disk) (g.may_leave disk) l (m.state.blocks ++ its_block ∷ []) (empty_tail its_last) m.history) (sym took.listing)
        (settled_committed (g.held mid) (g.may_leave mid) old.state.list list m.state.blocks its_block (tail_of old.state.segment) m.history its_last waiting (its_own known) slot ran.below (g.held disk) (g.may_leave disk)
        (stays known) (ran.besides (subst IsTrue (sym synced.telling) (tells known))) (ready known (its_own known).settled.lies.ready) run.now))

    its_logged : told → AreLogged (g.held disk) later.list (rows_outside after)
    its_logged known =
        let run = its_run g only_now old.disk mid disk file slot old.state.list list m.history result synced ran (tells known) (before known) (may_list told tells m s known) in
        subst (λ (l : ListBody). AreLogged (g.held disk) l (rows_outside after)) (sym took.listing)
        (logged_committed (g.held mid) (g.may_leave mid) old.state.list list m.state.blocks its_block (tail_of old.state.segment) m.history its_last waiting (its_own known) slot ran.below (g.held disk) (g.may_leave disk)
        (stays known) (ran.besides (subst IsTrue (sym synced.telling) (tells known))) (ready known (its_own known).settled.lies.ready) run.now)

    flush_takes : Takes told (g.held disk) (g.may_leave disk) later (with_state after m)
    flush_takes = record {
      has = has_committed old.state later list m (c.here m s.has).job size firsts info (next_parting old.state m s.has its_files s.above).kept its_files.segment s.has took
          (record { file_is = c.its_info.file_is ∙ sym (c.here m s.has).its_file; level = c.its_info.level; rows = c.its_info.rows }) (names told tells m s) (rules told tells m s) (segments told tells m s) its_files (c.next m s.has);
      built = λ t. subst (λ (l : List InfoParts). AreDescribed (g.held disk) l (m.state.blocks ++ its_block ∷ [])) (sym took.infos)
          (described_more (g.held disk) old.state.infos.items info m.state.blocks its_block
          (built_old g only_now old mid disk (CommitFlush number size) (flush_commits number size) file slot list c.writes result synced ran lists told tells decided m s t) (block_stays t));
      settled = λ t. its_settled t;
      fresh = λ t. subst (λ (k : Option OpenFlush). IfSome k (λ mine. ((first : ℕ) → SegmentHolds first [] 1 (bytes_of (g.held disk) mine.files.segment))
          × OnlyBytes mine.files.segment (bytes_of (g.held disk) mine.files.segment) (g.may_leave disk))) (sym took.none) tt;
      logged = λ t. its_logged t;
    }

  -- the new block is one, and so is each that was listed
  whole_after : IsTrue (g.tells old.disk) → (m : Machine) → (s : StateShows g old m) → (later : CoreState) → later.infos.items ≡ old.state.infos.items ++ info ∷ []
      → AreBlocks (λ f. bytes_of (g.held old.disk) f) old.state.infos.items → AreBlocks (λ f. bytes_of (g.held disk) f) later.infos.items
  whole_after told m s later infos are =
      let low : 2 ≤ file = spare_low old.state.list s.has.rules file (spare_file old.state m number file s.has (c.here m s.has)) in
      let still = same_file g only_now old mid disk (CommitFlush number size) (flush_commits number size) file slot list c.writes result synced ran lists told file low in
      whole_same (g.held disk) (old.state.infos.items ++ info ∷ []) later.infos.items infos
      (whole_with (λ f. bytes_of (g.held disk) f) old.state.infos.items info
      (listed_still g only_now old mid disk (CommitFlush number size) (flush_commits number size) file slot list c.writes result synced ran lists told m s are) (
        firsts,
        subst (λ (n : ℕ). BlockHasInfo info (bytes_of (g.held disk) n) firsts) (sym c.its_info.file_is) (subst (λ (b : List ℕ). BlockHasInfo info b firsts) (sym still) (c.block told)),
      ))

  pub did_flush_committed : IsOk result → (later : CoreState) → unsure_of later ≡ unsure_of old.state → ((m : Machine) → (has : HasState old.state m) → TookOver old.state later list info (c.here m has).mine.files.segment (count_of m.history))
      → (IsTrue (g.tells mid) → g.may_leave mid (g.held mid)) → (IsTrue (g.tells mid) → IsReady (g.held mid) (g.may_leave mid) (Some old.state.list) → IsReady (g.held disk) (g.may_leave disk) (Some list))
      → Did g old (CommitFlush number size) Fine (record old { disk = disk; state = later })
  did_flush_committed fine later unsure took stays ready =
      did_committed g only_now old mid disk (CommitFlush number size) (flush_commits number size) file slot list c.writes result synced ran lists fine later unsure
      (λ told tells decided m s. flush_takes told tells decided m s later (took m s.has) (λ t. stays (subst IsTrue (sym synced.telling) (tells t))) (λ t. ready (subst IsTrue (sym synced.telling) (tells t))))
      (λ told m s are. whole_after told m s later (took m s.has).infos are)

  pub did_flush_fail : (later : CoreState) → ((m : Machine) → HasState old.state m → HasState later (broken (g.faults disk) m)) → later.infos.items ≡ old.state.infos.items → later.read_only ≡ Some (g.faults disk)
      → unsure_of later ≡ unsure_of old.state → IsErr result → Did g old (CommitFlush number size) (Refused Fault) (record old { disk = disk; state = later })
  did_flush_fail later has infos read_only unsure err =
      did_commit_fail g only_now old mid disk (CommitFlush number size) (flush_commits number size) file slot list c.writes result synced ran lists later has infos read_only unsure err
