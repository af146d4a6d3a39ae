-- A compaction's commit as an event of a core: its next list, and what it leaves.
use Rattle.std.proofs.Common.{◌≡◌, ℕ, ◌≤◌, List, [], ◌∷◌, ◌++◌, Some, None, Option, IfSome, IsTrue, refl, sym, ◌∙◌, ap, subst, arith, Result, IsOk, IsErr}
use Rattle.span_types.specs.declared.errors.Failed.{Failed}
use Rattle.disk_model.specs.Images.{Image, bytes_of}
use Rattle.disk_model.specs.Crash.{Run}
use Rattle.disk_model.specs.declared.disk.Device.{Ghosts}
use Rattle.block_info.specs.InfoParts.{InfoParts}
use Rattle.block_format.specs.Blocks.{BlockHasInfo}
use Rattle.block_list.specs.Body.{MeetsRules}
use Rattle.block_list.specs.Commit.{ImageHoldsEither, WritesSlot}
use Rattle.block_list.specs.Loading.{IsReady}
use Rattle.block_list.specs.declared.body.ListBody.{ListBody}
use Rattle.head_log.specs.declared.segment.Segment.{Segment}
use Rattle.store_model.specs.State.{State, Block, Compaction, without_pin}
use Rattle.store_model.specs.Choice.{outside_files}
use Rattle.store_model.specs.After.{job_files}
use Rattle.store_model.specs.Event.Event.{CommitCompact}
use Rattle.store_model.specs.Event.Reply.{Fine, Refused}
use Rattle.store_model.specs.Event.Refusal.{Fault}
use Rattle.store_model.specs.Sound.{StateIsSound}
use Rattle.store_model.specs.Step.{Machine, Step, broken, if_read_only, with_state}
use Rattle.store_model.specs.Step.Step.{Succeeds}
use Rattle.store_model.proofs.KeepsSound.{step_keeps as keeps_sound}
use Rattle.store_state.specs.Given.{info_files}
use Rattle.store_state.specs.Shown.{AreBlocks}
use Rattle.store_state.specs.Written.{NamesJob, IsJoinedBlock}
use Rattle.store_images.specs.Committed.{MayCompact}
use Rattle.store_images.specs.Stored.{ImageStandsFor}
use Rattle.store_images.specs.Settled.{Tail, IsSettled}
use Rattle.store_images.proofs.CompactImages.{image_stands, tidy_stands, settled_compacted, logged_compacted}
use Rattle.store_images.proofs.Storing.{settled_now}
use Rattle.store_core.specs.declared.jobs.OpenFlush.{OpenFlush}
use Rattle.store_core.specs.declared.state.CoreState.{CoreState}
use Rattle.store_core.specs.declared.store.Core.{Core}
use Rattle.store_core.specs.Cores.{HasState, StandsFor, StateShows, unsure_of}
use Rattle.store_files.specs.Described.{AreDescribed}
use Rattle.store_files.specs.LogReading.{tail_of}
use Rattle.store_core.specs.Events.{Did}
use Rattle.store_core.specs.Jobs.{HasFreshSegment}
use Rattle.store_files.specs.Loose.{IsSpare}
use Rattle.store_core.specs.NextList.{IsJoinedList, infos_outside}
use Rattle.store_core.specs.Waiting.{rows_outside, AreLogged}
use Rattle.store_core.proofs.CommitEnds.{IsDecided, Lists, Takes, built_old, listed_still, did_committed, did_commit_fail, same_file}
use Rattle.store_core.proofs.CommitEvents.{compact_commits}
use Rattle.store_core.proofs.CommitImages.{described_more}
use Rattle.store_core.proofs.CommitRuns.{Synced, Ran, MayList, its_run}
use Rattle.store_core.proofs.CompactFacts.{HasFirsts, all_joined, files_here, firsts_for, joined_listed, may_compact}
use Rattle.store_core.proofs.CompactStates.{joined_block, joined_state, names_joined, joined_meets, described_left, TookJoined, IsJoinedInfo, has_joined}
use Rattle.store_core.proofs.ListedBlocks.{whole_outside, whole_same, whole_with}
use Rattle.store_core.proofs.Logged.{logged_same}
use Rattle.store_core.proofs.Looking.{ShowsPins}
use Rattle.store_core.proofs.NextLists.{NamesState}
use Rattle.store_core.proofs.OpenCompactions.{IsCompactionHere, model_of, spare_compaction}
use Rattle.store_core.proofs.OpenJobs.{fresh_moved}
use Rattle.store_core.proofs.PushEvents.{OnlyNow}
use Rattle.store_core.proofs.Spare.{spare_low}

-- ---- the step, and the next list

module _ (told : Type 0) (held : Image) (may_leave : Image → Type 0) (core : CoreState) (m : Machine) (s : StandsFor told held may_leave core m) (writes : core.read_only ≡ None)
    (number file level pin size : ℕ) (infos : List InfoParts) (info : InfoParts) (here : IsCompactionHere core m number file level pin (info_files infos))
    (found : HasFirsts told (bytes_of held file) info (job_files (model_of here.mine) m.state) m.state.blocks) where
  pub step_joined : (before faults : ℕ) → Step before faults m (CommitCompact number size) Fine (with_state (joined_state m (model_of here.mine) size found.firsts) m)
  step_joined before faults =
      Succeeds (ap (λ (r : Option ℕ). if_read_only r None) (s.has.read_only ∙ writes)) (model_of here.mine, found.firsts, here.is_open, here.its_number, found.are_first, refl, refl)

  pub sound_joined : StateIsSound (joined_state m (model_of here.mine) size found.firsts)
  sound_joined = keeps_sound 0 0 m (with_state (joined_state m (model_of here.mine) size found.firsts) m) (CommitCompact number size) Fine s.sound (step_joined 0 0)

  -- a level that a list may have
  low_level : here.mine.level ≤ 63
  low_level = subst (λ (k : Option _). IfSome k (λ known. known.level ≤ 63)) here.known s.has.jobs.level

  module _ (list : ListBody) (next : IsJoinedList core here.mine (info_files infos) size list) where
    pub names_after : NamesState list (joined_state m (model_of here.mine) size found.firsts)
    names_after = names_joined core m s.has here.mine (info_files infos) (files_here told held may_leave core m s number file level pin infos here) size found.firsts list next

    pub joined_rules : 1 ≤ size → size ≤ 1048576 → MeetsRules list
    joined_rules some most =
        joined_meets core m s.has here.mine (info_files infos) (files_here told held may_leave core m s number file level pin infos here) size found.firsts list next sound_joined low_level some most

-- What a commit knows: the open compaction, its block, and the next list.
pub record Joins (old : CoreState) (held : Image) (told : Type 0) (number file level pin : ℕ) (infos : List InfoParts) (info : InfoParts) (list : ListBody) : Type 0 where
  pub writes : old.read_only ≡ None
  pub here : (m : Machine) → HasState old m → IsCompactionHere old m number file level pin (info_files infos)
  pub names : NamesJob file level info
  pub joined : told → IsJoinedBlock (λ f. bytes_of held f) (bytes_of held file) info infos
  pub some : 1 ≤ info.rows
  pub most : info.rows ≤ 1048576
  pub next : (m : Machine) → (has : HasState old m) → IsJoinedList old (here m has).mine (info_files infos) info.rows list

module _ {D : Type 0} (g : Ghosts D) (only_now : OnlyNow g) (old : Core D) (mid disk : D) (number file level pin slot : ℕ) (infos : List InfoParts) (info : InfoParts) (list : ListBody)
    (c : Joins old.state (g.held old.disk) (IsTrue (g.tells old.disk)) number file level pin infos info list)
    (result : Result (Unit {0}) Failed) (synced : Synced g old.disk mid file) (ran : Ran g mid disk old.state.list list slot result) where
  module _ (told : Type 0) (tells : told → IsTrue (g.tells old.disk)) (decided : IsDecided told) (m : Machine) (s : StandsFor told (g.held old.disk) (g.may_leave old.disk) old.state m) where
    abbrev here : IsCompactionHere old.state m number file level pin (info_files infos)
    here = c.here m s.has

    abbrev its_job : Compaction
    its_job = model_of here.mine

    abbrev files : List ℕ
    files = job_files its_job m.state

    found : HasFirsts told (bytes_of (g.held old.disk) file) info files m.state.blocks
    found = firsts_for told (g.held old.disk) (g.may_leave old.disk) old.state m s number file level pin infos here decided info (λ t. c.joined (tells t))

    abbrev block : Block
    block = joined_block its_job info.rows found.firsts

    abbrev u' : State
    u' = joined_state m its_job info.rows found.firsts

    abbrev nexts : IsJoinedList old.state here.mine (info_files infos) info.rows list
    nexts = c.next m s.has

    names : NamesState list u'
    names = names_after told (g.held old.disk) (g.may_leave old.disk) old.state m s c.writes number file level pin info.rows infos info here found list nexts

    rules : MeetsRules list
    rules = joined_rules told (g.held old.disk) (g.may_leave old.disk) old.state m s c.writes number file level pin info.rows infos info here found list nexts c.some c.most

    may : told → MayCompact (g.held mid) (g.may_leave mid) old.state.list list files m.state.blocks block (tail_of old.state.segment) m.history
    may known =
        may_compact told known (g.held old.disk) (g.held mid) (g.may_leave old.disk) (g.may_leave mid) old.state m s c.writes number file level pin info.rows (info_files infos) here found.firsts list (info_files infos) nexts names
        (synced.same (tells known)) synced.crash (synced.lasting (tells known)) found.are_first
        (let b = found.block known in record { header = b.header; parts = b.parts }) (found.counted known)

    may_list : told → MayList (g.held mid) (g.may_leave mid) old.state.list list m.history
    may_list known = record {
      ready = (may known).settled.lies.ready;
      stands = image_stands (g.held mid) (g.may_leave mid) old.state.list list files m.state.blocks block (tail_of old.state.segment) m.history (may known);
      tidy = tidy_stands (g.held mid) (g.may_leave mid) old.state.list list files m.state.blocks block (tail_of old.state.segment) m.history (may known)
          (all_joined old.state.list list m.state its_job info.rows found.firsts here.is_open s.has.used names);
    }

    abbrev compact_lists : Lists told (g.held mid) (g.may_leave mid) old.state list (CommitCompact number info.rows) m
    compact_lists = record {
      after = u';
      step = step_joined told (g.held old.disk) (g.may_leave old.disk) old.state m s c.writes number file level pin info.rows infos info here found;
      images = may_list;
    }

    -- ---- the list was written

    before : told → (image : Image) → g.may_leave old.disk image → ImageStandsFor image m.history
    before known image left = settled_now (g.held old.disk) (g.may_leave old.disk) old.state.list m.state.blocks (tail_of old.state.segment) m.history (s.settled known c.writes) image left

    run : told → Run (WritesSlot slot (ImageHoldsEither (Some old.state.list) list)) g.moment g.left_since g.may_leave mid disk
    run known = its_run g only_now old.disk mid disk file slot old.state.list list m.history result synced ran (tells known) (before known) (may_list known)

  abbrev lists : (told : Type 0) → (told → IsTrue (g.tells old.disk)) → IsDecided told → (m : Machine) → StandsFor told (g.held old.disk) (g.may_leave old.disk) old.state m
      → Lists told (g.held mid) (g.may_leave mid) old.state list (CommitCompact number info.rows) m
  lists told tells decided m s = compact_lists told tells decided m s

  still_file : IsTrue (g.tells old.disk) → (f : ℕ) → 2 ≤ f → bytes_of (g.held disk) f ≡ bytes_of (g.held old.disk) f
  still_file = same_file g only_now old mid disk (CommitCompact number info.rows) (compact_commits number info.rows) file slot list c.writes result synced ran lists

  module _ (told : Type 0) (tells : told → IsTrue (g.tells old.disk)) (decided : IsDecided told) (m : Machine) (s : StandsFor told (g.held old.disk) (g.may_leave old.disk) old.state m)
      (later : CoreState) (took : TookJoined old.state later list info (info_files infos)) (pins : ShowsPins (u' told tells decided m s).pins later.pins.items)
      (stays : told → g.may_leave mid (g.held mid))
      (ready : told → IsReady (g.held mid) (g.may_leave mid) (Some old.state.list) → IsReady (g.held disk) (g.may_leave disk) (Some list)) where
    abbrev its_files : List ℕ
    its_files = files told tells decided m s

    abbrev its_block : Block
    its_block = block told tells decided m s

    abbrev after : State
    after = u' told tells decided m s

    abbrev mine_here : IsCompactionHere old.state m number file level pin (info_files infos)
    mine_here = c.here m s.has

    its_info : IsJoinedInfo info mine_here.mine info.rows
    its_info = record { file_is = c.names.its_file ∙ sym mine_here.its_file; level = c.names.its_level ∙ sym mine_here.its_level; rows = refl }

    its_own : told → MayCompact (g.held mid) (g.may_leave mid) old.state.list list its_files m.state.blocks its_block (tail_of old.state.segment) m.history
    its_own known = may told tells decided m s known

    tail_same : tail_of later.segment ≡ tail_of old.state.segment
    tail_same = ap (λ (x : Segment). tail_of x) took.segment

    its_settled : told → IsSettled (g.held disk) (g.may_leave disk) later.list after.blocks (tail_of later.segment) m.history
    its_settled known =
        subst (λ (t : Tail). IsSettled (g.held disk) (g.may_leave disk) later.list after.blocks t m.history) (sym tail_same)
        (subst (λ (l : ListBody). IsSettled (g.held disk) (g.may_leave disk) l after.blocks (tail_of old.state.segment) m.history) (sym took.listing)
        (settled_compacted (g.held mid) (g.may_leave mid) old.state.list list its_files m.state.blocks its_block (tail_of old.state.segment) m.history (its_own known) slot ran.below (g.held disk) (g.may_leave disk)
        (stays known) (ran.besides (subst IsTrue (sym synced.telling) (tells known))) (ready known (its_own known).settled.lies.ready) (run told tells decided m s known).now))

    logged_mid : told → AreLogged (g.held mid) old.state.list (rows_outside m.state)
    logged_mid known = logged_same (g.held old.disk) (g.held mid) old.state.list (rows_outside m.state) (rows_outside m.state) (λ x inside. synced.same (tells known) x.file) (λ x c. c) (s.logged known c.writes)

    its_logged : told → AreLogged (g.held disk) later.list (rows_outside after)
    its_logged known =
        subst (λ (l : ListBody). AreLogged (g.held disk) l (rows_outside after)) (sym took.listing)
        (logged_compacted (g.held mid) (g.may_leave mid) old.state.list list its_files m.state.blocks its_block (tail_of old.state.segment) m.history (its_own known) slot ran.below (g.held disk) (g.may_leave disk)
        (stays known) (ran.besides (subst IsTrue (sym synced.telling) (tells known))) (ready known (its_own known).settled.lies.ready) (run told tells decided m s known).now
        (rows_outside m.state) (logged_mid known))

    -- the new segment of an open flush
    segment_low : (flush : OpenFlush) → old.state.jobs.flush ≡ Some flush → 2 ≤ flush.files.segment
    segment_low flush known =
        spare_low old.state.list s.has.rules flush.files.segment (subst (λ (k : Option OpenFlush). IfSome k (λ x. IsSpare old.state.list x.files.block × IsSpare old.state.list x.files.segment)) known s.has.jobs.flush).1

    its_fresh : told → HasFreshSegment (g.held disk) (g.may_leave disk) later.jobs
    its_fresh known =
        subst (λ (k : Option OpenFlush). HasFreshSegment (g.held disk) (g.may_leave disk) (record later.jobs { flush = k })) (sym took.flush)
        (fresh_moved old.state.jobs.flush (g.held old.disk) (g.held disk) (g.may_leave old.disk) (g.may_leave disk)
        (λ flush is. still_file (tells known) flush.files.segment (segment_low flush is))
        (λ flush its bytes only image left.
        let r = (run told tells decided m s known).now image left in
        let low = segment_low flush its in
        r.2.besides flush.files.segment (λ is. let below = ran.below in omega (arith, low, is, below)) ∙ only r.0 (synced.crash r.0 r.1))
        (s.fresh known c.writes))

    block_has : told → BlockHasInfo info (bytes_of (g.held disk) info.file) its_block.rows
    block_has known =
        let low : 2 ≤ info.file = (let least = (its_own known).low in let one = its_info.file_is in omega (arith, least, one)) in
        subst (λ (b : List ℕ). BlockHasInfo info b its_block.rows) (sym (still_file (tells known) info.file low))
        (subst (λ (n : ℕ). BlockHasInfo info (bytes_of (g.held old.disk) n) its_block.rows) (sym c.names.its_file) ((found told tells decided m s).block known))

    its_built : told → AreDescribed (g.held disk) later.infos.items after.blocks
    its_built known =
        subst (λ (l : List InfoParts). AreDescribed (g.held disk) l after.blocks) (sym took.infos)
        (described_more (g.held disk) (infos_outside (info_files infos) old.state.infos.items) info (outside_files its_files m.state.blocks) its_block
        (subst (λ (fs : List ℕ). AreDescribed (g.held disk) (infos_outside (info_files infos) old.state.infos.items) (outside_files fs m.state.blocks))
        (files_here told (g.held old.disk) (g.may_leave old.disk) old.state m s number file level pin infos mine_here)
        (described_left (g.held disk) (info_files infos) old.state.infos.items m.state.blocks s.has.infos
        (built_old g only_now old mid disk (CommitCompact number info.rows) (compact_commits number info.rows) file slot list c.writes result synced ran lists told tells decided m s known)))
        (block_has known))

    compact_takes : Takes told (g.held disk) (g.may_leave disk) later (with_state after m)
    compact_takes = record {
      has = has_joined old.state later m s.has mine_here.mine (info_files infos) (files_here told (g.held old.disk) (g.may_leave old.disk) old.state m s number file level pin infos mine_here) info.rows
          (found told tells decided m s).firsts list info (c.next m s.has) took its_info (rules told tells decided m s) pins;
      built = its_built;
      settled = its_settled;
      fresh = its_fresh;
      logged = its_logged;
    }

  -- the new block is one, and so is each that stays listed
  whole_after : IsTrue (g.tells old.disk) → (m : Machine) → (s : StateShows g old m) → (later : CoreState) → later.infos.items ≡ infos_outside (info_files infos) old.state.infos.items ++ info ∷ []
      → AreBlocks (λ f. bytes_of (g.held old.disk) f) old.state.infos.items → AreBlocks (λ f. bytes_of (g.held disk) f) later.infos.items
  whole_after told m s later after are =
      let its = c.here m s.has in
      let spare = spare_low old.state.list s.has.rules its.mine.file (spare_compaction old.state m its.mine s.has its.known) in
      let still = still_file told file (let same = its.its_file in omega (arith, spare, same)) in
      let one = joined_listed ⊥ (g.held old.disk) (g.may_leave old.disk) old.state m s number file level pin infos its are info (c.joined told) in
      whole_same (g.held disk) (infos_outside (info_files infos) old.state.infos.items ++ info ∷ []) later.infos.items after
      (whole_with (λ f. bytes_of (g.held disk) f) (infos_outside (info_files infos) old.state.infos.items) info
      (whole_outside (λ f. bytes_of (g.held disk) f) (info_files infos) old.state.infos.items
      (listed_still g only_now old mid disk (CommitCompact number info.rows) (compact_commits number info.rows) file slot list c.writes result synced ran lists told m s are)) (
        one.0,
        subst (λ (n : ℕ). BlockHasInfo info (bytes_of (g.held disk) n) one.0) (sym c.names.its_file) (subst (λ (b : List ℕ). BlockHasInfo info b one.0) (sym still) one.1),
      ))

  -- the pins without that of the compaction, whichever machine it is
  pub did_compact_committed : IsOk result → (later : CoreState) → unsure_of later ≡ unsure_of old.state → TookJoined old.state later list info (info_files infos)
      → ((m : Machine) → (has : HasState old.state m) → ShowsPins (without_pin (c.here m has).mine.pin m.state.pins) later.pins.items)
      → (IsTrue (g.tells mid) → g.may_leave mid (g.held mid)) → (IsTrue (g.tells mid) → IsReady (g.held mid) (g.may_leave mid) (Some old.state.list) → IsReady (g.held disk) (g.may_leave disk) (Some list))
      → Did g old (CommitCompact number info.rows) Fine (record old { disk = disk; state = later })
  did_compact_committed fine later unsure took pins stays ready =
      did_committed g only_now old mid disk (CommitCompact number info.rows) (compact_commits number info.rows) file slot list c.writes result synced ran lists fine later unsure
      (λ told tells decided m s. compact_takes told tells decided m s later took (pins m s.has) (λ t. stays (subst IsTrue (sym synced.telling) (tells t))) (λ t. ready (subst IsTrue (sym synced.telling) (tells t))))
      (λ told m s are. whole_after told m s later took.infos are)

  pub did_compact_fail : (later : CoreState) → ((m : Machine) → HasState old.state m → HasState later (broken (g.faults disk) m)) → later.infos.items ≡ old.state.infos.items → later.read_only ≡ Some (g.faults disk)
      → unsure_of later ≡ unsure_of old.state → IsErr result → Did g old (CommitCompact number info.rows) (Refused Fault) (record old { disk = disk; state = later })
  did_compact_fail later has infos_same read_only unsure err =
      did_commit_fail g only_now old mid disk (CommitCompact number info.rows) (compact_commits number info.rows) file slot list c.writes result synced ran lists later has infos_same read_only unsure err
