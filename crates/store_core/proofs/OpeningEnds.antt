-- How an opening ends.
use Rattle.std.proofs.Common.{◌≡◌, ℕ, ◌+◌, ◌≤◌, Bool, true, false, IsTrue, List, [], length, map, Some, None, Option, Result, Ok, Err, IfOk, IfErr, IfSome, refl, sym, ◌∙◌, ap, subst, arith}
use Rattle.std.specs.List.{Contains}
use Rattle.std.specs.Prelude.{replicate}
use Rattle.span_types.specs.declared.spans.Span.{Span}
use Rattle.span_types.specs.First.{IsFirstOf}
use Rattle.disk_model.specs.Images.{Image, bytes_of}
use Rattle.disk_model.specs.Crash.{LeavesOnly, Reached, Run}
use Rattle.disk_model.specs.declared.disk.Device.{Ghosts}
use Rattle.disk_model.proofs.Runs.{run_more, run_on}
use Rattle.disk_model.proofs.Moments.{widened}
use Rattle.block_list.specs.Body.{MeetsRules}
use Rattle.block_list.specs.Slots.{ImageHoldsList}
use Rattle.block_list.specs.Loading.{KeepsList, IsReady}
use Rattle.block_list.proofs.SlotLemmas.{same_some}
use Rattle.block_list.specs.declared.body.BlockRef.{BlockRef}
use Rattle.block_list.specs.declared.body.SegmentRef.{SegmentRef}
use Rattle.block_list.specs.declared.body.ListBody.{ListBody}
use Rattle.store_images.proofs.Kept.{stands_with}
use Rattle.store_model.specs.History.{History, count_of}
use Rattle.store_model.specs.State.{Block}
use Rattle.store_model.specs.Step.{Machine}
use Rattle.store_images.specs.Log.{LogHolds}
use Rattle.store_images.specs.Stored.{BlocksStand, ImageStandsFor, IsSoundImage, KeepsStored, first_number, ref_of}
use Rattle.store_images.specs.Stored.ImageStores.{vacant}
use Rattle.store_images.specs.Settled.{IsSettled}
use Rattle.store_images.proofs.Lists.{in_map}
use Rattle.store_images.proofs.Logs.{log_same}
use Rattle.store_images.proofs.Keeping.{blocks_same, one_list, loaded, keeps_then}
use Rattle.store_core.specs.declared.state.CoreState.{CoreState}
use Rattle.store_core.specs.declared.store.Core.{Core}
use Rattle.store_files.specs.BlockReading.{BlocksRead, listed_as}
use Rattle.store_core.specs.Cores.{ListsBlocks, StandsFor, CoreStandsFor}
use Rattle.store_files.specs.Described.{AreDescribed}
use Rattle.store_files.specs.LogReading.{tail_of, LogRead}
use Rattle.store_core.specs.New.{IsEmptyHistory, StoresNothing}
use Rattle.store_core.specs.NewCore.{new_machine}
use Rattle.store_core.specs.Opening.{opened_state, BeginsAs, BeginsEmpty, Opened, OpensAs, OpensOver, IsOpenedState}
use Rattle.store_files.specs.Loose.{KeepsDisk}
use Rattle.store_core.proofs.Frames.{empty_fit}
use Rattle.store_core.proofs.Now.{StandsNow, stands_now}
use Rattle.store_core.proofs.Founding.{empty_history, nothing_keeps}
use Rattle.store_core.proofs.NewCores.{no_history, no_history_is_empty}
use Rattle.store_files.proofs.LogLaws.{one_log}
use Rattle.store_files.proofs.LogSteps.{read_whole}
use Rattle.store_core.proofs.Described.{described_same, none_described}
use Rattle.store_core.proofs.ListedBlocks.{whole_listed}
use Rattle.store_files.proofs.LooseFiles.{block_used, stands_moved, used_low}
use Rattle.store_files.proofs.ReadBlocks.{BlocksFound, block_in_list, blocks_found, one_blocks, same_block_files, told_refs, told_rows}
use Rattle.store_state.specs.Shown.{told_block}
use Rattle.store_core.proofs.OpenedStates.{opened_machine, opened_stands, base_of, low_floor, agrees_base, agrees_kept, agrees_stored, base_once}
use Rattle.store_core.proofs.OpeningSteps.{IsFound, found, segment_low}

-- the same, where the disk may tell less
pub tells_less : (told told' : Type 0) (held : Image) (may_leave : Image → Type 0) (core : CoreState) (m : Machine) → (told' → told) → StandsFor told held may_leave core m → StandsFor told' held may_leave core m
tells_less told told' held may_leave core m known s = record {
  has = s.has;
  agrees = s.agrees;
  sound = s.sound;
  above = s.above;
  built = λ t. s.built (known t);
  now = λ t image left. s.now (known t) image left;
  settled = λ t writes. s.settled (known t) writes;
  sure = s.sure;
  fresh = λ t writes. s.fresh (known t) writes;
  logged = λ t writes. s.logged (known t) writes;
}

new_is_empty : (h : History) → BeginsEmpty (new_machine h)
new_is_empty h = record { writes = refl; head = refl; flush = refl; compaction = refl; begun = refl; loose = refl; pins = refl }

opened_is_empty : (list : ListBody) (blocks : List Block) (batches : List (List Span)) (moment : ℕ) (h : History) → BeginsEmpty (opened_machine list blocks batches moment h)
opened_is_empty list blocks batches moment h = record { writes = refl; head = refl; flush = refl; compaction = refl; begun = refl; loose = refl; pins = refl }

none_once : IsFirstOf [] []
none_once = record {
  only = λ k d h. absurd (omega (arith, h));
  whole = λ k r h. let bad : None ≡ Some r = h in cc;
  ordered = λ n d h. absurd (omega (arith, h));
}

module _ {D : Type 0} (g : Ghosts D) where
  -- the list was loaded
  pub kept_loaded : (old mid : D) → (IsTrue (g.tells old) → Run KeepsList g.moment g.left_since g.may_leave old mid) → KeepsDisk g old mid
  kept_loaded old mid run = λ told. run_more g.moment g.left_since g.may_leave KeepsList KeepsStored old mid (run told) (λ origin image possible keeps. loaded origin image keeps)

  pub kept_then : (old mid new : D) → g.tells mid ≡ g.tells old → KeepsDisk g old mid → KeepsDisk g mid new → KeepsDisk g old new
  kept_then old mid new telling first second = λ told.
      run_on g.moment g.left_since g.may_leave KeepsStored old mid new keeps_then (first told) (second (subst IsTrue (sym telling) told))

  -- a new store was made
  module _ (counts_now : (disk : D) (start : ℕ) (image : Image) → start ≤ g.moment disk → g.may_leave disk image → g.left_since disk start image)
      (held_may_stay : (disk : D) → IsTrue (g.tells disk) → g.may_leave disk (g.held disk)) where
    pub kept_new : (mid new : D) → (IsTrue (g.tells mid) → IsReady (g.held mid) (g.may_leave mid) None) → (IsTrue (g.tells mid) → LeavesOnly g.moment g.left_since mid new StoresNothing) → KeepsDisk g mid new
    kept_new mid new ready run = λ told.
        let back : (image : Image) → StoresNothing image → Reached KeepsStored (g.may_leave mid) image =
        λ image nothing. (g.held mid, held_may_stay mid told, nothing_keeps (g.held mid) image (ready told).stands nothing) in
        let all = run told in
        record {
          since = widened g.moment g.left_since mid new StoresNothing (Reached KeepsStored (g.may_leave mid)) all back;
          now = λ image left. back image (all.each image (counts_now new (g.moment mid) image all.later left));
        }

  pub opened_new : (disk : D) (moment : ℕ) (core : Core D) → (IsTrue (g.tells disk) → ImageHoldsList (g.held disk) None) → ((h : History) → IsEmptyHistory h → CoreStandsFor g core (new_machine h))
      → core.cache ≡ replicate 256 None → Opened g disk moment core
  opened_new disk moment core none stands empty = record {
    stands = λ told h s. (
      new_machine h,
      stands h (empty_history (g.held disk) h (none told) s),
      refl,
      begins_new told h,
    );
    founded = λ sound. (
      new_machine no_history,
      record {
        over = new_over;
        stands = stands no_history no_history_is_empty;
        stored = λ told. (
          record { rows = []; stores = vacant (none told) refl refl; agrees = no_history_is_empty.no_rows },
          begins_new told no_history,
        );
      },
    );
    begins = (new_machine no_history, new_over);
  }
    where
      begins_new : IsTrue (g.tells disk) → (h : History) → BeginsAs (g.held disk) moment (new_machine h)
      begins_new told h = record {
        new = λ vacant. refl;
        found = λ list blocks batches there its stand logged. absurd (let bad : None ≡ Some list = one_list (g.held disk) None (Some list) (none told) there in cc);
        writes = refl;
      }

      new_over : OpensOver g core (new_machine no_history)
      new_over = record {
        shows = record {
          state = tells_less _ ⊥ (g.held core.disk) (g.may_leave core.disk) core.state (new_machine no_history) (λ bad. absurd bad) (stands no_history no_history_is_empty).stands;
          whole = λ told. ([], none_described (g.held core.disk) core.state.infos.items (stands no_history no_history_is_empty).stands.has.infos);
          frames = empty_fit (IsTrue (g.tells core.disk)) (g.held core.disk) (new_machine no_history).state core.cache empty;
        };
        empty = new_is_empty no_history;
        base_alone = refl;
        once = none_once;
      }

  -- a store was read: `mid` is the disk once its list was loaded
  module _ (disk mid : D) (moment : ℕ) (core : Core D) (list : ListBody) (rules : MeetsRules list) (batches : List (List Span))
      (telling : g.tells mid ≡ g.tells disk) (telling_core : g.tells core.disk ≡ g.tells disk)
      (there : IsTrue (g.tells disk) → ImageHoldsList (g.held disk) (Some list)) (there_mid : IsTrue (g.tells disk) → ImageHoldsList (g.held mid) (Some list))
      (same : IsTrue (g.tells disk) → (file : ℕ) → 2 ≤ file → bytes_of (g.held mid) file ≡ bytes_of (g.held disk) file)
      (state : IsOpenedState list batches moment core.state)
      (read : LogRead (IsTrue (g.tells mid)) (g.held mid) list.segments (first_number list) batches (tail_of core.state.segment))
      (built : BlocksRead (IsTrue (g.tells mid)) (g.held mid) list.blocks core.state.infos.items)
      (still : IsTrue (g.tells mid) → (x : SegmentRef) → Contains list.segments x → bytes_of (g.held core.disk) x.file ≡ bytes_of (g.held mid) x.file)
      (blocks_still : IsTrue (g.tells mid) → (x : BlockRef) → Contains list.blocks x → bytes_of (g.held core.disk) x.file ≡ bytes_of (g.held mid) x.file)
      (settled : IsTrue (g.tells mid) → (blocks : List Block) → list.blocks ≡ map ref_of blocks → BlocksStand (g.held mid) blocks → (h : History) → ImageStandsFor (g.held mid) h
      → IsSettled (g.held core.disk) (g.may_leave core.disk) core.state.list blocks (tail_of core.state.segment) h)
      (only_now : (disk : D) (image : Image) → g.left_since disk (g.moment disk) image → g.may_leave disk image) (ends : core.since.moment ≡ g.moment core.disk) (empty : core.cache ≡ replicate 256 None) where
    told_mid : IsTrue (g.tells disk) → IsTrue (g.tells mid)
    told_mid told = subst IsTrue (sym telling) told

    -- what the log stands for in the bytes that were handed in
    pub logged_before : IsTrue (g.tells disk) → LogHolds (g.held disk) list.segments (first_number list) batches
    logged_before told = log_same (g.held mid) (g.held disk) list.segments (first_number list) batches (λ x c. sym (same told x.file (segment_low list rules x c)))
        (read_whole (IsTrue (g.tells mid)) (g.held mid) list.segments (first_number list) batches (tail_of core.state.segment) read (told_mid told))

    -- the core's disk holds the same in the segments
    logged_after : IsTrue (g.tells mid) → LogHolds (g.held core.disk) list.segments (first_number list) batches
    logged_after told = log_same (g.held mid) (g.held core.disk) list.segments (first_number list) batches (still told)
        (read_whole (IsTrue (g.tells mid)) (g.held mid) list.segments (first_number list) batches (tail_of core.state.segment) read told)

    stands_mid : IsTrue (g.tells disk) → (h : History) → ImageStandsFor (g.held disk) h → ImageStandsFor (g.held mid) h
    stands_mid told h s = stands_moved (g.held disk) (g.held mid) list list.generation list.next_file list.loose (λ file used. same told file (used_low list rules file used)) (there_mid told) (there told) h s

    -- ---- the blocks

    there_blocks : IsTrue (g.tells disk) → BlocksFound (g.held mid) list.blocks core.state.infos.items
    there_blocks told = blocks_found (IsTrue (g.tells mid)) (g.held mid) list.blocks core.state.infos.items built (told_mid told)

    blocks_before : (told : IsTrue (g.tells disk)) → BlocksStand (g.held disk) (there_blocks told).blocks
    blocks_before told =
        let f = there_blocks told in
        blocks_same (g.held mid) (g.held disk) f.blocks (λ x c. sym (same told x.file (used_low list rules x.file (block_used list f.blocks x f.its c)))) f.stand

    blocks_now : (told : IsTrue (g.tells disk)) → AreDescribed (g.held core.disk) core.state.infos.items (there_blocks told).blocks
    blocks_now told =
        let f = there_blocks told in
        described_same (g.held mid) (g.held core.disk) core.state.infos.items f.blocks (same_block_files core.state.infos.items list.blocks f.blocks state.infos f.its)
        (λ x c. blocks_still (told_mid told) (ref_of x) (block_in_list list.blocks f.blocks x f.its c)) f.described

    -- ---- a history that the bytes stand for

    begins : (told : IsTrue (g.tells disk)) (h : History) → BeginsAs (g.held disk) moment (opened_machine list (there_blocks told).blocks batches moment h)
    begins told h = record {
      new = λ vacant. absurd (let bad : None ≡ Some list = one_list (g.held disk) None (Some list) vacant (there told) in cc);
      found = λ other others all named its stand logged.
          let f = there_blocks told in
          let e : list ≡ other = same_some list other (one_list (g.held disk) (Some list) (Some other) (there told) named) in
          let mine : LogHolds (g.held disk) other.segments (first_number other) batches = subst (λ (o : ListBody). LogHolds (g.held disk) o.segments (first_number o) batches) e (logged_before told) in
          let b : f.blocks ≡ others = one_blocks (g.held disk) f.blocks others (sym f.its ∙ ap (λ (o : ListBody). o.blocks) e ∙ its) (blocks_before told) stand in
          ap (λ (o : ListBody). opened_state o f.blocks batches moment) e ∙ ap (λ (l : List Block). opened_state other l batches moment) b
          ∙ ap (λ (l : List (List Span)). opened_state other others l moment) (one_log (g.held disk) other.segments (first_number other) batches all mine logged);
      writes = refl;
    }

    its_history : (told : IsTrue (g.tells disk)) (h : History) → ImageStandsFor (g.held disk) h → IsFound (g.held disk) list (there_blocks told).blocks batches h
    its_history told h s =
        let f = there_blocks told in
        found (g.held disk) list f.blocks batches h f.its (there told) (blocks_before told) (logged_before told) s

    stands_for : (told : IsTrue (g.tells disk)) (h : History) → ImageStandsFor (g.held disk) h → StandsNow g core (opened_machine list (there_blocks told).blocks batches moment h)
    stands_for told h s =
        let f = there_blocks told in
        let is : IsFound (g.held disk) list f.blocks batches h = its_history told h s in
        opened_stands (IsTrue (g.tells mid)) (g.held mid) list rules f.blocks f.its batches core.state read moment state h (agrees_kept list rules batches f.blocks h is.agrees is.store.floored) is.counts
        (IsTrue (g.tells core.disk)) (g.held core.disk) (g.may_leave core.disk) (λ t. settled (told_mid told) f.blocks f.its f.stand h (stands_mid told h s)) (λ t. blocks_now told)
        (λ t. logged_after (told_mid told))

    -- ---- the history that is a base alone

    stored_first : (told : IsTrue (g.tells disk)) → IsSoundImage (g.held disk) → ImageStandsFor (g.held disk) (base_of list (there_blocks told).blocks batches)
    stored_first told sound =
        let blocks = (there_blocks told).blocks in
        let is : IsFound (g.held disk) list blocks batches sound.0 = its_history told sound.0 sound.1 in
        stands_with (g.held disk) list blocks batches (base_of list blocks batches) is.store (agrees_stored list blocks batches sound.0 is.agrees is.store.floored is.counts)
        (let count : count_of (base_of list blocks batches) ≡ first_number list + length batches = omega arith in count)

    -- the blocks that were checked are so still
    listed_whole : ListsBlocks g core
    listed_whole = λ told.
        let known : IsTrue (g.tells mid) = told_mid (subst IsTrue telling_core told) in
        whole_listed (g.held mid) (g.held core.disk) list.blocks core.state.infos.items
        (λ x c. subst (λ (refs : List BlockRef). Contains refs (listed_as x)) state.infos (in_map listed_as core.state.infos.items x c))
        (blocks_still known) (built.built known)

    over : (blocks : List Block) → StandsFor ⊥ (g.held core.disk) (g.may_leave core.disk) core.state (opened_machine list blocks batches moment (base_of list blocks batches))
        → OpensOver g core (opened_machine list blocks batches moment (base_of list blocks batches))
    over blocks shows = record {
      shows = record { state = shows; whole = listed_whole; frames = empty_fit (IsTrue (g.tells core.disk)) (g.held core.disk) (opened_state list blocks batches moment) core.cache empty };
      empty = opened_is_empty list blocks batches moment (base_of list blocks batches);
      base_alone = refl;
      once = base_once list blocks batches;
    }

    founded : (told : IsTrue (g.tells disk)) → IsSoundImage (g.held disk)
        → OpensAs g disk moment core (opened_machine list (there_blocks told).blocks batches moment (base_of list (there_blocks told).blocks batches))
    founded told sound =
        let blocks = (there_blocks told).blocks in
        let stored = stored_first told sound in
        let stands = stands_for told (base_of list blocks batches) stored in
        record {
          over = over blocks (tells_less _ ⊥ (g.held core.disk) (g.may_leave core.disk) core.state (opened_machine list blocks batches moment (base_of list blocks batches)) (λ bad. absurd bad) stands);
          stands = stands_now g only_now core (opened_machine list blocks batches moment (base_of list blocks batches)) ends stands;
          stored = λ again. (stored, begins told (base_of list blocks batches));
        }

    -- ---- over whatever bytes

    -- the blocks by their information, of which no row is known
    abbrev unread : List Block
    unread = map told_block core.state.infos.items

    by_memory : (told : Type 0) → (told → ⊥) → StandsFor told (g.held core.disk) (g.may_leave core.disk) core.state (opened_machine list unread batches moment (base_of list unread batches))
    by_memory told never =
        let its : list.blocks ≡ map ref_of unread = sym state.infos ∙ told_refs core.state.infos.items in
        let low = low_floor (IsTrue (g.tells mid)) (g.held mid) list rules unread its batches core.state read in
        opened_stands (IsTrue (g.tells mid)) (g.held mid) list rules unread its batches core.state read moment state (base_of list unread batches)
        (agrees_base list unread batches rules.from_floor low (told_rows core.state.infos.items))
        (let count : count_of (base_of list unread batches) ≡ first_number list + length batches = omega arith in count)
        told (g.held core.disk) (g.may_leave core.disk) (λ t. absurd (never t)) (λ t. absurd (never t)) (λ t. absurd (never t))

    unfounded : (IsTrue (g.tells disk) → ⊥) → OpensAs g disk moment core (opened_machine list unread batches moment (base_of list unread batches))
    unfounded never = record {
      over = over unread (by_memory ⊥ (λ bad. bad));
      stands = stands_now g only_now core (opened_machine list unread batches moment (base_of list unread batches)) ends (by_memory (IsTrue (g.tells core.disk)) (λ t. never (subst IsTrue telling_core t)));
      stored = λ told. absurd (never told);
    }

    pub opened_existing : Opened g disk moment core
    opened_existing = record {
      stands = λ told h s. (
        opened_machine list (there_blocks told).blocks batches moment h,
        stands_now g only_now core (opened_machine list (there_blocks told).blocks batches moment h) ends (stands_for told h s),
        refl,
        begins told h,
      );
      founded = by_telling (g.tells disk) refl;
      begins = (opened_machine list unread batches moment (base_of list unread batches), over unread (by_memory ⊥ (λ bad. bad)));
    }
      where
        by_telling : (t : Bool) → g.tells disk ≡ t → (IsTrue (g.tells disk) → IsSoundImage (g.held disk)) → (m : Machine) × OpensAs g disk moment core m
        by_telling true e sound = let told : IsTrue (g.tells disk) = e in (opened_machine list (there_blocks told).blocks batches moment (base_of list (there_blocks told).blocks batches), founded told (sound told))
        by_telling false e sound = (opened_machine list unread batches moment (base_of list unread batches), unfounded (λ t. let bad : true ≡ false = sym t ∙ e in absurd cc))

-- ---- answers that are handed on

pub if_ok_both : {X E : Type 0} (r : Result X E) (P Q : X → Type 0) → IfOk r P → IfOk r Q → IfOk r (λ x. P x × Q x)
if_ok_both (Ok x) P Q p q = (p, q)
if_ok_both (Err e) P Q p q = tt

pub if_ok_more : {X E : Type 0} (r : Result X E) (P Q : X → Type 0) → ((x : X) → P x → Q x) → IfOk r P → IfOk r Q
if_ok_more (Ok x) P Q more p = more x p
if_ok_more (Err e) P Q more p = tt

pub if_some_more : {X : Type 0} (o : Option X) (P Q : X → Type 0) → ((x : X) → P x → Q x) → IfSome o P → IfSome o Q
if_some_more None P Q more p = tt
if_some_more (Some x) P Q more p = more x p

pub if_err_more : {X E : Type 0} (r : Result X E) (P Q : E → Type 0) → ((e : E) → P e → Q e) → IfErr r P → IfErr r Q
if_err_more (Ok x) P Q more p = tt
if_err_more (Err e) P Q more p = more e p
