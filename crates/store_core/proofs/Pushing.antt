-- What a crash within a push leaves.
use Rattle.std.proofs.Common.{◌≡◌, ◌≢◌, inl, inr, ℕ, ◌≤◌, List, [], ◌∷◌, ◌++◌, Some, None, map, true, sym, ◌∙◌, ap, subst, arith}
use Rattle.std.specs.List.{Contains}
use Rattle.span_types.specs.declared.spans.Span.{Span}
use Rattle.disk_model.specs.Images.{Image, bytes_of, Besides}
use Rattle.disk_model.specs.Crash.{LeavesOnly, RunInFile, ButFor, Within}
use Rattle.disk_model.proofs.Passing.{other_stays_run}
use Rattle.disk_model.proofs.Moments.{widened}
use Rattle.head_log.specs.Stands.{SegmentKeepsEither}
use Rattle.block_list.specs.declared.body.SegmentRef.{SegmentRef}
use Rattle.block_list.specs.declared.body.ListBody.{ListBody}
use Rattle.store_model.specs.History.{History, push_of}
use Rattle.store_model.specs.State.{Block, is_among, block_files, segment_files}
use Rattle.store_model.specs.Sound.{times, StateIsSound}
use Rattle.store_model.specs.Holds.{Hold, OpenIn, files_of}
use Rattle.store_model.specs.Step.{Machine}
use Rattle.store_model.proofs.Numbers.{times_itself}
use Rattle.store_images.specs.Stored.{MayStandFor, IsTidy}
use Rattle.store_images.specs.Settled.{Tail, IsSettled}
use Rattle.store_images.proofs.Lists.{not_in_nil, in_cons}
use Rattle.store_images.proofs.Storing.{settled_either, settled_tidy}
use Rattle.store_core.specs.declared.state.CoreState.{CoreState}
use Rattle.store_core.specs.Cores.{HasState, StandsFor, segment_of}
use Rattle.store_files.specs.Described.{AreDescribed}
use Rattle.store_core.proofs.Described.{described_same}
use Rattle.store_core.specs.Jobs.{HasFreshSegment}
use Rattle.store_core.specs.declared.jobs.OpenFlush.{OpenFlush}
use Rattle.store_core.specs.Frames.{IsKept}
use Rattle.store_core.proofs.HeldFiles.{held_apart}
use Rattle.store_core.proofs.KeptFiles.{kept_apart}
use Rattle.store_core.proofs.OpenJobs.{fresh_moved, segment_of_known}

module _ {D : Type 0} (moment : D → ℕ) (left_since : D → ℕ → Image → Type 0) (may_leave : D → Image → Type 0) (held : Image) (body : ListBody) (blocks : List Block) (tail : Tail) (h : History) (old new : D)
    (s : IsSettled held (may_leave old) body blocks tail h) where
  -- at every moment, and after it
  pub pushing : (spans : List Span)
      → RunInFile moment left_since may_leave tail.file (SegmentKeepsEither tail.first s.mine spans) (SegmentKeepsEither tail.first s.mine spans) old new
      → LeavesOnly moment left_since old new (MayStandFor h (Some (push_of spans))) × ((image : Image) → may_leave new image → MayStandFor h (Some (push_of spans)) image)
  pushing spans run =
      let each = settled_either held (may_leave old) body blocks tail h s spans in
      (widened moment left_since old new _ (MayStandFor h (Some (push_of spans))) run.since each, λ image left. each image (run.now image left))

  pub tidy_push : (P Q : List ℕ → Type 0) → RunInFile moment left_since may_leave tail.file P Q old new → ((image : Image) → may_leave old image → IsTidy image)
      → LeavesOnly moment left_since old new IsTidy
  tidy_push P Q run tidy = widened moment left_since old new _ IsTidy run.since
      (λ image b. settled_tidy held (may_leave old) body blocks tail h s b.origin image b.possible b.besides (tidy b.origin b.possible))

-- what is held open has no segment
named_once : (front : List SegmentRef) (last : SegmentRef) → 1 ≤ times last.file (segment_files (map segment_of (front ++ last ∷ [])))
named_once [] last = omega (arith, times_itself last.file)
named_once (x ∷ front) last = let rest = named_once front last in omega (arith, rest)

pub tail_apart : (core : CoreState) (m : Machine) → HasState core m → (file : ℕ) → times file (segment_files m.state.segments) ≡ 0 → file ≢ core.segment.file
tail_apart core m has file none is =
    let last : SegmentRef = record { file = core.segment.file; first = core.segment.first } in
    let listed : m.state.segments ≡ map segment_of (has.last.0 ++ last ∷ []) = has.segments ∙ ap (map segment_of) has.last.1 in
    let once = named_once has.last.0 last in
    let same : times core.segment.file (segment_files m.state.segments) ≡ times core.segment.file (segment_files (map segment_of (has.last.0 ++ last ∷ []))) = ap (λ l. times core.segment.file (segment_files l)) listed in
    let zero : times core.segment.file (segment_files m.state.segments) ≡ 0 = subst (λ (f : ℕ). times f (segment_files m.state.segments) ≡ 0) is none in
    absurd (omega (arith, once, same, zero))

pub held_stays : (core : CoreState) (m : Machine) (held later : Image) → HasState core m → StateIsSound m.state → Besides core.segment.file held later
    → (hold : Hold) → OpenIn m hold → (file : ℕ) → is_among file (files_of hold) ≡ true → bytes_of later file ≡ bytes_of held file
held_stays core m held later has sound besides hold is_open file among = besides file (tail_apart core m has file (held_apart m hold sound is_open file among))

-- nor has a listed or pinned block
pub kept_stays : (core : CoreState) (m : Machine) (held later : Image) → HasState core m → StateIsSound m.state → Besides core.segment.file held later
    → (file : ℕ) → IsKept file m.state → bytes_of later file ≡ bytes_of held file
kept_stays core m held later has sound besides file kept = besides file (tail_apart core m has file (kept_apart m.state sound file kept))

listed_once : (blocks : List Block) (b : Block) → Contains blocks b → 1 ≤ times b.file (block_files blocks)
listed_once [] b inside = absurd (not_in_nil b inside)
listed_once (x ∷ xs) b inside = elim (in_cons b x xs inside) [
  | inl is ↦ (let one = times_itself b.file in subst (λ (y : Block). 1 ≤ times b.file (y.file ∷ block_files xs)) (sym is) (omega (arith, one)))
  | inr there ↦ (let rest = listed_once xs b there in omega (arith, rest))
]

pub blocks_stay : (core : CoreState) (m : Machine) (told : Type 0) (held later : Image) (may_leave : Image → Type 0) → told → core.read_only ≡ None → StandsFor told held may_leave core m
    → Besides core.segment.file held later → AreDescribed later core.infos.items m.state.blocks
blocks_stay core m told held later may_leave t writes s besides = described_same held later core.infos.items m.state.blocks s.has.infos same (s.built t)
  where
    same : (b : Block) → Contains m.state.blocks b → bytes_of later b.file ≡ bytes_of held b.file
    same b inside =
        let used = listed_once m.state.blocks b inside in
        let once = s.sound.files.once b.file in
        let none : times b.file (segment_files m.state.segments) ≡ 0 = omega (arith, used, once) in
        besides b.file (tail_apart core m s.has b.file none)

-- the new segment of an open flush is another file
pub fresh_push : (core : CoreState) (m : Machine) (held later : Image) (may_leave may_later : Image → Type 0) (P : List ℕ → Type 0) → HasState core m → StateIsSound m.state → Besides core.segment.file held later
    → Within (ButFor core.segment.file P may_leave) may_later → HasFreshSegment held may_leave core.jobs → HasFreshSegment later may_later core.jobs
fresh_push core m held later may_leave may_later P has sound besides within =
    fresh_moved core.jobs.flush held later may_leave may_later (λ mine known. besides mine.files.segment (differs mine known))
    (λ mine known b only. other_stays_run core.segment.file mine.files.segment P b may_leave may_later (differs mine known) only within)
  where
    differs : (mine : OpenFlush) → core.jobs.flush ≡ Some mine → mine.files.segment ≢ core.segment.file
    differs mine known =
        let used = segment_of_known core m mine has known in
        let once = sound.files.once mine.files.segment in
        tail_apart core m has mine.files.segment (omega (arith, used, once))
