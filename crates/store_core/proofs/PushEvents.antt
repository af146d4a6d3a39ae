-- A push as an event of a core, by its outcomes.
use Rattle.std.proofs.Common.{◌≡◌, ◌≢◌, inl, inr, ℕ, ◌+◌, ◌<◌, List, [], ◌∷◌, ◌++◌, length, Some, None, Option, IsTrue, refl, sym, ◌∙◌, ap, subst, Result, IsOk, IsErr}
use Rattle.span_types.specs.declared.errors.Failed.{Failed}
use Rattle.span_types.specs.declared.spans.Span.{Span}
use Rattle.disk_model.specs.Calls.{Calls}
use Rattle.disk_model.specs.Images.{Image, bytes_of, Besides}
use Rattle.disk_model.specs.Crash.{OnlyBytes, RunInFile, LeavesOnly}
use Rattle.disk_model.specs.declared.disk.Device.{Ghosts}
use Rattle.disk_model.proofs.Moments.{widened}
use Rattle.head_log.specs.declared.segment.Segment.{Segment}
use Rattle.head_log.specs.Stands.{SegmentHolds, SegmentKeepsEither}
use Rattle.live_traces.specs.Parts.{LiveParts}
use Rattle.live_traces.specs.Rows.{ChunkParts}
use Rattle.store_entries.specs.declared.entry.Entry.{Entry}
use Rattle.store_model.specs.History.{History, batch_rows, count_of, pushed, push_of}
use Rattle.store_model.specs.After.{arrived}
use Rattle.store_model.specs.Event.{Reply, Refusal}
use Rattle.store_model.specs.Event.Event.{Push}
use Rattle.store_model.specs.Event.Reply.{Count, Refused}
use Rattle.store_model.specs.Event.Refusal.{Fault, Memory}
use Rattle.store_model.specs.Step.{Machine, early, broken}
use Rattle.store_model.specs.Step.Step.{Sure, Lacks, Breaks}
use Rattle.store_images.specs.Stored.{MayStandFor, IsTidy}
use Rattle.store_images.specs.Settled.{Tail, IsSettled}
use Rattle.store_images.proofs.Storing.{only_tail, settled_after}
use Rattle.store_core.specs.declared.store.Core.{Core}
use Rattle.store_core.specs.Cores.{HasState, unsure_of}
use Rattle.store_files.specs.LogReading.{tail_of}
use Rattle.store_core.proofs.Counted.{calls_fine, calls_fault, calls_rose, calls_exact, calls_most, calls_unread}
use Rattle.store_core.proofs.ListedBlocks.{whole_kept}
use Rattle.store_core.proofs.Now.{StandsNow, did_since}
use Rattle.store_state.specs.Calls.{MadeCalls}
use Rattle.store_core.specs.Events.{Did, Between, unsure_after, end_of}
use Rattle.store_core.proofs.Logged.{logged_push}
use Rattle.store_core.proofs.Quiet.{quiet, none_begun}
use Rattle.store_core.proofs.States.{SameParts, stands_lacking, after_pushed, step_pushed, has_pushed, stands_pushed, stands_broken}
use Rattle.store_core.proofs.Pushing.{pushing, tidy_push, held_stays, kept_stays, blocks_stay, fresh_push}

why_of : Reply → Refusal
why_of (Refused why) = why
why_of _ = Memory

pub refused_is : (a b : Refusal) → Refused a ≡ Refused b → a ≡ b
unfolding why_of
refused_is a b is = ap why_of is

refused_calls : (spans : List Span) (moment : ℕ) (why : Refusal) → why ≢ Fault → (n : ℕ) → MadeCalls (Push spans moment) (Refused why) n n
refused_calls spans moment Fault no_fault n = absurd (no_fault refl)
refused_calls spans moment _ no_fault n = refl

-- the device keeps the law that since a moment there is no other
abbrev pub OnlyNow : {D : Type 0} → Ghosts D → Type 0
OnlyNow {D} g = (disk : D) (image : Image) → g.left_since disk (g.moment disk) image → g.may_leave disk image

-- ---- nothing was written

pub did_refused : {D : Type 0} (g : Ghosts D) (only_now : OnlyNow g) (old : Core D) (spans : List Span) (moment : ℕ) (why : Refusal)
    → ((m : Machine) → HasState old.state m → early m (Push spans moment) ≡ Some (Refused why)) → why ≢ Fault
    → Did g old (Push spans moment) (Refused why) (record old { state = old.state })
did_refused g only_now old spans moment why is no_fault =
    quiet g only_now old old.state refl (Push spans moment) (Refused why) (λ file bytes. refl) (λ e. no_fault (refused_is why Fault e)) (refused_calls spans moment why no_fault) refl refl (λ shows. tt) (λ told m s. tt)
    (λ told m stands. (m, stands, refl, Sure (is m stands.has) refl))

pub did_lacking : {D : Type 0} (g : Ghosts D) (only_now : OnlyNow g) (old : Core D) (live : LiveParts) (spans : List Span) (moment : ℕ)
    → SameParts old.state.live live → ((m : Machine) → HasState old.state m → early m (Push spans moment) ≡ None)
    → Did g old (Push spans moment) (Refused Memory) (record old { state = record old.state { live = live } })
did_lacking {D} g only_now old live spans moment same free =
    quiet g only_now old (record old.state { live = live }) refl (Push spans moment) (Refused Memory) (λ file bytes. refl) (λ e. let bad = refused_is Memory Fault e in cc) (λ n. refl) refl refl (λ shows. tt) (λ told m s. tt)
    (λ told m stands. (m, stands_lacking told (g.held old.disk) (g.may_leave old.disk) old.state live m same stands, refl, Lacks (free m stands.has) refl refl refl))

-- ---- a record was added, or it may have been

abbrev tail_at : ℕ → ℕ → ℕ → ℕ → Tail
tail_at file first count gate = record { file = file; first = first; count = count; gate = gate }

same_tail : (file first count gate file' first' count' : ℕ) → file' ≡ file → first' ≡ first → count' ≡ count
    → record { file = file'; first = first'; count = count'; gate = gate } ≡ tail_at file first count gate
same_tail file first count gate file' first' count' a b c =
    ap (λ (n : ℕ). record { file = n; first = first'; count = count'; gate = gate }) a
    ∙ ap (λ (n : ℕ). record { file = file; first = n; count = count'; gate = gate }) b
    ∙ ap (λ (n : ℕ). record { file = file; first = first; count = n; gate = gate }) c

-- what `append` tells of the tail's file, whatever batches it stands for
pub record Appending {D : Type 0} (g : Ghosts D) (old new : D) (seg : Segment) (spans : List Span) : Type 0 where
  pub any_moment : (batches : List (List Span)) → OnlyBytes seg.file (bytes_of (g.held old) seg.file) (g.may_leave old)
      → SegmentHolds seg.first batches seg.gate (bytes_of (g.held old) seg.file) → length batches ≡ seg.count
      → RunInFile g.moment g.left_since g.may_leave seg.file (SegmentKeepsEither seg.first batches spans) (SegmentKeepsEither seg.first batches spans) old new
  pub besides : Besides seg.file (g.held old) (g.held new)

module _ {D : Type 0} (g : Ghosts D) (old : Core D) (disk : D) (spans : List Span) (moment : ℕ)
    (free : (m : Machine) → HasState old.state m → early m (Push spans moment) ≡ None) (writes : old.state.read_only ≡ None)
    (result : Result (Unit {0}) Failed) (made : Calls g 4 (end_of old.state (Push spans moment)) old.disk disk result)
    (appends : IsTrue (g.tells old.disk) → Appending g old.disk disk old.state.segment spans) where
  telling : g.tells disk ≡ g.tells old.disk
  telling = made.telling

  settled_in : IsTrue (g.tells old.disk) → (m : Machine) → StandsNow g old m → IsSettled (g.held old.disk) (g.may_leave old.disk) old.state.list m.state.blocks (tail_of old.state.segment) m.history
  settled_in told m stands = stands.settled told writes

  run_in : (told : IsTrue (g.tells old.disk)) (m : Machine) (stands : StandsNow g old m)
      → RunInFile g.moment g.left_since g.may_leave old.state.segment.file (SegmentKeepsEither old.state.segment.first (settled_in told m stands).mine spans) (SegmentKeepsEither old.state.segment.first (settled_in told m stands).mine spans) old.disk disk
  run_in told m stands =
      let s = settled_in told m stands in
      (appends told).any_moment s.mine (only_tail (g.held old.disk) (g.may_leave old.disk) old.state.list m.state.blocks (tail_of old.state.segment) m.history s) s.written.current s.written.counted

  both_in : (told : IsTrue (g.tells old.disk)) (m : Machine) (stands : StandsNow g old m)
      → LeavesOnly g.moment g.left_since old.disk disk (MayStandFor m.history (Some (push_of spans))) × ((image : Image) → g.may_leave disk image → MayStandFor m.history (Some (push_of spans)) image)
  both_in told m stands =
      pushing g.moment g.left_since g.may_leave (g.held old.disk) old.state.list m.state.blocks (tail_of old.state.segment) m.history old.disk disk (settled_in told m stands) spans (run_in told m stands)

  -- where the new core may stand for the history, or for it and the batch
  images_in : (told : IsTrue (g.tells old.disk)) (m : Machine) → StandsNow g old m → (after : History) (later_unsure : Option Entry)
      → ((image : Image) → MayStandFor m.history (Some (push_of spans)) image → Between m.history (unsure_of old.state) after later_unsure image)
      → LeavesOnly g.moment g.left_since old.disk disk (Between m.history (unsure_of old.state) after later_unsure)
  images_in told m stands after later_unsure between =
      widened g.moment g.left_since old.disk disk (MayStandFor m.history (Some (push_of spans))) (Between m.history (unsure_of old.state) after later_unsure) (both_in told m stands).0 between

  tidy_in : IsTrue (g.tells old.disk) → (m : Machine) → StandsNow g old m → ((image : Image) → g.may_leave old.disk image → IsTidy image) → LeavesOnly g.moment g.left_since old.disk disk IsTidy
  tidy_in told m stands tidy =
      tidy_push g.moment g.left_since g.may_leave (g.held old.disk) old.state.list m.state.blocks (tail_of old.state.segment) m.history old.disk disk (settled_in told m stands) _ _ (run_in told m stands) tidy

  pushed_between : (h : History) (unsure : Option Entry) (image : Image) → unsure ≡ None → MayStandFor h (Some (push_of spans)) image → Between h unsure (pushed h spans) unsure image
  pushed_between h unsure image none either = elim either [
    | inl before ↦ inl (subst (λ (u : Option Entry). MayStandFor h u image) (sym none) before)
    | inr more ↦ inr (subst (λ (u : Option Entry). MayStandFor (pushed h spans) u image) (sym none) more)
  ]

  pub did_pushed : IsOk result → (live : LiveParts) (segment : Segment) (number : ℕ)
      → ((m : Machine) → HasState old.state m → number ≡ count_of m.history) → number < 4294967295 → number ≡ old.state.segment.first + old.state.segment.count
      → live.live ≡ old.state.live.live ++ arrived moment (batch_rows number spans) → live.head ≡ old.state.live.head → live.flushing ≡ old.state.live.flushing
      → segment.file ≡ old.state.segment.file → segment.first ≡ old.state.segment.first → segment.count ≡ old.state.segment.count + 1
      → (IsTrue (g.tells old.disk) → g.may_leave old.disk (g.held old.disk))
      → (IsTrue (g.tells old.disk) → (batches : List (List Span)) → OnlyBytes old.state.segment.file (bytes_of (g.held old.disk) old.state.segment.file) (g.may_leave old.disk)
      → SegmentHolds old.state.segment.first batches old.state.segment.gate (bytes_of (g.held old.disk) old.state.segment.file) → length batches ≡ old.state.segment.count
      → SegmentHolds old.state.segment.first (batches ++ spans ∷ []) segment.gate (bytes_of (g.held disk) old.state.segment.file)
      × OnlyBytes old.state.segment.file (bytes_of (g.held disk) old.state.segment.file) (g.may_leave disk))
      → Did g old (Push spans moment) (Count number) (record old { disk = disk; state = record old.state { live = live; segment = segment } })
  did_pushed fine live segment number length_is below is added head flushing file first count stays acknowledged = did_since g old _ _ _ refl (λ m s fits. fits) refl (record {
    stepped = λ m stands.
        let taken = step_pushed (g.faults old.disk) (g.faults disk) m spans moment number (length_is m stands.has) (free m stands.has) in
        let has = has_pushed old.state live segment m spans moment number stands.has added head flushing is below file first count in
        record {
          machine = after_pushed spans moment m;
          stands = stands_pushed (IsTrue (g.tells old.disk)) (IsTrue (g.tells disk)) (g.held old.disk) (g.held disk) (g.may_leave old.disk) (g.may_leave disk) old.state live segment m spans moment number
              (g.faults old.disk) (g.faults disk) stands (λ t. subst IsTrue telling t) writes taken has
              (λ told s. subst (λ (t : Tail). IsSettled (g.held disk) (g.may_leave disk) old.state.list m.state.blocks t (pushed m.history spans))
              (sym (same_tail old.state.segment.file old.state.segment.first (old.state.segment.count + 1) segment.gate segment.file segment.first segment.count file first count))
              (let only = only_tail (g.held old.disk) (g.may_leave old.disk) old.state.list m.state.blocks (tail_of old.state.segment) m.history s in
              let run = (appends told).any_moment s.mine only s.written.current s.written.counted in
              let done = acknowledged told s.mine only s.written.current s.written.counted in
              settled_after (g.held old.disk) (g.may_leave old.disk) old.state.list m.state.blocks (tail_of old.state.segment) m.history s spans (g.held disk) (g.may_leave disk) segment.gate _ (appends told).besides run.now (stays told) done.0 done.1))
              (λ told. blocks_stay old.state m (IsTrue (g.tells old.disk)) (g.held old.disk) (g.held disk) (g.may_leave old.disk) told writes stands (appends told).besides)
              (λ told. fresh_push old.state m (g.held old.disk) (g.held disk) (g.may_leave old.disk) (g.may_leave disk) _ stands.has stands.sound (appends told).besides (run_in told m stands).now (stands.fresh told writes))
              (λ told s. let only = only_tail (g.held old.disk) (g.may_leave old.disk) old.state.list m.state.blocks (tail_of old.state.segment) m.history s in
              let done = acknowledged told s.mine only s.written.current s.written.counted in
              logged_push (g.held old.disk) (g.may_leave old.disk) old.state.list m.state.blocks (tail_of old.state.segment) m.history s (g.held disk) spans segment.gate (appends told).besides done.0 m.state moment);
          step = taken;
          images = λ told. images_in told m stands (pushed m.history spans) (unsure_of old.state) (λ image either. pushed_between m.history (unsure_of old.state) image (stands.sure writes) either);
          unsure = refl;
          ended = inl (stands.sure writes);
        };
    shown = λ m shows.
        let taken = step_pushed (g.faults old.disk) (g.faults disk) m spans moment number (length_is m shows.has) (free m shows.has) in
        let has = has_pushed old.state live segment m spans moment number shows.has added head flushing is below file first count in (
          after_pushed spans moment m,
          stands_pushed ⊥ ⊥ (g.held old.disk) (g.held disk) (g.may_leave old.disk) (g.may_leave disk) old.state live segment m spans moment number
              (g.faults old.disk) (g.faults disk) shows (λ bad. bad) writes taken has (λ bad. absurd bad) (λ bad. absurd bad) (λ bad. absurd bad) (λ bad. absurd bad),
          taken,
        );
    tidy = tidy_in;
    files = λ told m stands hold is_open stays' f among. held_stays old.state m (g.held old.disk) (g.held disk) stands.has stands.sound (appends told).besides hold is_open f among;
    kept = λ told m s f is. kept_stays old.state m (g.held old.disk) (g.held disk) s.has s.sound (appends told).besides f is;
    whole = λ told m s are. whole_kept (g.held old.disk) (g.held disk) old.state m s.has (λ f is. kept_stays old.state m (g.held old.disk) (g.held disk) s.has s.sound (appends told).besides f is) are;
    empty = λ told f among. none_begun (Count number) f _ refl among;
    page = λ told. tt;
    look = λ told m stands. tt;
    counts = calls_fine g old.disk disk 4 (end_of old.state (Push spans moment)) (end_of old.state (Push spans moment)) (λ low. low) result made fine (Count number) (λ fault. let bad : Count number ≡ Refused Fault = fault in absurd cc);
    calls = calls_exact g old.disk disk 4 (end_of old.state (Push spans moment)) (end_of old.state (Push spans moment)) (λ low. low) result made fine;
    reads = calls_unread g old.disk disk 4 (end_of old.state (Push spans moment)) (end_of old.state (Push spans moment)) (λ low. low) result made;
  })

  broken_at : (live : LiveParts) (segment : Segment) (ready : ChunkParts) → SameParts old.state.live live → segment ≡ old.state.segment → ready.spans ≡ spans
      → IsErr result
      → Did g old (Push spans moment) (Refused Fault) (record old { disk = disk; state = record old.state { live = live; segment = segment; read_only = Some (g.faults disk); unsure = Some ready } })
  broken_at live segment ready same still its err = let rose = calls_rose g old.disk disk 4 (end_of old.state (Push spans moment)) (end_of old.state (Push spans moment)) (λ low. low) result made err in did_since g old _ _ _ refl (λ m s fits. fits) refl (record {
    stepped = λ m stands. record {
      machine = broken (g.faults disk) m;
      stands = stands_broken (IsTrue (g.tells old.disk)) (IsTrue (g.tells disk)) (g.held old.disk) (g.held disk) (g.may_leave old.disk) (g.may_leave disk) old.state live segment ready (g.faults disk) m same still stands
          (λ t. subst IsTrue telling t)
          (λ told image left. subst (λ (s : List Span). MayStandFor m.history (Some (push_of s)) image) (sym its) ((both_in told m stands).1 image left))
          (λ told. blocks_stay old.state m (IsTrue (g.tells old.disk)) (g.held old.disk) (g.held disk) (g.may_leave old.disk) told writes stands (appends told).besides);
      step = Breaks (free m stands.has) refl refl rose refl;
      images = λ told. images_in told m stands m.history (Some (push_of ready.spans)) (λ image either. inr (subst (λ (s : List Span). MayStandFor m.history (Some (push_of s)) image) (sym its) either));
      unsure = ap (λ (s : List Span). Some (push_of s)) its ∙ ap (unsure_after (Push spans moment) (Refused Fault)) (sym (stands.sure writes));
      ended = inl (stands.sure writes);
    };
    shown = λ m shows. (
      broken (g.faults disk) m,
      stands_broken ⊥ ⊥ (g.held old.disk) (g.held disk) (g.may_leave old.disk) (g.may_leave disk) old.state live segment ready (g.faults disk) m same still shows
          (λ bad. bad) (λ bad. absurd bad) (λ bad. absurd bad),
      Breaks (free m shows.has) refl refl rose refl,
    );
    tidy = tidy_in;
    files = λ told m stands hold is_open stays f among. held_stays old.state m (g.held old.disk) (g.held disk) stands.has stands.sound (appends told).besides hold is_open f among;
    kept = λ told m s f is. kept_stays old.state m (g.held old.disk) (g.held disk) s.has s.sound (appends told).besides f is;
    whole = λ told m s are. whole_kept (g.held old.disk) (g.held disk) old.state m s.has (λ f is. kept_stays old.state m (g.held old.disk) (g.held disk) s.has s.sound (appends told).besides f is) are;
    empty = λ told f among. none_begun (Refused Fault) f _ refl among;
    page = λ told. tt;
    look = λ told m stands. tt;
    counts = calls_fault g old.disk disk 4 (end_of old.state (Push spans moment)) (end_of old.state (Push spans moment)) (λ low. low) result made err;
    calls = calls_most g old.disk disk 4 (end_of old.state (Push spans moment)) (end_of old.state (Push spans moment)) (λ low. low) result made;
    reads = calls_unread g old.disk disk 4 (end_of old.state (Push spans moment)) (end_of old.state (Push spans moment)) (λ low. low) result made;
  })

  pub did_broken : (live : LiveParts) (segment : Segment) (ready : ChunkParts) (faults : ℕ) → faults ≡ g.faults disk → SameParts old.state.live live → segment ≡ old.state.segment → ready.spans ≡ spans
      → IsErr result
      → Did g old (Push spans moment) (Refused Fault) (record old { disk = disk; state = record old.state { live = live; segment = segment; read_only = Some faults; unsure = Some ready } })
  did_broken live segment ready faults counted same still its err =
      subst (λ (n : ℕ). Did g old (Push spans moment) (Refused Fault) (record old { disk = disk; state = record old.state { live = live; segment = segment; read_only = Some n; unsure = Some ready } })) (sym counted)
      (broken_at live segment ready same still its err)
