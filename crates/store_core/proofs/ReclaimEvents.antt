-- A reclaim as an event of a core.
use Rattle.std.proofs.Common.{◌≡◌, ◌≢◌, inl, inr, ℕ, ◌+◌, ◌*◌, ◌≤◌, ◌==◌, not, filter, if◌then◌else◌, List, [], ◌∷◌, ◌++◌, length, Some, None, Option, IsTrue, Bool, true, false, refl, sym, ◌∙◌, ap, subst, arith, Result, IsOk, IsErr, ◌<◌, ◌^◌}
use Rattle.std.specs.Prelude.{Vec}
use Rattle.std.specs.Vec.{vec_len, vec_capacity}
use Rattle.std.specs.declared.alloc.Global.{Global}
use Rattle.std.specs.List.{Contains}
use Rattle.std.proofs.lemmas.Bool.{cases_lt, eqb-false}
use Rattle.std.proofs.lemmas.List.Elements.{Contains-append_left}
use Rattle.span_types.specs.Faults.{Rose}
use Rattle.span_types.specs.declared.errors.Failed.{Failed}
use Rattle.disk_model.specs.Calls.{Calls}
use Rattle.disk_model.specs.Counts.{RoseBy}
use Rattle.disk_model.specs.Images.{bytes_of}
use Rattle.disk_model.specs.Crash.{Run}
use Rattle.disk_model.specs.declared.disk.Device.{Ghosts}
use Rattle.block_list.specs.Body.{MeetsRules, files_of, successor}
use Rattle.block_list.specs.Loading.{IsReady}
use Rattle.block_list.specs.declared.body.ListBody.{ListBody}
use Rattle.store_model.specs.State.{free_files, is_among, flush_files, pinned_files}
use Rattle.store_model.specs.Event.Event.{Reclaim}
use Rattle.store_model.specs.Event.Reply.{Count, Refused}
use Rattle.store_model.specs.Event.Refusal.{ReadOnly, Fault, Memory}
use Rattle.store_model.specs.Holds.{Hold, OpenIn, files_of as hold_files}
use Rattle.store_model.specs.Sound.{times, StateIsSound}
use Rattle.store_model.specs.Step.{Machine, Step, early, broken, if_read_only, writes as writes_in, with_state}
use Rattle.store_model.specs.Step.Step.{Sure, Succeeds, Lacks, Breaks}
use Rattle.store_model.proofs.Numbers.{same_number}
use Rattle.store_state.specs.Calls.{RoseAtMost, reclaim_calls}
use Rattle.store_images.specs.Stored.{KeepsStored}
use Rattle.store_core.specs.Cores.{HasState, StateShows}
use Rattle.store_files.specs.LogReading.{tail_of}
use Rattle.store_core.specs.Frames.{IsKept}
use Rattle.store_core.proofs.KeptFiles.{kept_high, kept_full}
use Rattle.store_core.proofs.Now.{StandsNow}
use Rattle.store_core.specs.Events.{Did}
use Rattle.store_core.specs.Jobs.{HasFreshSegment, files_of_flush, files_of_compaction}
use Rattle.store_files.specs.Loose.{MayEmpty, OthersStay, used_files}
use Rattle.store_core.specs.NextList.{IsParted}
use Rattle.store_core.specs.declared.jobs.Jobs.{Jobs}
use Rattle.store_core.specs.declared.jobs.OpenFlush.{OpenFlush}
use Rattle.store_core.specs.declared.state.CoreState.{CoreState}
use Rattle.store_core.specs.declared.store.Core.{Core}
use Rattle.store_core.proofs.HeldFiles.{held_used, held_kept}
use Rattle.store_core.proofs.InUse.{contained_once}
use Rattle.store_core.proofs.Counted.{calls_fine, calls_fault, calls_rose, calls_exact, calls_unread}
use Rattle.store_core.proofs.Kept.{stands_kept, did_kept}
use Rattle.store_files.proofs.LooseFiles.{used_low}
use Rattle.store_core.proofs.NextLists.{uses_are}
use Rattle.store_core.proofs.OpenJobs.{fresh_moved, segment_of_known}
use Rattle.store_core.proofs.PushEvents.{OnlyNow, refused_is}
use Rattle.store_core.proofs.Quiet.{quiet, none_begun, adds_none}
use Rattle.store_core.proofs.PinnedFiles.{free_is, few_kept, uses_parted, all_kept}
use Rattle.store_core.proofs.ReclaimStates.{emptied_state, list_kept, next, names_emptied, rules_emptied, named_or_emptied, has_emptied}
use Rattle.store_core.proofs.Spare.{SameUsed, described_used, logged_used, settled_renewed}
use Rattle.store_core.proofs.States.{has_stopped}

writes_then : (core : CoreState) (m : Machine) → HasState core m → core.read_only ≡ None → early m Reclaim ≡ None
writes_then core m has writes = ap (λ (r : Option ℕ). if_read_only r None) (has.read_only ∙ writes)

-- ---- no device call

pub no_reclaim : {D : Type 0} (g : Ghosts D) (only_now : OnlyNow g) (old : Core D) (faults : ℕ) → old.state.read_only ≡ Some faults
    → Did g old Reclaim (Refused (ReadOnly faults)) (record old { state = old.state })
no_reclaim g only_now old faults is =
    quiet g only_now old old.state refl Reclaim (Refused (ReadOnly faults)) (λ f b. refl) (λ e. let bad = refused_is (ReadOnly faults) Fault e in cc) (λ n. refl) refl refl (λ shows. tt) (λ told m s. tt)
    (λ told m stands. (m, stands, refl, Sure (ap (λ (r : Option ℕ). if_read_only r None) (stands.has.read_only ∙ is)) refl))

pub lacks_memory : {D : Type 0} (g : Ghosts D) (only_now : OnlyNow g) (old : Core D) → old.state.read_only ≡ None
    → Did g old Reclaim (Refused Memory) (record old { state = old.state })
lacks_memory g only_now old writes =
    quiet g only_now old old.state refl Reclaim (Refused Memory) (λ f b. refl) (λ e. let bad = refused_is Memory Fault e in cc) (λ n. refl) refl refl (λ shows. tt) (λ told m s. tt)
    (λ told m stands. (m, stands, refl, Lacks (writes_then old.state m stands.has writes) refl refl refl))

none_in : (xs : List ℕ) → length xs ≡ 0 → xs ≡ []
none_in [] none = refl
none_in (x ∷ xs) none = absurd (omega (arith, none))

none_freed : {D : Type 0} (g : Ghosts D) (only_now : OnlyNow g) (old : Core D) → old.state.read_only ≡ None
    → ((m : Machine) → HasState old.state m → StateIsSound m.state → free_files m.state ≡ [])
    → Did g old Reclaim (Count 0) (record old { state = old.state })
none_freed g only_now old writes none =
    quiet g only_now old old.state refl Reclaim (Count 0) (λ f b. refl) (λ e. let bad : Count 0 ≡ Refused Fault = e in cc) (λ n. record { later = omega arith; at_most = omega arith; exact = λ few. omega arith }) refl refl (λ shows. tt) (λ told m s. tt)
    (λ told m stands.
    let empty : free_files m.state ≡ [] = none m stands.has stands.sound in (
      m,
      stands,
      refl,
      Succeeds (writes_then old.state m stands.has writes) (
        ap (λ (l : List ℕ). Count (length l)) (sym empty),
        ap (λ (l : List ℕ). with_state (record m.state { loose = l }) m) (sym (all_kept m.state empty)),
      ),
    ))

pub none_loose : {D : Type 0} (g : Ghosts D) (only_now : OnlyNow g) (old : Core D) → old.state.read_only ≡ None → length old.state.jobs.loose.items ≡ 0
    → Did g old Reclaim (Count 0) (record old { state = old.state })
none_loose g only_now old writes none =
    none_freed g only_now old writes
    (λ m has sound. ap (λ (l : List ℕ). filter (λ (f : ℕ). not (is_among f (pinned_files m.state.pins))) l) (has.loose ∙ none_in old.state.jobs.loose.items none))

pub none_to_empty : {D : Type 0} (g : Ghosts D) (only_now : OnlyNow g) (old : Core D) (kept free : List ℕ) → old.state.read_only ≡ None
    → IsParted old.state.pins.items old.state.jobs.loose.items kept free → length free ≡ 0
    → Did g old Reclaim (Count 0) (record old { state = old.state })
none_to_empty g only_now old kept free writes parts none =
    none_freed g only_now old writes (λ m has sound. sym (free_is old.state m has sound kept free parts) ∙ none_in free none)

-- what a vector's test says of its items
pub none_there : (v : Vec ℕ Global) → (vec_len v == 0) ≡ true → length v.items ≡ 0
none_there v e = let none = same_number (vec_len v) 0 e in let known : vec_len v ≡ length v.items = v.ok.0 in omega (arith, none, known)

pub some_there : (v : Vec ℕ Global) (items : List ℕ) → items ≡ v.items → (vec_len v == 0) ≡ false → length items ≢ 0
some_there v items its e none =
    let some : vec_len v ≢ 0 = eqb-false (vec_len v) 0 e in
    let known : vec_len v ≡ length v.items = v.ok.0 in
    let same : length items ≡ length v.items = ap (λ (l : List ℕ). length l) its in
    some (omega (arith, none, known, same))

pub kept_fit : (pins : List (Option (List ℕ))) (loose : Vec ℕ Global) (kept free items : List ℕ) → items ≡ kept → IsParted pins loose.items kept free → length items ≤ vec_capacity loose
kept_fit pins loose kept free items its parts =
    let less = few_kept pins loose.items kept free parts in
    let known : vec_len loose ≡ length loose.items = loose.ok.0 in
    let within : vec_len loose ≤ vec_capacity loose = loose.ok.1 in
    let same : length items ≡ length kept = ap (λ (l : List ℕ). length l) its in
    omega (arith, less, known, within, same)

-- ---- files are emptied

-- the files that the next list names as loose
abbrev pub named_loose : CoreState → List ℕ → List ℕ
named_loose core kept = (kept ++ files_of_flush core.jobs.flush) ++ files_of_compaction core.jobs.compaction

module _ (core : CoreState) (m : Machine) (has : HasState core m) (sound : StateIsSound m.state) (kept free : List ℕ) (parts : IsParted core.pins.items core.jobs.loose.items kept free) where
  free_once : (file : ℕ) → Contains free file → 1 ≤ times file (free_files m.state)
  free_once file c = contained_once file (free_files m.state) (subst (λ (l : List ℕ). Contains l file) (free_is core m has sound kept free parts) c)

  loose_once : (file : ℕ) → Contains free file → 1 ≤ times file m.state.loose
  loose_once file c = let some = free_once file c in let both = uses_parted file m.state in omega (arith, some, both)

  apart : (file : ℕ) → Contains free file → Contains (used_files core.list) file → ⊥
  apart file c used =
      let one = contained_once file (files_of (next core m has sound kept free parts)) (Contains-append_left (used_files core.list) (named_loose core kept) file used) in
      let same = uses_are (next core m has sound kept free parts) (emptied_state m.state) (names_emptied core m has sound kept free parts) file in
      let some = free_once file c in
      let both = uses_parted file m.state in
      let once = sound.files.once file in
      omega (arith, one, same, both, once, some)

  pub may_empty : MayEmpty core.list core.jobs.next_file (named_loose core kept) free
  may_empty = record {
    unused = λ file c. (
      elim (cases_lt file 2) [
        | inl low ↦ absurd (let some = loose_once file c in let none = sound.files.slots file low in omega (arith, some, none))
        | inr high ↦ high
      ],
      apart file c,
    );
    named = named_or_emptied core m has sound kept free parts;
  }

its_calls : (n before now : ℕ) → n ≢ 0 → RoseBy (2 * n + 6) before now → RoseBy (reclaim_calls n) before now
its_calls n before now some rose = at (n == 0) refl
  where
    at : (t : Bool) → (n == 0) ≡ t → RoseBy (if t then 0 else 2 * n + 6) before now
    at true e = absurd (some (same_number n 0 e))
    at false e = rose

some_not : (xs : List ℕ) → length xs ≢ 0 → not (length xs == 0) ≡ true
some_not xs some = at (length xs == 0) refl
  where
    at : (t : Bool) → (length xs == 0) ≡ t → not t ≡ true
    at true e = absurd (some (same_number (length xs) 0 e))
    at false e = refl

module _ {D : Type 0} (g : Ghosts D) (old : Core D) (disk : D) (writes : old.state.read_only ≡ None) (kept free : List ℕ)
    (parts : IsParted old.state.pins.items old.state.jobs.loose.items kept free) (some : length free ≢ 0)
    (result : Result (Unit {0}) Failed) (end : ℕ) (short : end < 2 ^ 63) (made : Calls g (2 * length free + 6) end old.disk disk result)
    (run : IsTrue (g.tells old.disk) → IsReady (g.held old.disk) (g.may_leave old.disk) (Some old.state.list)
    → MayEmpty old.state.list old.state.jobs.next_file (named_loose old.state kept) free → MeetsRules (list_kept old.state.list old.state.jobs kept)
    → Run KeepsStored g.moment g.left_since g.may_leave old.disk disk)
    (others : IsTrue (g.tells old.disk) → IsReady (g.held old.disk) (g.may_leave old.disk) (Some old.state.list)
    → MayEmpty old.state.list old.state.jobs.next_file (named_loose old.state kept) free → MeetsRules (list_kept old.state.list old.state.jobs kept)
    → OthersStay (Contains free) (g.held old.disk) (g.held disk) (g.may_leave old.disk) (g.may_leave disk))
    (still : IsTrue (g.tells old.disk) → (f : ℕ) → 2 ≤ f → (Contains free f → ⊥) → bytes_of (g.held disk) f ≡ bytes_of (g.held old.disk) f) where
  telling : g.tells disk ≡ g.tells old.disk
  telling = made.telling

  going : (m : Machine) → HasState old.state m → early m Reclaim ≡ None
  going m has = writes_then old.state m has writes

  may : (m : Machine) → HasState old.state m → StateIsSound m.state → MayEmpty old.state.list old.state.jobs.next_file (named_loose old.state kept) free
  may m has sound = may_empty old.state m has sound kept free parts

  rules : (m : Machine) → HasState old.state m → StateIsSound m.state → MeetsRules (list_kept old.state.list old.state.jobs kept)
  rules m has sound = rules_emptied old.state m has sound kept free parts (going m has)

  ready : IsTrue (g.tells old.disk) → (m : Machine) → StandsNow g old m → IsReady (g.held old.disk) (g.may_leave old.disk) (Some old.state.list)
  ready told m s = (s.settled told writes).lies.ready

  run_keeps : IsTrue (g.tells old.disk) → (m : Machine) → StandsNow g old m → Run KeepsStored g.moment g.left_since g.may_leave old.disk disk
  run_keeps told m s = run told (ready told m s) (may m s.has s.sound) (rules m s.has s.sound)

  stay : IsTrue (g.tells old.disk) → (m : Machine) → StandsNow g old m → OthersStay (Contains free) (g.held old.disk) (g.held disk) (g.may_leave old.disk) (g.may_leave disk)
  stay told m s = others told (ready told m s) (may m s.has s.sound) (rules m s.has s.sound)

  same_used : IsTrue (g.tells old.disk) → (m : Machine) → StandsNow g old m → SameUsed old.state.list (g.held old.disk) (g.held disk)
  same_used told m s = λ f used. (stay told m s).still f (used_low old.state.list s.has.rules f used) (λ c. ((may m s.has s.sound).unused f c).1 used)

  written : (m : Machine) → HasState old.state m → StateIsSound m.state → writes_in m.state Reclaim ≡ true
  written m has sound = subst (λ (l : List ℕ). not (length l == 0) ≡ true) (free_is old.state m has sound kept free parts) (some_not free some)

  held_same : IsTrue (g.tells old.disk) → (m : Machine) → StateShows g old m → (hold : Hold) → OpenIn m hold → (f : ℕ) → is_among f (hold_files hold) ≡ true → bytes_of (g.held disk) f ≡ bytes_of (g.held old.disk) f
  held_same told m s hold is_open f among = still told f
      (elim (cases_lt f 2) [
        | inl low ↦ absurd (let used = held_used m hold s.sound is_open f among in let none = s.sound.files.slots f low in omega (arith, used, none))
        | inr high ↦ high
      ])
      (λ c. let once = free_once old.state m s.has s.sound kept free parts f c in
      let none = held_kept m hold s.sound is_open f among in omega (arith, once, none))

  kept_same : IsTrue (g.tells old.disk) → (m : Machine) → StateShows g old m → (f : ℕ) → IsKept f m.state → bytes_of (g.held disk) f ≡ bytes_of (g.held old.disk) f
  kept_same told m s f is = still told f (kept_high m.state s.sound f is)
      (λ c. let once = free_once old.state m s.has s.sound kept free parts f c in let none = kept_full m.state s.sound f is in omega (arith, once, none))

  unread : RoseAtMost 0 (g.reads old.disk) (g.reads disk)
  unread = calls_unread g old.disk disk (2 * length free + 6) end 0 (λ low. short) result made

  -- ---- a write failed

  abbrev stopped : CoreState
  stopped = record old.state { read_only = Some (g.faults disk) }

  did_stopped : IsErr result → Did g old Reclaim (Refused Fault) (record old { disk = disk; state = stopped })
  did_stopped err =
      did_kept g old disk old.cache (λ m s fits. fits) stopped refl Reclaim refl (Refused Fault) (calls_fault g old.disk disk (2 * length free + 6) end 0 (λ low. short) result made err) run_keeps refl (adds_none Reclaim refl (Refused Fault) _)
      (λ m s. (
        broken (g.faults disk) m,
        stands_kept (IsTrue (g.tells old.disk)) (IsTrue (g.tells disk)) (g.held old.disk) (g.held disk) (g.may_leave old.disk) (g.may_leave disk) old.state stopped m (broken (g.faults disk) m)
            (g.faults old.disk) (g.faults disk) Reclaim (Refused Fault) (λ t. subst IsTrue telling t) s (breaks m s.has s.sound) refl (has_stopped old.state (g.faults disk) m s.has) refl
            (λ told. (run_keeps told m s).now)
            (λ told. described_used (g.held old.disk) (g.held disk) old.state m s.has (same_used told m s) (s.built told))
            (λ told none. absurd (let bad : Some (g.faults disk) ≡ None = none in cc)) (λ none. absurd (let bad : Some (g.faults disk) ≡ None = none in cc)) (λ told none. absurd (let bad : Some (g.faults disk) ≡ None = none in cc))
            (λ told none. absurd (let bad : Some (g.faults disk) ≡ None = none in cc)),
        refl,
        breaks m s.has s.sound,
      ))
      (λ m s. (
        broken (g.faults disk) m,
        stands_kept ⊥ ⊥ (g.held old.disk) (g.held disk) (g.may_leave old.disk) (g.may_leave disk) old.state stopped m (broken (g.faults disk) m)
            (g.faults old.disk) (g.faults disk) Reclaim (Refused Fault) (λ bad. bad) s (breaks m s.has s.sound) refl (has_stopped old.state (g.faults disk) m s.has) refl
            (λ bad. absurd bad) (λ bad. absurd bad) (λ bad. absurd bad) (λ none. absurd (let bad : Some (g.faults disk) ≡ None = none in cc)) (λ bad. absurd bad) (λ bad. absurd bad),
        breaks m s.has s.sound,
      ))
      (λ told m s hold is_open stays f among. held_same told m s hold is_open f among) kept_same
      (λ told f among. none_begun (Refused Fault) f _ refl among) (λ told. tt) (λ shows h. tt)
      made.calls.later unread
    where
      rose : Rose (g.faults old.disk) (g.faults disk)
      rose = calls_rose g old.disk disk (2 * length free + 6) end 0 (λ low. short) result made err

      breaks : (m : Machine) → HasState old.state m → StateIsSound m.state → Step (g.faults old.disk) (g.faults disk) m Reclaim (Refused Fault) (broken (g.faults disk) m)
      breaks m has sound = Breaks (going m has) (written m has sound) refl rose refl

  pub did_reclaim_fail : (faults : ℕ) → faults ≡ g.faults disk → IsErr result
      → Did g old Reclaim (Refused Fault) (record old { disk = disk; state = record old.state { read_only = Some faults } })
  did_reclaim_fail faults its err =
      subst (λ (n : ℕ). Did g old Reclaim (Refused Fault) (record old { disk = disk; state = record old.state { read_only = Some n } })) (sym its) (did_stopped err)

  -- ---- the list was committed without them

  module _ (fine : IsOk result) (count : ℕ) (counted : count ≡ length free) (loose : Vec ℕ Global) (its : loose.items ≡ kept) (room : vec_capacity old.state.jobs.loose ≤ vec_capacity loose)
      (readied : IsTrue (g.tells old.disk) → IsReady (g.held old.disk) (g.may_leave old.disk) (Some old.state.list)
      → MayEmpty old.state.list old.state.jobs.next_file (named_loose old.state kept) free → MeetsRules (list_kept old.state.list old.state.jobs kept)
      → IsReady (g.held disk) (g.may_leave disk) (Some (list_kept old.state.list old.state.jobs kept))) where
    abbrev after : CoreState
    after = record old.state { list = list_kept old.state.list old.state.jobs kept; jobs = record old.state.jobs { loose = loose } }

    abbrev done : Machine → Machine
    done m = with_state (emptied_state m.state) m

    its_step : (m : Machine) → HasState old.state m → StateIsSound m.state → Step (g.faults old.disk) (g.faults disk) m Reclaim (Count count) (done m)
    its_step m has sound = Succeeds (going m has) (ap (λ (n : ℕ). Count n) (counted ∙ ap (λ (l : List ℕ). length l) (free_is old.state m has sound kept free parts)), refl)

    has_after : (m : Machine) → HasState old.state m → StateIsSound m.state → HasState after (done m)
    has_after m has sound = has_emptied old.state m has sound kept free parts writes loose its room (going m has)

    fresh_after : IsTrue (g.tells old.disk) → (m : Machine) → StandsNow g old m → HasFreshSegment (g.held disk) (g.may_leave disk) old.state.jobs
    fresh_after told m s =
        fresh_moved old.state.jobs.flush (g.held old.disk) (g.held disk) (g.may_leave old.disk) (g.may_leave disk)
        (λ mine known. (stay told m s).still mine.files.segment (high mine known) (not_loose mine known))
        (λ mine known b only. (stay told m s).images mine.files.segment b (high mine known) (not_loose mine known) only)
        (s.fresh told writes)
      where
        used : (mine : OpenFlush) → old.state.jobs.flush ≡ Some mine → 1 ≤ times mine.files.segment (flush_files m.state.flush)
        used mine known = segment_of_known old.state m mine s.has known

        high : (mine : OpenFlush) → old.state.jobs.flush ≡ Some mine → 2 ≤ mine.files.segment
        high mine known = elim (cases_lt mine.files.segment 2) [
          | inl low ↦ absurd (let one = used mine known in let none = s.sound.files.slots mine.files.segment low in omega (arith, one, none))
          | inr is ↦ is
        ]

        not_loose : (mine : OpenFlush) → old.state.jobs.flush ≡ Some mine → Contains free mine.files.segment → ⊥
        not_loose mine known c =
            let one = used mine known in let some = loose_once old.state m s.has s.sound kept free parts mine.files.segment c in let once = s.sound.files.once mine.files.segment in omega (arith, one, some, once)

    did_emptied : Did g old Reclaim (Count count) (record old { disk = disk; state = after })
    did_emptied =
        did_kept g old disk old.cache (λ m s fits. fits) after refl Reclaim refl (Count count)
        (calls_fine g old.disk disk (2 * length free + 6) end 0 (λ low. short) result made fine (Count count) (λ is. let bad : Count count ≡ Refused Fault = is in absurd cc))
        run_keeps refl refl
        (λ m s. (
          done m,
          stands_kept (IsTrue (g.tells old.disk)) (IsTrue (g.tells disk)) (g.held old.disk) (g.held disk) (g.may_leave old.disk) (g.may_leave disk) old.state after m (done m)
              (g.faults old.disk) (g.faults disk) Reclaim (Count count) (λ t. subst IsTrue telling t) s (its_step m s.has s.sound) refl (has_after m s.has s.sound) refl
              (λ told. (run_keeps told m s).now)
              (λ told. described_used (g.held old.disk) (g.held disk) old.state m s.has (same_used told m s) (s.built told))
              (λ told still. settled_renewed (g.held old.disk) (g.held disk) (g.may_leave old.disk) (g.may_leave disk) old.state.list (successor old.state.list.generation) old.state.jobs.next_file
              (named_loose old.state kept) (same_used told m s)
              (λ f used only. (stay told m s).images f (bytes_of (g.held old.disk) f) (used_low old.state.list s.has.rules f used) (λ c. ((may m s.has s.sound).unused f c).1 used) only)
              (readied told (ready told m s) (may m s.has s.sound) (rules m s.has s.sound)) m.state.blocks (tail_of old.state.segment) m.history (s.settled told writes))
              (λ still. still) (λ told still. fresh_after told m s)
              (λ told still. logged_used (g.held old.disk) (g.held disk) old.state.list (g.faults old.disk) (g.faults disk) m (done m) Reclaim (Count count) (same_used told m s) (its_step m s.has s.sound) refl (s.logged told writes)),
          refl,
          its_step m s.has s.sound,
        ))
        (λ m s. (
          done m,
          stands_kept ⊥ ⊥ (g.held old.disk) (g.held disk) (g.may_leave old.disk) (g.may_leave disk) old.state after m (done m) (g.faults old.disk) (g.faults disk) Reclaim (Count count)
              (λ bad. bad) s (its_step m s.has s.sound) refl (has_after m s.has s.sound) refl (λ bad. absurd bad) (λ bad. absurd bad) (λ bad. absurd bad) (λ still. still) (λ bad. absurd bad) (λ bad. absurd bad),
          its_step m s.has s.sound,
        ))
        (λ told m s hold is_open stays f among. held_same told m s hold is_open f among) kept_same
        (λ told f among. none_begun (Count count) f _ refl among) (λ told. tt) (λ shows h. tt)
        (its_calls count (g.calls old.disk) (g.calls disk) (λ is. some (sym counted ∙ is)) (subst (λ (n : ℕ). RoseBy (2 * n + 6) (g.calls old.disk) (g.calls disk)) (sym counted) (calls_exact g old.disk disk (2 * length free + 6) end 0 (λ low. short) result made fine))) unread

    pub did_reclaimed : (list : ListBody) (jobs : Jobs) → list ≡ list_kept old.state.list old.state.jobs kept → jobs ≡ record old.state.jobs { loose = loose }
        → Did g old Reclaim (Count count) (record old { disk = disk; state = record old.state { list = list; jobs = jobs } })
    did_reclaimed list jobs same_list same_jobs =
        subst (λ (l : ListBody). Did g old Reclaim (Count count) (record old { disk = disk; state = record old.state { list = l; jobs = jobs } })) (sym same_list)
        (subst (λ (j : Jobs). Did g old Reclaim (Count count) (record old { disk = disk; state = record old.state { list = list_kept old.state.list old.state.jobs kept; jobs = j } })) (sym same_jobs) did_emptied)
