-- A piece that is written to a job's file, as an event of a core.
use Rattle.std.proofs.Common.{◌≡◌, ℕ, ◌==◌, List, ◌++◌, length, Some, None, Option, IsTrue, true, false, if◌then◌else◌, refl, sym, ◌∙◌, ap, subst, arith, eq-eqb, Result, IsOk, IsErr, ◌^◌, ◌+◌}
use Rattle.span_types.specs.declared.errors.Failed.{Failed}
use Rattle.disk_model.specs.Calls.{Calls}
use Rattle.disk_model.specs.Images.{bytes_of, Besides, OnFile}
use Rattle.disk_model.specs.Bytes.{overwritten, Torn}
use Rattle.disk_model.specs.Crash.{Within, Reached, Elapses, Run}
use Rattle.disk_model.specs.declared.disk.Device.{Ghosts}
use Rattle.disk_model.proofs.BytesLemmas.{overwritten_end}
use Rattle.disk_model.proofs.Passing.{torn_same, other_stays}
use Rattle.disk_model.proofs.Runs.{run_more, run_change}
use Rattle.store_model.specs.Event.Event.{WritePiece}
use Rattle.store_model.specs.Event.Reply.{Fine, Refused}
use Rattle.store_model.specs.Event.Refusal.{ReadOnly, Fault}
use Rattle.store_model.specs.State.{flush_files, compaction_files}
use Rattle.store_model.specs.Sound.{times}
use Rattle.store_model.specs.Step.{Machine, early, broken, if_read_only}
use Rattle.store_model.specs.Step.Step.{Sure, Succeeds, Breaks}
use Rattle.store_model.proofs.Numbers.{same_number}
use Rattle.store_images.specs.Stored.{KeepsStored}
use Rattle.store_core.specs.Jobs.{HasFreshSegment}
use Rattle.store_core.specs.declared.store.Core.{Core}
use Rattle.store_core.specs.Cores.{HasState, StateShows}
use Rattle.store_files.specs.LogReading.{tail_of}
use Rattle.store_core.proofs.Now.{StandsNow}
use Rattle.store_core.specs.Events.{Did}
use Rattle.store_core.proofs.Counted.{calls_fine, calls_fault, calls_rose, calls_exact, calls_most, calls_unread}
use Rattle.store_core.proofs.Kept.{stands_kept, did_kept}
use Rattle.store_core.specs.Frames.{IsKept}
use Rattle.store_core.proofs.KeptFiles.{kept_no_job}
use Rattle.store_core.proofs.OpenJobs.{IsJobFile, fresh_moved}
use Rattle.store_core.proofs.PushEvents.{OnlyNow, refused_is}
use Rattle.store_core.proofs.Quiet.{quiet, none_begun, adds_none}
use Rattle.store_core.proofs.Spare.{SameUsed, used_besides, keeps_spare, settled_spare, described_used, logged_used}
use Rattle.store_core.proofs.States.{has_stopped}

pub no_piece : {D : Type 0} (g : Ghosts D) (only_now : OnlyNow g) (old : Core D) (number file : ℕ) (bytes : List ℕ) (faults : ℕ) → old.state.read_only ≡ Some faults
    → Did g old (WritePiece number file bytes) (Refused (ReadOnly faults)) (record old { state = old.state })
no_piece g only_now old number file bytes faults is =
    quiet g only_now old old.state refl (WritePiece number file bytes) (Refused (ReadOnly faults)) (λ f b. refl) (λ e. let bad = refused_is (ReadOnly faults) Fault e in cc) (λ n. refl) refl refl (λ shows. tt) (λ told m s. tt)
    (λ told m stands. (m, stands, refl, Sure (ap (λ (r : Option ℕ). if_read_only r None) (stands.has.read_only ∙ is)) refl))

module _ {D : Type 0} (g : Ghosts D) (only_now : OnlyNow g) (old : Core D) (disk : D) (number file at : ℕ) (bytes : List ℕ) (writes : old.state.read_only ≡ None)
    (its : IsJobFile old.state file)
    (result : Result (Unit {0}) Failed) (made : Calls g 1 (at + length bytes) old.disk disk result) (besides : IsTrue (g.tells old.disk) → Besides file (g.held old.disk) (g.held disk))
    (crash : Within (Reached (OnFile file (Torn at (length bytes))) (g.may_leave old.disk)) (g.may_leave disk))
    (time : Elapses (g.moment old.disk) (g.moment disk) (g.left_since old.disk) (g.left_since disk) (g.may_leave disk)) where
  telling : g.tells disk ≡ g.tells old.disk
  telling = made.telling

  run_keeps : IsTrue (g.tells old.disk) → (m : Machine) → StandsNow g old m → Run KeepsStored g.moment g.left_since g.may_leave old.disk disk
  run_keeps told m s =
      run_more g.moment g.left_since g.may_leave (OnFile file (Torn at (length bytes))) KeepsStored old.disk disk
      (run_change g.moment g.left_since g.may_leave file (Torn at (length bytes)) (torn_same at (length bytes)) old.disk disk (only_now old.disk) crash time)
      (λ origin image possible change. keeps_spare (g.held old.disk) (g.may_leave old.disk) old.state.list (s.settled told writes).lies.ready file (Torn at (length bytes)) origin image its.spare possible change)

  same_used : IsTrue (g.tells old.disk) → (m : Machine) → HasState old.state m → SameUsed old.state.list (g.held old.disk) (g.held disk)
  same_used told m has = used_besides old.state.list has.rules file (g.held old.disk) (g.held disk) its.spare (besides told)

  free : (m : Machine) → HasState old.state m → early m (WritePiece number file bytes) ≡ None
  free m has = ap (λ (r : Option ℕ). if_read_only r None) (has.read_only ∙ writes)

  fresh_after : IsTrue (g.tells old.disk) → (m : Machine) → StandsNow g old m → HasFreshSegment (g.held disk) (g.may_leave disk) old.state.jobs
  fresh_after told m s =
      let differs = its.apart m s.has s.sound in
      fresh_moved old.state.jobs.flush (g.held old.disk) (g.held disk) (g.may_leave old.disk) (g.may_leave disk)
      (λ mine known. besides told mine.files.segment (differs mine known))
      (λ mine known b only. other_stays file mine.files.segment (Torn at (length bytes)) b (g.may_leave old.disk) (g.may_leave disk) (differs mine known) only crash)
      (s.fresh told writes)

  kept_same : IsTrue (g.tells old.disk) → (m : Machine) → StateShows g old m → (f : ℕ) → IsKept f m.state → bytes_of (g.held disk) f ≡ bytes_of (g.held old.disk) f
  kept_same told m s f is = besides told f
      (λ same.
      let used = its.used m s.has in
      let none : times file (flush_files m.state.flush) + times file (compaction_files m.state.compaction) ≡ 0 =
      subst (λ (n : ℕ). times n (flush_files m.state.flush) + times n (compaction_files m.state.compaction) ≡ 0) same (kept_no_job m.state s.sound f is) in
      absurd (omega (arith, used, none)))

  pub did_piece : (IsTrue (g.tells old.disk) → bytes_of (g.held disk) file ≡ overwritten (bytes_of (g.held old.disk) file) at bytes) → (IsTrue (g.tells old.disk) → at ≡ length (bytes_of (g.held old.disk) file))
      → IsOk result → Did g old (WritePiece number file bytes) Fine (record old { disk = disk })
  did_piece written whole fine =
      did_kept g old disk old.cache (λ m s fits. fits) old.state refl (WritePiece number file bytes) refl Fine (calls_fine g old.disk disk 1 (at + length bytes) (2 ^ 63) (λ low. omega (arith, low)) result made fine Fine (λ is. let bad : Fine ≡ Refused Fault = is in absurd cc)) run_keeps refl refl
      (λ m s. (
        m,
        stands_kept (IsTrue (g.tells old.disk)) (IsTrue (g.tells disk)) (g.held old.disk) (g.held disk) (g.may_leave old.disk) (g.may_leave disk) old.state old.state m m (g.faults old.disk) (g.faults disk) (WritePiece number file bytes) Fine
            (λ t. subst IsTrue telling t) s (Succeeds (free m s.has) (refl, refl)) refl s.has refl
            (λ told. (run_keeps told m s).now)
            (λ told. described_used (g.held old.disk) (g.held disk) old.state m s.has (same_used told m s.has) (s.built told))
            (λ told writes'. settled_spare (g.held old.disk) (g.held disk) (g.may_leave old.disk) (g.may_leave disk) old.state.list file (Torn at (length bytes)) its.spare (besides told) crash
            m.state.blocks (tail_of old.state.segment) m.history (s.settled told writes))
            (λ is. is) (λ told writes'. fresh_after told m s)
            (λ told writes'. logged_used (g.held old.disk) (g.held disk) old.state.list (g.faults old.disk) (g.faults disk) m m (WritePiece number file bytes) Fine (same_used told m s.has)
            (Succeeds (free m s.has) (refl, refl)) refl (s.logged told writes)),
        refl,
        Succeeds (free m s.has) (refl, refl),
      ))
      (λ m s. (
        m,
        stands_kept ⊥ ⊥ (g.held old.disk) (g.held disk) (g.may_leave old.disk) (g.may_leave disk) old.state old.state m m (g.faults old.disk) (g.faults disk) (WritePiece number file bytes) Fine
            (λ bad. bad) s (Succeeds (free m s.has) (refl, refl)) refl s.has refl (λ bad. absurd bad) (λ bad. absurd bad) (λ bad. absurd bad) (λ is. is) (λ bad. absurd bad) (λ bad. absurd bad),
        Succeeds (free m s.has) (refl, refl),
      ))
      (λ told m s hold is_open stays f among. appended told f) kept_same
      (λ told f among. none_begun Fine f _ refl among) (λ told. tt) (λ shows h. tt)
      (calls_exact g old.disk disk 1 (at + length bytes) (2 ^ 63) (λ low. omega (arith, low)) result made fine) (calls_unread g old.disk disk 1 (at + length bytes) (2 ^ 63) (λ low. omega (arith, low)) result made)
    where
      appended : IsTrue (g.tells old.disk) → (f : ℕ) → bytes_of (g.held disk) f ≡ (if file == f then bytes_of (g.held old.disk) f ++ bytes else bytes_of (g.held old.disk) f)
      appended told f = elim (file == f) as (λ t. (file == f) ≡ t → bytes_of (g.held disk) f ≡ (if t then bytes_of (g.held old.disk) f ++ bytes else bytes_of (g.held old.disk) f)) [
        | true ↦ λ e. subst (λ (n : ℕ). bytes_of (g.held disk) n ≡ bytes_of (g.held old.disk) n ++ bytes) (same_number file f e) (written told ∙ overwritten_end (bytes_of (g.held old.disk) file) at bytes (whole told))
        | false ↦ λ e. besides told f (λ is. let bad = eq-eqb file f (sym is) in absurd cc)
      ] refl

  pub did_piece_fail : (faults : ℕ) → faults ≡ g.faults disk → IsErr result
      → Did g old (WritePiece number file bytes) (Refused Fault) (record old { disk = disk; state = record old.state { read_only = Some faults } })
  did_piece_fail faults counted err =
      let rose = calls_rose g old.disk disk 1 (at + length bytes) (2 ^ 63) (λ low. omega (arith, low)) result made err in
      subst (λ (n : ℕ). Did g old (WritePiece number file bytes) (Refused Fault) (record old { disk = disk; state = record old.state { read_only = Some n } })) (sym counted)
      (did_kept g old disk old.cache (λ m s fits. fits) (record old.state { read_only = Some (g.faults disk) }) refl (WritePiece number file bytes) refl (Refused Fault) (calls_fault g old.disk disk 1 (at + length bytes) (2 ^ 63) (λ low. omega (arith, low)) result made err) run_keeps refl (adds_none (WritePiece number file bytes) refl (Refused Fault) _)
      (λ m s. (
        broken (g.faults disk) m,
        stands_kept (IsTrue (g.tells old.disk)) (IsTrue (g.tells disk)) (g.held old.disk) (g.held disk) (g.may_leave old.disk) (g.may_leave disk) old.state (record old.state { read_only = Some (g.faults disk) }) m (broken (g.faults disk) m)
            (g.faults old.disk) (g.faults disk) (WritePiece number file bytes) (Refused Fault) (λ t. subst IsTrue telling t) s (Breaks (free m s.has) refl refl rose refl) refl (has_stopped old.state (g.faults disk) m s.has) refl
            (λ told. (run_keeps told m s).now)
            (λ told. described_used (g.held old.disk) (g.held disk) old.state m s.has (same_used told m s.has) (s.built told))
            (λ told none. absurd (let bad : Some (g.faults disk) ≡ None = none in cc)) (λ none. absurd (let bad : Some (g.faults disk) ≡ None = none in cc)) (λ told none. absurd (let bad : Some (g.faults disk) ≡ None = none in cc))
            (λ told none. absurd (let bad : Some (g.faults disk) ≡ None = none in cc)),
        refl,
        Breaks (free m s.has) refl refl rose refl,
      ))
      (λ m s. (
        broken (g.faults disk) m,
        stands_kept ⊥ ⊥ (g.held old.disk) (g.held disk) (g.may_leave old.disk) (g.may_leave disk) old.state (record old.state { read_only = Some (g.faults disk) }) m (broken (g.faults disk) m)
            (g.faults old.disk) (g.faults disk) (WritePiece number file bytes) (Refused Fault) (λ bad. bad) s (Breaks (free m s.has) refl refl rose refl) refl (has_stopped old.state (g.faults disk) m s.has) refl
            (λ bad. absurd bad) (λ bad. absurd bad) (λ bad. absurd bad) (λ none. absurd (let bad : Some (g.faults disk) ≡ None = none in cc)) (λ bad. absurd bad) (λ bad. absurd bad),
        Breaks (free m s.has) refl refl rose refl,
      ))
      (λ told m s hold is_open stays f among differs. besides told f (λ is. let bad = eq-eqb file f (sym is) in absurd cc)) kept_same
      (λ told f among. none_begun (Refused Fault) f _ refl among) (λ told. tt) (λ shows h. tt)
      (calls_most g old.disk disk 1 (at + length bytes) (2 ^ 63) (λ low. omega (arith, low)) result made) (calls_unread g old.disk disk 1 (at + length bytes) (2 ^ 63) (λ low. omega (arith, low)) result made))
