-- A commit as an event of a core: what the events of commits have in common, and where one ends before the list is written.
use Rattle.std.proofs.Common.{◌≡◌, ℕ, List, Some, None, Option, IsTrue, true, refl, ◌∙◌, ap, subst, sym, arith, Result, IsErr}
use Rattle.span_types.specs.declared.errors.Failed.{Failed}
use Rattle.disk_model.specs.Calls.{Calls}
use Rattle.disk_model.specs.Images.{SameBytes, bytes_of}
use Rattle.disk_model.specs.Counts.{RoseBy}
use Rattle.disk_model.specs.Crash.{Within, Elapses, Run}
use Rattle.disk_model.specs.declared.disk.Device.{Ghosts}
use Rattle.disk_model.proofs.Runs.{run_call}
use Rattle.store_entries.specs.declared.entry.Entry.{Entry}
use Rattle.store_model.specs.State.{State}
use Rattle.store_model.specs.Event.{Event, Reply}
use Rattle.store_model.specs.Event.Event.{CommitFlush, CommitCompact}
use Rattle.store_model.specs.Event.Reply.{Fine, Refused}
use Rattle.store_model.specs.Event.Refusal.{ReadOnly, Fault}
use Rattle.store_model.specs.Step.{Machine, early, broken, if_read_only, writes}
use Rattle.store_model.specs.Step.Step.{Sure, Breaks}
use Rattle.store_state.specs.Calls.{MadeCalls, RoseAtMost}
use Rattle.store_state.specs.Meaning.{Rewritten, reads_of}
use Rattle.store_state.specs.Written.{IsPageRead}
use Rattle.store_images.specs.Stored.{KeepsStored}
use Rattle.store_images.proofs.Keeping.{keeps_same}
use Rattle.store_core.specs.declared.store.Core.{Core}
use Rattle.store_core.specs.Cores.{HasState}
use Rattle.store_core.specs.Events.{Did, unsure_after, end_of}
use Rattle.store_core.proofs.Counted.{calls_fault, calls_rose, calls_most, calls_unread}
use Rattle.store_core.proofs.Kept.{stands_kept, did_kept, described_below}
use Rattle.store_core.proofs.Now.{frames_same}
use Rattle.store_core.proofs.PushEvents.{OnlyNow, refused_is}
use Rattle.store_core.proofs.Quiet.{quiet, none_begun, adds_none}
use Rattle.store_core.proofs.States.{has_stopped}

-- It writes, answers no batch and no page, changes no file of what is open, and makes seven calls, and none once the store is read-only.
pub record IsCommit (event : Event) : Type 0 where
  pub early_is : (m : Machine) → early m event ≡ if_read_only m.read_only None
  pub writes_is : (u : State) → writes u event ≡ true
  pub unsure_is : (reply : Reply) (unsure : Option Entry) → unsure_after event reply unsure ≡ unsure
  pub files_are : (reply : Reply) (file : ℕ) (old new : List ℕ) → new ≡ old → Rewritten event reply file old new
  pub no_page : (reply : Reply) (shows : ℕ → List ℕ) → IsPageRead event reply shows
  pub calls_none : (faults n : ℕ) → MadeCalls event (Refused (ReadOnly faults)) n n
  pub calls_done : (old new : ℕ) → RoseBy 7 old new → MadeCalls event Fine old new
  pub calls_failed : (old new : ℕ) → RoseAtMost 7 old new → MadeCalls event (Refused Fault) old new
  pub reads_none : (old new : ℕ) → RoseAtMost 0 old new → RoseAtMost (reads_of event) old new

pub flush_commits : (number size : ℕ) → IsCommit (CommitFlush number size)
flush_commits number size = record {
  early_is = λ m. refl;
  writes_is = λ u. refl;
  unsure_is = λ reply unsure. adds_none (CommitFlush number size) refl reply unsure;
  files_are = λ reply file old new is. is;
  no_page = λ reply shows. tt;
  calls_none = λ faults n. refl;
  calls_done = λ old new rose. rose;
  calls_failed = λ old new rose. rose;
  reads_none = λ old new rose. rose;
}

pub compact_commits : (number size : ℕ) → IsCommit (CommitCompact number size)
compact_commits number size = record {
  early_is = λ m. refl;
  writes_is = λ u. refl;
  unsure_is = λ reply unsure. adds_none (CommitCompact number size) refl reply unsure;
  files_are = λ reply file old new is. is;
  no_page = λ reply shows. tt;
  calls_none = λ faults n. refl;
  calls_done = λ old new rose. rose;
  calls_failed = λ old new rose. rose;
  reads_none = λ old new rose. rose;
}

-- the store was read-only
pub no_commit : {D : Type 0} (g : Ghosts D) (only_now : OnlyNow g) (old : Core D) (event : Event) (is : IsCommit event) (faults : ℕ) → old.state.read_only ≡ Some faults
    → Did g old event (Refused (ReadOnly faults)) (record old { state = old.state })
no_commit g only_now old event is faults stopped =
    quiet g only_now old old.state refl event (Refused (ReadOnly faults)) (λ f b. is.files_are (Refused (ReadOnly faults)) f b b refl) (λ e. let bad = refused_is (ReadOnly faults) Fault e in cc) (is.calls_none faults) refl refl (is.no_page (Refused (ReadOnly faults))) (λ told m s. tt)
    (λ told m stands. (m, stands, refl, Sure (is.early_is m ∙ ap (λ (r : Option ℕ). if_read_only r None) (stands.has.read_only ∙ stopped)) refl))

-- the block wasn't synced
module _ {D : Type 0} (g : Ghosts D) (only_now : OnlyNow g) (old : Core D) (disk : D) (event : Event) (is : IsCommit event) (free : old.state.read_only ≡ None)
    (result : Result (Unit {0}) Failed) (made : Calls g 1 0 old.disk disk result) (same : IsTrue (g.tells old.disk) → SameBytes (g.held old.disk) (g.held disk)) (crash : Within (g.may_leave old.disk) (g.may_leave disk))
    (time : Elapses (g.moment old.disk) (g.moment disk) (g.left_since old.disk) (g.left_since disk) (g.may_leave disk)) where
  telling : g.tells disk ≡ g.tells old.disk
  telling = made.telling

  can : (m : Machine) → HasState old.state m → early m event ≡ None
  can m has = is.early_is m ∙ ap (λ (r : Option ℕ). if_read_only r None) (has.read_only ∙ free)

  run_keeps : Run KeepsStored g.moment g.left_since g.may_leave old.disk disk
  run_keeps = run_call g.moment g.left_since g.may_leave KeepsStored old.disk disk keeps_same (λ image left. only_now old.disk image left) crash time

  pub did_sync_fail : (faults : ℕ) → faults ≡ g.faults disk → IsErr result
      → Did g old event (Refused Fault) (record old { disk = disk; state = record old.state { read_only = Some faults } })
  did_sync_fail faults counted err =
      let rose = calls_rose g old.disk disk 1 0 (end_of old.state event) (λ low. omega arith) result made err in
      let most = calls_most g old.disk disk 1 0 (end_of old.state event) (λ low. omega arith) result made in
      subst (λ (n : ℕ). Did g old event (Refused Fault) (record old { disk = disk; state = record old.state { read_only = Some n } })) (sym counted)
      (did_kept g old disk old.cache (λ m s fits. fits) (record old.state { read_only = Some (g.faults disk) }) refl event (frames_same event old.cache) (Refused Fault) (calls_fault g old.disk disk 1 0 (end_of old.state event) (λ low. omega arith) result made err) (λ told m s. run_keeps) refl (is.unsure_is (Refused Fault) _)
      (λ m s. (
        broken (g.faults disk) m,
        stands_kept (IsTrue (g.tells old.disk)) (IsTrue (g.tells disk)) (g.held old.disk) (g.held disk) (g.may_leave old.disk) (g.may_leave disk) old.state (record old.state { read_only = Some (g.faults disk) }) m (broken (g.faults disk) m)
            (g.faults old.disk) (g.faults disk) event (Refused Fault) (λ t. subst IsTrue telling t) s (Breaks (can m s.has) (is.writes_is m.state) refl rose refl) refl (has_stopped old.state (g.faults disk) m s.has) refl
            (λ told. run_keeps.now)
            (λ told. described_below (g.held old.disk) (g.held disk) old.state m s.has (λ f below. same told f) (s.built told))
            (λ told none. absurd (let bad : Some (g.faults disk) ≡ None = none in cc)) (λ none. absurd (let bad : Some (g.faults disk) ≡ None = none in cc)) (λ told none. absurd (let bad : Some (g.faults disk) ≡ None = none in cc))
            (λ told none. absurd (let bad : Some (g.faults disk) ≡ None = none in cc)),
        refl,
        Breaks (can m s.has) (is.writes_is m.state) refl rose refl,
      ))
      (λ m s. (
        broken (g.faults disk) m,
        stands_kept ⊥ ⊥ (g.held old.disk) (g.held disk) (g.may_leave old.disk) (g.may_leave disk) old.state (record old.state { read_only = Some (g.faults disk) }) m (broken (g.faults disk) m)
            (g.faults old.disk) (g.faults disk) event (Refused Fault) (λ bad. bad) s (Breaks (can m s.has) (is.writes_is m.state) refl rose refl) refl (has_stopped old.state (g.faults disk) m s.has) refl
            (λ bad. absurd bad) (λ bad. absurd bad) (λ bad. absurd bad) (λ none. absurd (let bad : Some (g.faults disk) ≡ None = none in cc)) (λ bad. absurd bad) (λ bad. absurd bad),
        Breaks (can m s.has) (is.writes_is m.state) refl rose refl,
      ))
      (λ told m s hold is_open stays f among. is.files_are (Refused Fault) f _ _ (same told f))
      (λ told m s f kept. same told f)
      (λ told f among. none_begun (Refused Fault) f _ refl among) (λ told. is.no_page (Refused Fault) (λ f. bytes_of (g.held old.disk) f)) (λ shows h. tt)
      (is.calls_failed _ _ (most.0, omega (arith, most.1))) (is.reads_none _ _ (calls_unread g old.disk disk 1 0 (end_of old.state event) (λ low. omega arith) result made)))
