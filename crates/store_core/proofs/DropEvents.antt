-- A flush that is given up, as an event of a core.
use Rattle.std.proofs.Common.{◌≡◌, inl, inr, ℕ, ◌≤◌, List, [], ◌∷◌, ◌++◌, length, Some, None, Option, refl, sym, ◌∙◌, ap, subst, arith}
use Rattle.std.specs.Vec.{vec_capacity}
use Rattle.span_types.specs.declared.spans.Row.{Row}
use Rattle.disk_model.specs.declared.disk.Device.{Ghosts}
use Rattle.live_traces.specs.Parts.{LiveParts}
use Rattle.store_model.specs.State.{flush_rows}
use Rattle.store_model.specs.After.{after_drop_flush}
use Rattle.store_model.specs.Event.Event.{DropFlush}
use Rattle.store_model.specs.Event.Reply.{Fine, Refused}
use Rattle.store_model.specs.Event.Refusal.{Fault}
use Rattle.store_model.specs.Step.{Machine, Step, with_state}
use Rattle.store_model.specs.Step.Step.{Succeeds}
use Rattle.store_images.proofs.Keeping.{keeps_same}
use Rattle.store_core.specs.Jobs.{ShowsFlush, ShowsCompaction, files_of_flush, one_if}
use Rattle.store_core.specs.declared.jobs.Jobs.{Jobs}
use Rattle.store_core.specs.declared.jobs.OpenFlush.{OpenFlush}
use Rattle.store_core.specs.declared.jobs.OpenCompaction.{OpenCompaction}
use Rattle.store_core.specs.declared.state.CoreState.{CoreState}
use Rattle.store_core.specs.declared.store.Core.{Core}
use Rattle.store_core.specs.Cores.{HasState}
use Rattle.store_core.specs.Events.{Did}
use Rattle.store_core.proofs.Kept.{stands_kept}
use Rattle.store_core.proofs.InUse.{used_dropped}
use Rattle.store_core.proofs.Logged.{logged_still}
use Rattle.store_core.proofs.JobRooms.{EndsOne, fit_ended, rooms_ended, loose_more, one_none, one_some}
use Rattle.store_core.proofs.NoJobs.{no_segment}
use Rattle.store_core.proofs.OpenJobs.{IsOpenHere}
use Rattle.store_core.proofs.PushEvents.{OnlyNow}
use Rattle.store_core.proofs.Quiet.{quiet}

-- the memory of a core in which no flush is open any more
pub record Dropped (old : Jobs) (new : Jobs) : Type 0 where
  pub gone : new.flush ≡ None
  pub loose : new.loose.items ≡ old.loose.items ++ files_of_flush old.flush
  pub begun : new.begun ≡ old.begun
  pub next_file : new.next_file ≡ old.next_file
  pub compaction : new.compaction ≡ old.compaction
  pub capacity : vec_capacity old.loose ≤ vec_capacity new.loose

-- the other job has the room that it needs
ends_one : (old new : Jobs) (mine : OpenFlush) → old.flush ≡ Some mine → Dropped old new → EndsOne old new
ends_one old new mine known dropped = record {
  fewer =
      let one = one_some old.flush mine known in
      let none = one_none new.flush dropped.gone in
      let same : one_if new.compaction ≡ one_if old.compaction = ap one_if dropped.compaction in
      omega (arith, one, none, same);
  few =
      let more = loose_more old.loose new.loose (files_of_flush old.flush) dropped.loose in
      let two : length (files_of_flush old.flush) ≡ 2 = ap (λ (k : Option OpenFlush). length (files_of_flush k)) known in
      omega (arith, more, two);
  capacity = dropped.capacity;
  next_file = dropped.next_file;
  flush = inl dropped.gone;
  compaction = inr dropped.compaction;
}

has_dropped : (core : CoreState) (live : LiveParts) (jobs : Jobs) (m : Machine) (number file : ℕ) (here : IsOpenHere core m number file) → HasState core m → Dropped core.jobs jobs
    → live.flushing ≡ [] → live.head ≡ core.live.flushing ++ core.live.head → live.live ≡ core.live.live
    → HasState (record core { live = live; jobs = jobs }) (with_state (after_drop_flush here.job m.state) m)
has_dropped core live jobs m number file here has dropped gone back same = record {
  count = has.count;
  few = has.few;
  live = has.live ∙ sym same;
  head = ap (λ (r : List Row). r ++ m.state.head) (sym (has.flushing ∙ ap flush_rows here.is_open)) ∙ ap (λ (r : List Row). core.live.flushing ++ r) has.head ∙ sym back;
  flushing = gone;
  flush = subst (λ (k : Option OpenFlush). ShowsFlush k None) (sym dropped.gone) refl;
  compaction = subst (λ (k : Option OpenCompaction). ShowsCompaction k m.state.compaction) (sym dropped.compaction) has.compaction;
  blocks = has.blocks;
  infos = has.infos;
  listed = has.listed;
  commit = λ free. rooms_ended core.jobs jobs core.list core.infos (ends_one core.jobs jobs here.mine here.known dropped) (has.commit free);
  rules = has.rules;
  segments = has.segments;
  last = has.last;
  floor = has.floor;
  loose = ap (λ (l : List ℕ). l ++ here.job.file ∷ here.job.segment ∷ []) has.loose
      ∙ ap (λ (n : ℕ). core.jobs.loose.items ++ n ∷ here.job.segment ∷ []) (sym here.files.block)
      ∙ ap (λ (n : ℕ). core.jobs.loose.items ++ here.mine.files.block ∷ n ∷ []) (sym here.files.segment)
      ∙ ap (λ (k : Option OpenFlush). core.jobs.loose.items ++ files_of_flush k) (sym here.known) ∙ sym dropped.loose;
  next_file = has.next_file ∙ sym dropped.next_file;
  begun = has.begun ∙ sym dropped.begun;
  jobs = fit_ended core.jobs jobs core.list (ends_one core.jobs jobs here.mine here.known dropped) has.jobs;
  used = used_dropped core.list m.state here.job here.is_open has.used;
  pins = has.pins;
  pinned = has.pinned;
  read_only = has.read_only;
}

pub did_dropped : {D : Type 0} (g : Ghosts D) (only_now : OnlyNow g) (old : Core D) (live : LiveParts) (jobs : Jobs) (number file : ℕ)
    → ((m : Machine) → HasState old.state m → IsOpenHere old.state m number file) → Dropped old.state.jobs jobs
    → live.flushing ≡ [] → live.head ≡ old.state.live.flushing ++ old.state.live.head → live.live ≡ old.state.live.live
    → Did g old (DropFlush number) Fine (record old { state = record old.state { live = live; jobs = jobs } })
did_dropped {D} g only_now old live jobs number file here dropped gone back same =
    quiet g only_now old (record old.state { live = live; jobs = jobs }) refl (DropFlush number) Fine (λ f b. refl) (λ e. let bad : Fine ≡ Refused Fault = e in cc) (λ n. refl) refl refl (λ shows. tt) (λ told m s. tt)
    (λ told m s.
    let mine = here m s.has in
    let m' = with_state (after_drop_flush mine.job m.state) m in
    let step : Step (g.faults old.disk) (g.faults old.disk) m (DropFlush number) Fine m' = Succeeds refl (mine.job, mine.is_open, mine.its_number, refl, refl) in (
      m',
      stands_kept told told (g.held old.disk) (g.held old.disk) (g.may_leave old.disk) (g.may_leave old.disk) old.state (record old.state { live = live; jobs = jobs }) m m' (g.faults old.disk) (g.faults old.disk) (DropFlush number) Fine
          (λ t. t) s step refl (has_dropped old.state live jobs m number file mine s.has dropped gone back same) refl
          (λ t image left. (image, left, keeps_same image)) s.built s.settled (λ free. free)
          (λ t free. no_segment (g.held old.disk) (g.may_leave old.disk) jobs dropped.gone)
          (λ t free. logged_still (g.held old.disk) old.state.list (g.faults old.disk) (g.faults old.disk) m m' (DropFlush number) Fine step refl (s.logged t free)),
      refl,
      step,
    ))
