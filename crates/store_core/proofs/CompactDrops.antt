-- A compaction that is given up, as an event of a core.
use Rattle.std.proofs.Common.{◌≡◌, inl, inr, ℕ, ◌≤◌, ◌==◌, Bool, not, List, [], ◌∷◌, ◌++◌, length, Some, None, Option, refl, sym, ◌∙◌, ap, subst, arith, if◌then◌else◌}
use Rattle.std.specs.Prelude.{Vec, ◌&&◌}
use Rattle.std.specs.Vec.{vec_capacity}
use Rattle.std.specs.declared.alloc.Global.{Global}
use Rattle.disk_model.specs.declared.disk.Device.{Ghosts}
use Rattle.store_model.specs.After.{after_drop_compact}
use Rattle.store_model.specs.Event.Event.{DropCompact}
use Rattle.store_model.specs.Event.Reply.{Fine, Refused}
use Rattle.store_model.specs.Event.Refusal.{Fault}
use Rattle.store_model.specs.Step.{Machine, Step, with_state}
use Rattle.store_model.specs.Step.Step.{Succeeds}
use Rattle.store_images.proofs.Keeping.{keeps_same}
use Rattle.store_files.specs.Pins.{is_taken, files_at}
use Rattle.store_core.specs.Jobs.{ShowsFlush, ShowsCompaction, files_of_compaction, one_if}
use Rattle.store_core.specs.declared.jobs.Jobs.{Jobs}
use Rattle.store_core.specs.declared.jobs.OpenFlush.{OpenFlush}
use Rattle.store_core.specs.declared.jobs.OpenCompaction.{OpenCompaction}
use Rattle.store_core.specs.declared.state.CoreState.{CoreState}
use Rattle.store_core.specs.declared.store.Core.{Core}
use Rattle.store_core.specs.Cores.{HasState}
use Rattle.store_core.specs.Events.{Did}
use Rattle.store_core.proofs.Kept.{stands_kept}
use Rattle.store_core.proofs.InUse.{used_dropped_compact}
use Rattle.store_core.proofs.Logged.{logged_still}
use Rattle.store_core.proofs.JobRooms.{EndsOne, fit_ended, rooms_ended, loose_more, one_none, one_some, fresh_as}
use Rattle.store_core.proofs.OpenCompactions.{IsCompactionHere, model_of}
use Rattle.store_files.proofs.PinNumbers.{among-less, files-less}
use Rattle.store_core.proofs.PushEvents.{OnlyNow}
use Rattle.store_core.proofs.Quiet.{quiet}

-- the memory of a core in which no compaction is open any more
pub record Dropped (old : Jobs) (new : Jobs) : Type 0 where
  pub gone : new.compaction ≡ None
  pub loose : new.loose.items ≡ old.loose.items ++ files_of_compaction old.compaction
  pub begun : new.begun ≡ old.begun
  pub next_file : new.next_file ≡ old.next_file
  pub flush : new.flush ≡ old.flush
  pub capacity : vec_capacity old.loose ≤ vec_capacity new.loose

-- a pin's number was given back
pub record GaveBack (number : ℕ) (old new : List (Option (List ℕ))) : Type 0 where
  pub taken : (other : ℕ) → is_taken other new ≡ (is_taken other old && not (number == other))
  pub files : (other : ℕ) → files_at other new ≡ (if number == other then [] else files_at other old)

-- the other job has the room that it needs
ends_one : (old new : Jobs) (mine : OpenCompaction) → old.compaction ≡ Some mine → Dropped old new → EndsOne old new
ends_one old new mine known dropped = record {
  fewer =
      let one = one_some old.compaction mine known in
      let none = one_none new.compaction dropped.gone in
      let same : one_if new.flush ≡ one_if old.flush = ap one_if dropped.flush in
      omega (arith, one, none, same);
  few =
      let more = loose_more old.loose new.loose (files_of_compaction old.compaction) dropped.loose in
      let one : length (files_of_compaction old.compaction) ≡ 1 = ap (λ (k : Option OpenCompaction). length (files_of_compaction k)) known in
      omega (arith, more, one);
  capacity = dropped.capacity;
  next_file = dropped.next_file;
  flush = inr dropped.flush;
  compaction = inl dropped.gone;
}

has_dropped : (core : CoreState) (jobs : Jobs) (pins : Vec (Option (List ℕ)) Global) (m : Machine) (number file level pin : ℕ) (files : List ℕ) (here : IsCompactionHere core m number file level pin files)
    → HasState core m → Dropped core.jobs jobs → GaveBack pin core.pins.items pins.items
    → HasState (record core { jobs = jobs; pins = pins }) (with_state (after_drop_compact (model_of here.mine) m.state) m)
has_dropped core jobs pins m number file level pin files here has dropped back = record {
  count = has.count;
  few = has.few;
  live = has.live;
  head = has.head;
  flushing = has.flushing;
  flush = subst (λ (k : Option OpenFlush). ShowsFlush k m.state.flush) (sym dropped.flush) has.flush;
  compaction = subst (λ (k : Option OpenCompaction). ShowsCompaction k None) (sym dropped.gone) refl;
  blocks = has.blocks;
  infos = has.infos;
  listed = has.listed;
  commit = λ free. rooms_ended core.jobs jobs core.list core.infos (ends_one core.jobs jobs here.mine here.known dropped) (has.commit free);
  rules = has.rules;
  segments = has.segments;
  last = has.last;
  floor = has.floor;
  loose = ap (λ (l : List ℕ). l ++ here.mine.file ∷ []) has.loose
      ∙ ap (λ (k : Option OpenCompaction). core.jobs.loose.items ++ files_of_compaction k) (sym here.known) ∙ sym dropped.loose;
  next_file = has.next_file ∙ sym dropped.next_file;
  begun = has.begun ∙ sym dropped.begun;
  jobs = fit_ended core.jobs jobs core.list (ends_one core.jobs jobs here.mine here.known dropped) has.jobs;
  used = used_dropped_compact core.list m.state (model_of here.mine) here.is_open has.used;
  pins = λ n. among-less n here.mine.pin m.state.pins ∙ ap (λ (b : Bool). b && not (here.mine.pin == n)) (has.pins n)
      ∙ ap (λ (k : ℕ). is_taken n core.pins.items && not (k == n)) here.its_pin ∙ sym (back.taken n);
  pinned = λ n. files-less n here.mine.pin m.state.pins ∙ ap (λ (fs : List ℕ). if here.mine.pin == n then [] else fs) (has.pinned n)
      ∙ ap (λ (k : ℕ). if k == n then [] else files_at n core.pins.items) here.its_pin ∙ sym (back.files n);
  read_only = has.read_only;
}

pub did_dropped : {D : Type 0} (g : Ghosts D) (only_now : OnlyNow g) (old : Core D) (jobs : Jobs) (pins : Vec (Option (List ℕ)) Global) (number file level pin : ℕ) (files : List ℕ)
    → ((m : Machine) → HasState old.state m → IsCompactionHere old.state m number file level pin files) → Dropped old.state.jobs jobs → GaveBack pin old.state.pins.items pins.items
    → Did g old (DropCompact number) Fine (record old { state = record old.state { jobs = jobs; pins = pins } })
did_dropped {D} g only_now old jobs pins number file level pin files here dropped back =
    quiet g only_now old (record old.state { jobs = jobs; pins = pins }) refl (DropCompact number) Fine (λ f b. refl) (λ e. let bad : Fine ≡ Refused Fault = e in cc) (λ n. refl) refl refl (λ shows. tt) (λ told m s. tt)
    (λ told m s.
    let mine = here m s.has in
    let m' = with_state (after_drop_compact (model_of mine.mine) m.state) m in
    let step : Step (g.faults old.disk) (g.faults old.disk) m (DropCompact number) Fine m' = Succeeds refl (model_of mine.mine, mine.is_open, mine.its_number, refl, refl) in (
      m',
      stands_kept told told (g.held old.disk) (g.held old.disk) (g.may_leave old.disk) (g.may_leave old.disk) old.state (record old.state { jobs = jobs; pins = pins }) m m' (g.faults old.disk) (g.faults old.disk) (DropCompact number) Fine
          (λ t. t) s step refl (has_dropped old.state jobs pins m number file level pin files mine s.has dropped back) refl
          (λ t image left. (image, left, keeps_same image)) s.built s.settled (λ free. free)
          (λ t free. fresh_as (g.held old.disk) (g.may_leave old.disk) old.state.jobs jobs dropped.flush (s.fresh t free))
          (λ t free. logged_still (g.held old.disk) old.state.list (g.faults old.disk) (g.faults old.disk) m m' (DropCompact number) Fine step refl (s.logged t free)),
      refl,
      step,
    ))
