-- What the core of a new store stands for.
use Rattle.std.proofs.Common.{◌≡◌, inl, inr, ℕ, [], ◌∷◌, map, Some, None, Option, refl, sym, ◌∙◌, ap, subst, arith}
use Rattle.disk_model.specs.Images.{Image}
use Rattle.block_list.specs.Body.{MeetsRules}
use Rattle.block_list.specs.declared.body.ListBody.{ListBody}
use Rattle.store_entries.specs.declared.entry.Entry.{Entry}
use Rattle.store_model.specs.History.{History}
use Rattle.store_model.specs.Sound.{StateIsSound}
use Rattle.store_model.proofs.Numbers.{times_one, times_not}
use Rattle.store_images.specs.Stored.{MayStandFor}
use Rattle.store_images.specs.Settled.{Tail, IsSettled}
use Rattle.store_images.proofs.Lists.{not_in_nil}
use Rattle.store_images.proofs.Storing.{settled_now}
use Rattle.store_core.specs.declared.state.CoreState.{CoreState}
use Rattle.store_state.specs.Given.{info_files}
use Rattle.store_files.specs.Pins.{is_taken, files_at}
use Rattle.store_core.specs.Cores.{StandsFor, segment_of, unsure_of}
use Rattle.store_files.specs.BlockReading.{listed_as}
use Rattle.store_files.specs.LogReading.{tail_of}
use Rattle.store_core.specs.Jobs.{ShowsFlush, ShowsCompaction, HasNoJobs}
use Rattle.store_core.specs.declared.jobs.OpenFlush.{OpenFlush}
use Rattle.store_core.specs.declared.jobs.OpenCompaction.{OpenCompaction}
use Rattle.store_core.specs.New.{new_list, new_tail, IsEmptyHistory, IsNewStore}
use Rattle.store_core.specs.NewCore.{new_machine, IsNewState}
use Rattle.store_core.specs.InUse.{AreInUse}
use Rattle.store_core.proofs.InUse.{used_listed}
use Rattle.store_core.proofs.Described.{none_described}
use Rattle.store_core.proofs.NoJobs.{no_commit_room, no_segment, none_fit}
use Rattle.store_core.proofs.States.{ref_to}
use Rattle.store_core.proofs.Founding.{rules_new}

-- a history of nothing
abbrev pub no_history : History
no_history = record { base = []; start = 0; entries = [] }

pub no_history_is_empty : IsEmptyHistory no_history
no_history_is_empty = record {
  no_rows = record {
    firsts = λ k. refl;
    one = λ x y hx hy e. absurd (not_in_nil x hx);
    below = λ x c. absurd (not_in_nil x c);
  };
  no_entries = refl;
}

new_sound : (h : History) → StateIsSound (new_machine h).state
new_sound h = record {
  files = record {
    slots = λ file low. let none = times_not file 2 (inr low) in omega (arith, none);
    first = omega arith;
    new = λ file above. let none = times_not file 2 (inl (omega (arith, above))) in omega (arith, none);
    once = λ file. let one = times_one file 2 in omega (arith, one);
    pinned = λ file some. absurd (omega (arith, some));
  };
  numbers = record {
    pins = λ n. omega arith;
    jobs = λ n. omega arith;
    new = λ n above. refl;
  };
  fits = record { files = omega arith; jobs = omega arith };
  joining = λ job is. absurd (let bad : None ≡ Some job = is in cc);
}

pub new_stands : (told : Type 0) (held : Image) (may_leave : Image → Type 0) (core : CoreState) (h : History) → IsNewState core → (told → IsNewStore held may_leave) → IsEmptyHistory h
    → StandsFor told held may_leave core (new_machine h)
new_stands told held may_leave core h new made empty = record {
  has = new.has h empty;
  agrees = empty.no_rows;
  sound = new_sound h;
  above = record { waiting = λ row c. absurd (not_in_nil row c); next = omega arith };
  built = λ t. none_described held core.infos.items (new.has h empty).infos;
  now = λ t image left. subst (λ (u : Option Entry). MayStandFor h u image) (sym new.sure) (settled_now held may_leave new_list [] new_tail h (made t h empty) image left);
  settled = λ t free. subst (λ (l : ListBody). IsSettled held may_leave l [] (tail_of core.segment) h) (sym new.list) (subst (λ (x : Tail). IsSettled held may_leave new_list [] x h) (sym new.tail) (made t h empty));
  sure = λ free. new.sure;
  fresh = λ t free. no_segment held may_leave core.jobs new.jobs.flush;
  logged = λ t free batches holds x c. absurd (not_in_nil x c);
}

pub new_state_is : (core : CoreState) → core.list ≡ new_list → core.live.live ≡ [] → core.live.head ≡ [] → core.live.flushing ≡ [] → core.infos.items ≡ []
    → core.segment.file ≡ 2 → core.segment.first ≡ 0 → core.segment.count ≡ 0 → core.segment.gate ≡ 1 → core.pins.items ≡ [] → core.read_only ≡ None → unsure_of core ≡ None → HasNoJobs core.jobs core.list.next_file → IsNewState core
new_state_is core list live head flushing infos file first count gate pins writes sure jobs = record {
  has = λ h empty. record {
    count = (let none = empty.no_entries in omega (arith, none, first, count));
    few = omega (arith, first, count);
    live = sym live;
    head = sym head;
    flushing = flushing;
    flush = subst (λ (k : Option OpenFlush). ShowsFlush k None) (sym jobs.flush) refl;
    compaction = subst (λ (k : Option OpenCompaction). ShowsCompaction k None) (sym jobs.compaction) refl;
    blocks = ap (λ (l : ListBody). l.blocks) list;
    infos = ap info_files infos;
    listed = ap (map listed_as) infos ∙ sym (ap (λ (l : ListBody). l.blocks) list);
    commit = λ free. no_commit_room core.jobs core.list core.infos jobs.flush jobs.compaction;
    rules = subst MeetsRules (sym list) rules_new;
    segments = sym (ap (λ (l : ListBody). map segment_of l.segments) list);
    last = ([], ap (λ (l : ListBody). l.segments) list ∙ ap (λ (n : ℕ). ref_to n 0 ∷ []) (sym file) ∙ ap (λ (n : ℕ). ref_to core.segment.file n ∷ []) (sym first));
    floor = sym (ap (λ (l : ListBody). l.floor) list);
    loose = sym jobs.loose;
    next_file = sym (jobs.next_file_is ∙ ap (λ (l : ListBody). l.next_file) list);
    begun = sym jobs.begun;
    jobs = none_fit core.jobs core.list (let same = jobs.next_file_is in omega (arith, same)) jobs.flush jobs.compaction;
    used = subst (λ (l : ListBody). AreInUse l (new_machine h).state) (sym list)
        (used_listed new_list (new_machine h).state (record { blocks = refl; segments = refl; floor = refl; loose = refl; next_file = refl }));
    pins = λ n. sym (ap (is_taken n) pins);
    pinned = λ n. sym (ap (files_at n) pins);
    read_only = sym writes;
  };
  list = list;
  tail = ap (λ (n : ℕ). record { file = n; first = core.segment.first; count = core.segment.count; gate = core.segment.gate }) file
      ∙ ap (λ (n : ℕ). record { file = 2; first = n; count = core.segment.count; gate = core.segment.gate }) first
      ∙ ap (λ (n : ℕ). record { file = 2; first = 0; count = n; gate = core.segment.gate }) count
      ∙ ap (λ (n : ℕ). record { file = 2; first = 0; count = 0; gate = n }) gate;
  writes = writes;
  sure = sure;
  jobs = jobs;
}
