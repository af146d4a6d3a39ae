-- What the steps of a flush's commit tell, put together.
use Rattle.std.proofs.Common.{◌≡◌, inl, inr, ℕ, ◌-◌, ◌≤◌, List, [], ◌∷◌, ◌++◌, length, length-append, map, take, Some, None, Option, IfSome, IsTrue, refl, sym, ◌∙◌, ap, subst, arith}
use Rattle.std.specs.Vec.{vec_len, vec_capacity}
use Rattle.span_types.specs.First.{IsFirstOf}
use Rattle.block_format.specs.Blocks.{BlockHasInfo}
use Rattle.span_types.specs.declared.spans.Row.{Row}
use Rattle.disk_model.specs.Images.{bytes_of}
use Rattle.disk_model.specs.declared.disk.Device.{Ghosts}
use Rattle.block_info.specs.InfoParts.{InfoParts}
use Rattle.block_list.specs.Body.{MeetsRules, successor}
use Rattle.block_list.specs.declared.body.ListBody.{ListBody}
use Rattle.store_model.specs.History.{count_of}
use Rattle.store_model.specs.State.{flush_rows}
use Rattle.store_model.specs.After.{released}
use Rattle.store_model.specs.Event.{Event}
use Rattle.store_model.specs.Event.Reply.{Refused}
use Rattle.store_model.specs.Event.Refusal.{Fault as IsFault}
use Rattle.store_model.specs.Holds.{IsOpenFlush}
use Rattle.store_model.specs.Step.{Machine, broken}
use Rattle.store_state.specs.Listed.{segment_of}
use Rattle.store_state.specs.Written.{NamesJob, IsBlockOf}
use Rattle.store_core.specs.Jobs.{SameFlush, SameJobs, one_if, open_jobs, files_of_compaction}
use Rattle.store_core.specs.NextList.{IsNextList, flush_edit, length_of, next_floor}
use Rattle.store_core.specs.declared.jobs.OpenFlush.{OpenFlush}
use Rattle.store_core.specs.declared.state.CoreState.{CoreState}
use Rattle.store_core.specs.declared.store.Core.{Core}
use Rattle.store_core.specs.Cores.{HasState, StateShows, unsure_of}
use Rattle.store_core.specs.Events.{Did}
use Rattle.store_model.proofs.FirstsExist.{firsts_exist}
use Rattle.store_core.proofs.CommitEnds.{IsDecided, true_or_not}
use Rattle.store_core.proofs.FlushCommits.{Commits, meets_rules}
use Rattle.store_core.proofs.CommitStates.{TookOver}
use Rattle.store_core.proofs.NextTaken.{flush_loose}
use Rattle.store_core.proofs.OpenJobs.{IsOpenHere, open_here}
use Rattle.store_core.proofs.JobRooms.{same_compaction}
use Rattle.store_core.proofs.RoomLeft.{loose_within, one_of_compaction}
use Rattle.store_core.proofs.States.{has_stopped_with}

-- a block has as many rows as its information says
pub counted_by : (info : InfoParts) (bytes : List ℕ) (rows : List Row) → BlockHasInfo info bytes rows → info.rows ≡ length rows
counted_by info bytes rows has = ap (λ (i : InfoParts). i.rows) has.info_is

-- The first occurrences of a flush's rows, of which the bytes are a block where they are told.
pub record FlushFirsts (told : Type 0) (own : List ℕ) (info : InfoParts) (rows : List Row) : Type 0 where
  pub firsts : List Row
  pub are_first : IsFirstOf rows firsts
  pub block : told → BlockHasInfo info own firsts

pub flush_firsts : (told : Type 0) (own : List ℕ) (info : InfoParts) (rows : List Row) → IsDecided told → (told → IsBlockOf own info rows) → FlushFirsts told own info rows
flush_firsts told own info rows (inl known) block = record { firsts = (block known).firsts; are_first = (block known).are_first; block = λ t. (block known).block }
flush_firsts told own info rows (inr never) block = let found = firsts_exist rows in record { firsts = found.0; are_first = found.1; block = λ t. absurd (never t) }

-- the core as it is said
pub did_stopped : {D : Type 0} (g : Ghosts D) (old new target : Core D) (event : Event) → new ≡ target → Did g old event (Refused IsFault) target → Did g old event (Refused IsFault) new
did_stopped {D} g old new target event same did = subst (λ (s : Core D). Did g old event (Refused IsFault) s) (sym same) did

-- the flush that is given back is the one that every machine has open
pub flush_here : (core : CoreState) (m0 m : Machine) (number file : ℕ) (rows : List Row) → HasState core m0 → IsOpenFlush m0 (record { number = number; file = file; rows = rows }) → HasState core m → IsOpenHere core m number file
flush_here core m0 m number file rows its is has = open_here core m0 m number file is.job its is.is_open is.its_number is.its_file has

pub rows_here : (core : CoreState) (m0 : Machine) (number file : ℕ) (rows : List Row) → HasState core m0 → IsOpenFlush m0 (record { number = number; file = file; rows = rows }) → core.live.flushing ≡ rows
rows_here core m0 number file rows its is = its.flushing ∙ ap flush_rows is.is_open ∙ is.its_rows

module _ {D : Type 0} (g : Ghosts D) (old : Core D) (m0 : Machine) (s0 : StateShows g old m0) (number file : ℕ) (rows : List Row) (is : IsOpenFlush m0 (record { number = number; file = file; rows = rows })) (info : InfoParts)
    (writes : old.state.read_only ≡ None) (size : (1 ≤ info.rows) × (info.rows ≤ 1048576)) (names : NamesJob file 0 info) (block : IsTrue (g.tells old.disk) → IsBlockOf (bytes_of (g.held old.disk) file) info rows) where
  abbrev found : FlushFirsts (IsTrue (g.tells old.disk)) (bytes_of (g.held old.disk) file) info rows
  found = flush_firsts (IsTrue (g.tells old.disk)) (bytes_of (g.held old.disk) file) info rows (true_or_not (g.tells old.disk)) block

  abbrev pub firsts : List Row
  firsts = found.firsts

  abbrev here : IsOpenHere old.state m0 number file
  here = flush_here old.state m0 m0 number file rows s0.has is s0.has

  -- the list that is made in the room of the commit meets the rules
  pub rules_known : (count : ℕ) → count ≡ info.rows → IfSome old.state.jobs.flush (λ known. (next : ListBody) → IsNextList old.state known.files count next → MeetsRules next)
  rules_known count counted = subst (λ (k : Option OpenFlush). IfSome k (λ known. (next : ListBody) → IsNextList old.state known.files count next → MeetsRules next)) (sym here.known)
      (λ next its. meets_rules ⊥ (g.held old.disk) (g.may_leave old.disk) old.state m0 s0 writes number file info.rows here found.firsts
      (subst (λ (r : List Row). IsFirstOf r found.firsts) (sym (sym (s0.has.flushing ∙ ap flush_rows here.is_open) ∙ rows_here old.state m0 number file rows s0.has is)) found.are_first)
      next (subst (λ (n : ℕ). IsNextList old.state here.mine.files n next) counted its) size.0 size.1)

  abbrev pub commits : (list : ListBody) (count : ℕ) → count ≡ info.rows → IfSome old.state.jobs.flush (λ known. IsNextList old.state known.files count list)
      → Commits old.state (g.held old.disk) (IsTrue (g.tells old.disk)) number file info.rows rows found.firsts info list
  commits list count counted next = record {
    writes = writes;
    here = λ m has. flush_here old.state m0 m number file rows s0.has is has;
    its_rows = rows_here old.state m0 number file rows s0.has is;
    are_first = found.are_first;
    block = found.block;
    its_info = record { file_is = names.its_file; level = names.its_level; rows = refl };
    counted = λ told. counted_by info (bytes_of (g.held old.disk) file) found.firsts (found.block told);
    some = size.0;
    most = size.1;
    next = λ m has. subst (λ (n : ℕ). IsNextList old.state (flush_here old.state m0 m number file rows s0.has is has).mine.files n list) counted
        (subst (λ (k : Option OpenFlush). IfSome k (λ known. IsNextList old.state known.files count list)) (flush_here old.state m0 m number file rows s0.has is has).known next);
  }

-- ---- the memory in which the room of the commit was taken

abbrev pub spent : CoreState → OpenFlush → CoreState
spent core mine = record core { jobs = record core.jobs { flush = Some (record mine { room = None }) } }

pub spent_is : (core later : CoreState) (mine : OpenFlush) → core.jobs.flush ≡ Some mine → later ≡ record core { jobs = record core.jobs { flush = later.jobs.flush } }
    → IfSome core.jobs.flush (λ known. later.jobs.flush ≡ Some (record known { room = None })) → later ≡ spent core mine
spent_is core later mine known same taken =
    same ∙ ap (λ (f : Option OpenFlush). record core { jobs = record core.jobs { flush = f } })
    (subst (λ (k : Option OpenFlush). IfSome k (λ x. later.jobs.flush ≡ Some (record x { room = None }))) known taken)

pub infos_spent : (core later : CoreState) (mine : OpenFlush) → later ≡ spent core mine → later.infos.items ≡ core.infos.items
infos_spent core later mine is = ap (λ (x : CoreState). x.infos.items) is

pub unsure_spent : (core later : CoreState) (mine : OpenFlush) → later ≡ spent core mine → unsure_of later ≡ unsure_of core
unsure_spent core later mine is = ap unsure_of is

-- the generation after the list's
pub next_generation : (core : CoreState) (mine : OpenFlush) (count : ℕ) (list : ListBody) → core.jobs.flush ≡ Some mine → IfSome core.jobs.flush (λ known. IsNextList core known.files count list) → list.generation ≡ successor core.list.generation
next_generation core mine count list known next =
    let its : IsNextList core mine.files count list = subst (λ (k : Option OpenFlush). IfSome k (λ x. IsNextList core x.files count list)) known next in its.generation

has_spent : (core : CoreState) (mine : OpenFlush) (faults : ℕ) (m : Machine) → core.jobs.flush ≡ Some mine → HasState core m → HasState (record (spent core mine) { read_only = Some faults }) (broken faults m)
has_spent core mine faults m known has = has_stopped_with core (spent core mine).jobs core.pins faults m has same (omega arith) (λ n. refl) (λ n. refl)
  where
    same : SameJobs core.jobs (spent core mine).jobs
    same = record {
      begun = refl;
      next_file = refl;
      loose = refl;
      flush = subst (λ (k : Option OpenFlush). SameFlush k (Some (record mine { room = None }))) (sym known) (None, refl);
      compaction = same_compaction core.jobs.compaction;
    }

pub has_stopped_spent : (core later : CoreState) (mine : OpenFlush) (faults : ℕ) (m : Machine) → core.jobs.flush ≡ Some mine → later ≡ spent core mine → HasState core m → HasState (record later { read_only = Some faults }) (broken faults m)
has_stopped_spent core later mine faults m known is has =
    subst (λ (x : CoreState). HasState (record x { read_only = Some faults }) (broken faults m)) (sym is) (has_spent core mine faults m known has)

-- ---- the memory that took over the list

-- the list names the file of the other job
pub other_named : (core before : CoreState) (mine : OpenFlush) (count : ℕ) (list : ListBody) → core.jobs.flush ≡ Some mine → before ≡ spent core mine
    → IfSome core.jobs.flush (λ known. IsNextList core known.files count list) → one_if before.jobs.compaction ≤ length list.loose
other_named core before mine count list known is next =
    let its : IsNextList core mine.files count list = subst (λ (k : Option OpenFlush). IfSome k (λ x. IsNextList core x.files count list)) known next in
    let front : List ℕ = core.jobs.loose.items ++ released (next_floor core) (map segment_of (core.list.segments ++ record { file = mine.files.segment; first = length_of core } ∷ [])) in
    let named = ap (λ (l : List ℕ). length l) (flush_loose core mine.files count list its) in
    let joined = length-append front (files_of_compaction core.jobs.compaction) in
    let file = one_of_compaction core.jobs.compaction in
    subst (λ (x : CoreState). one_if x.jobs.compaction ≤ length list.loose) (sym is) (omega (arith, named, joined, file))

-- and so many loose files have room
pub loose_fits : (core before : CoreState) (mine : OpenFlush) (count : ℕ) (list : ListBody) (m : Machine) → HasState core m → core.jobs.flush ≡ Some mine → before ≡ spent core mine
    → IfSome core.jobs.flush (λ known. IsNextList core known.files count list) → length list.loose ≤ vec_capacity before.jobs.loose
loose_fits core before mine count list m has known is next =
    let its : IsNextList core mine.files count list = subst (λ (k : Option OpenFlush). IfSome k (λ x. IsNextList core x.files count list)) known next in
    let one : one_if core.jobs.flush ≡ 1 = ap (λ (o : Option OpenFlush). one_if o) known in
    subst (λ (x : CoreState). length list.loose ≤ vec_capacity x.jobs.loose) (sym is)
    (loose_within core.list (flush_edit core mine.files count) list (vec_len core.jobs.loose) (one_if core.jobs.compaction) (open_jobs core.jobs) (vec_capacity core.jobs.loose) its (sym core.jobs.loose.ok.0)
    (one_of_compaction core.jobs.compaction) (omega (arith, one)) (has.jobs.room (omega (arith, one))))

pub took_over : (core before later : CoreState) (list : ListBody) (info : InfoParts) (m : Machine) (mine : OpenFlush) → HasState core m → core.jobs.flush ≡ Some mine → before ≡ spent core mine
    → later.list ≡ list → later.infos.items ≡ before.infos.items ++ info ∷ [] → IfSome before.jobs.flush (λ known. later.segment.file ≡ known.files.segment)
    → (later.segment.first ≡ length_of before) × (later.segment.count ≡ 0) × (later.segment.gate ≡ 1)
    → (later.jobs.flush ≡ None) × (later.jobs.compaction ≡ before.jobs.compaction) × (later.jobs.begun ≡ before.jobs.begun) × (later.jobs.next_file ≡ before.jobs.next_file)
    → later.jobs.loose.items ≡ take (length list.loose - one_if before.jobs.compaction) list.loose
    → (vec_capacity before.jobs.loose ≤ vec_capacity later.jobs.loose) × (vec_capacity before.infos ≤ vec_capacity later.infos)
    → (later.live.flushing ≡ []) × (later.live.head ≡ before.live.head) × (later.live.live ≡ before.live.live)
    → (later.pins ≡ before.pins) × (later.read_only ≡ before.read_only) × (later.unsure ≡ before.unsure)
    → TookOver core later list info mine.files.segment (count_of m.history)
took_over core before later list info m mine has known is listing infos segment empty jobs loose room rows same = record {
  listing = listing;
  infos = infos ∙ ap (λ (x : CoreState). x.infos.items ++ info ∷ []) is;
  file_is = subst (λ (x : CoreState). IfSome x.jobs.flush (λ known. later.segment.file ≡ known.files.segment)) is segment;
  first_is = empty.0 ∙ ap length_of is ∙ sym has.count;
  count = empty.1;
  gate = empty.2;
  begun = jobs.2 ∙ ap (λ (x : CoreState). x.jobs.begun) is;
  next_file = jobs.3 ∙ ap (λ (x : CoreState). x.jobs.next_file) is;
  loose = loose ∙ ap (λ (x : CoreState). take (length list.loose - one_if x.jobs.compaction) list.loose) is;
  was_open = ap (λ (o : Option OpenFlush). one_if o) known;
  none = jobs.0;
  compaction = jobs.1 ∙ ap (λ (x : CoreState). x.jobs.compaction) is;
  room = subst (λ (x : CoreState). vec_capacity x.jobs.loose ≤ vec_capacity later.jobs.loose) is room.0;
  info_room = subst (λ (x : CoreState). vec_capacity x.infos ≤ vec_capacity later.infos) is room.1;
  gone = rows.0;
  head = rows.1 ∙ ap (λ (x : CoreState). x.live.head) is;
  rows = rows.2 ∙ ap (λ (x : CoreState). x.live.live) is;
  pins = pins_same before later same.0 ∙ ap (λ (x : CoreState). x.pins.items) is;
  read_only = same.1 ∙ ap (λ (x : CoreState). x.read_only) is;
}
  where
    pins_same : (a b : CoreState) → b.pins ≡ a.pins → b.pins.items ≡ a.pins.items
    pins_same a b is = cc

pub unsure_after_spent : (core before later : CoreState) (mine : OpenFlush) → before ≡ spent core mine → later.unsure ≡ before.unsure → unsure_of later ≡ unsure_of core
unsure_after_spent core before later mine is same = unsure_same before later same ∙ ap unsure_of is
  where
    unsure_same : (a b : CoreState) → b.unsure ≡ a.unsure → unsure_of b ≡ unsure_of a
    unsure_same a b is = cc
