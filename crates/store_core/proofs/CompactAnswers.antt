-- What the steps of a compaction's commit tell, put together.
use Rattle.std.proofs.Common.{◌≡◌, inr, ℕ, zero, suc, ◌-◌, ◌*◌, ◌<◌, ◌≤◌, ◌==◌, Bool, true, false, not, List, [], ◌∷◌, ◌++◌, length, length-append, take, Some, None, Option, IfSome, IsTrue, if◌then◌else◌, refl, sym, ◌∙◌, ap, subst, arith}
use Rattle.std.specs.Prelude.{Vec, ◌||◌, ◌&&◌}
use Rattle.std.specs.Vec.{vec_len, vec_capacity}
use Rattle.std.specs.declared.alloc.Global.{Global}
use Rattle.disk_model.specs.Images.{bytes_of}
use Rattle.disk_model.specs.declared.disk.Device.{Ghosts}
use Rattle.block_info.specs.InfoParts.{InfoParts}
use Rattle.block_list.specs.Body.{MeetsRules, successor}
use Rattle.block_list.specs.declared.body.ListBody.{ListBody}
use Rattle.store_model.specs.State.{without_pin}
use Rattle.store_model.specs.Holds.{IsOpenCompact}
use Rattle.store_model.specs.Step.{Machine, broken}
use Rattle.store_model.proofs.Numbers.{same_number}
use Rattle.store_state.specs.Given.{info_files}
use Rattle.store_state.specs.Parted.{inside}
use Rattle.store_state.specs.Written.{NamesJob, IsJoinedBlock}
use Rattle.store_core.specs.Cores.{HasState, StateShows, unsure_of}
use Rattle.store_core.specs.Jobs.{SameCompaction, SameJobs, one_if, open_jobs, files_of_flush}
use Rattle.store_core.specs.NextList.{IsJoinedList, compact_edit, infos_outside}
use Rattle.store_files.specs.Pins.{is_taken, files_at}
use Rattle.store_core.specs.declared.jobs.OpenCompaction.{OpenCompaction}
use Rattle.store_core.specs.declared.state.CoreState.{CoreState}
use Rattle.store_core.specs.declared.store.Core.{Core}
use Rattle.store_core.proofs.CompactCommits.{Joins, joined_rules}
use Rattle.store_core.proofs.CompactFacts.{firsts_for}
use Rattle.store_core.proofs.CompactStates.{TookJoined}
use Rattle.store_core.proofs.Looking.{ShowsPins, shown_less}
use Rattle.store_core.proofs.NextTaken.{joined_loose}
use Rattle.store_core.proofs.OpenCompactions.{IsCompactionHere, compaction_here}
use Rattle.store_core.proofs.JobRooms.{same_flush}
use Rattle.store_core.proofs.RoomLeft.{loose_within, two_of_flush}
use Rattle.store_core.proofs.States.{has_stopped_with}

abbrev Pins : Type 0
Pins = Vec (Option (List ℕ)) Global

-- ---- what is known where the list is made

module _ {D : Type 0} (g : Ghosts D) (old : Core D) (m0 : Machine) (s0 : StateShows g old m0) (number file level pin : ℕ) (infos : List InfoParts) (is : IsOpenCompact m0 (record { number = number; file = file; level = level; pin = pin; files = info_files infos })) (info : InfoParts)
    (writes : old.state.read_only ≡ None) (size : (1 ≤ info.rows) × (info.rows ≤ 1048576)) (names : NamesJob file level info)
    (joined : IsTrue (g.tells old.disk) → IsJoinedBlock (λ f. bytes_of (g.held old.disk) f) (bytes_of (g.held old.disk) file) info infos) where
  abbrev pub here : IsCompactionHere old.state m0 number file level pin (info_files infos)
  here = compaction_here old.state m0 m0 number file level pin (info_files infos) s0.has is s0.has

  -- the list that is made in the room of the commit meets the rules
  pub rules_joined : (files : List ℕ) (count : ℕ) → files ≡ info_files infos → count ≡ info.rows
      → IfSome old.state.jobs.compaction (λ known. (next : ListBody) → IsJoinedList old.state known files count next → MeetsRules next)
  rules_joined files count are counted =
      subst (λ (k : Option OpenCompaction). IfSome k (λ known. (next : ListBody) → IsJoinedList old.state known files count next → MeetsRules next)) (sym here.known)
      (λ next its. joined_rules ⊥ (g.held old.disk) (g.may_leave old.disk) old.state m0 s0 writes number file level pin info.rows infos info here
      (firsts_for ⊥ (g.held old.disk) (g.may_leave old.disk) old.state m0 s0 number file level pin infos here (inr (λ bad. bad)) info (λ bad. absurd bad))
      next (subst (λ (n : ℕ). IsJoinedList old.state here.mine (info_files infos) n next) counted (subst (λ (fs : List ℕ). IsJoinedList old.state here.mine fs count next) are its)) size.0 size.1)

  abbrev pub joins : (list : ListBody) (files : List ℕ) (count : ℕ) → files ≡ info_files infos → count ≡ info.rows → IfSome old.state.jobs.compaction (λ known. IsJoinedList old.state known files count list)
      → Joins old.state (g.held old.disk) (IsTrue (g.tells old.disk)) number file level pin infos info list
  joins list files count are counted next = record {
    writes = writes;
    here = λ m has. compaction_here old.state m0 m number file level pin (info_files infos) s0.has is has;
    names = names;
    joined = joined;
    some = size.0;
    most = size.1;
    next = λ m has.
        let its = compaction_here old.state m0 m number file level pin (info_files infos) s0.has is has in
        subst (λ (n : ℕ). IsJoinedList old.state its.mine (info_files infos) n list) counted (subst (λ (fs : List ℕ). IsJoinedList old.state its.mine fs count list) are
        (subst (λ (k : Option OpenCompaction). IfSome k (λ known. IsJoinedList old.state known files count list)) its.known next));
  }

  -- once its pin ended
  pub pins_ended : (later : List (Option (List ℕ))) → ((other : ℕ) → is_taken other later ≡ (is_taken other old.state.pins.items && not (pin == other)))
      → ((other : ℕ) → files_at other later ≡ (if pin == other then [] else files_at other old.state.pins.items))
      → (m : Machine) → (has : HasState old.state m) → ShowsPins (without_pin (compaction_here old.state m0 m number file level pin (info_files infos) s0.has is has).mine.pin m.state.pins) later
  pins_ended later taken named m has =
      subst (λ (n : ℕ). ShowsPins (without_pin n m.state.pins) later) (sym (compaction_here old.state m0 m number file level pin (info_files infos) s0.has is has).its_pin)
      (shown_less old.state m pin later has taken named)

-- a number that is taken is one of the list's
pub taken_inside : (pins : List (Option (List ℕ))) (number : ℕ) → is_taken number pins ≡ true → number < length pins
taken_inside [] zero taken = absurd (let bad : false ≡ true = taken in cc)
taken_inside [] (suc n) taken = absurd (let bad : false ≡ true = taken in cc)
taken_inside (p ∷ ps) zero taken = omega arith
taken_inside (p ∷ ps) (suc n) taken = omega (arith, taken_inside ps n taken)

-- ---- the memory in which the room of the commit was taken, with other pins

abbrev pub spent : CoreState → OpenCompaction → Pins → CoreState
spent core mine pins = record core { pins = pins; jobs = record core.jobs { compaction = Some (record mine { room = None }) } }

pub spent_is : (core later : CoreState) (mine : OpenCompaction) (pins : Pins) → core.jobs.compaction ≡ Some mine
    → later ≡ record core { pins = pins; jobs = record core.jobs { compaction = later.jobs.compaction } }
    → IfSome core.jobs.compaction (λ known. later.jobs.compaction ≡ Some (record known { room = None })) → later ≡ spent core mine pins
spent_is core later mine pins known same taken =
    same ∙ ap (λ (o : Option OpenCompaction). record core { pins = pins; jobs = record core.jobs { compaction = o } })
    (subst (λ (k : Option OpenCompaction). IfSome k (λ x. later.jobs.compaction ≡ Some (record x { room = None }))) known taken)

pub infos_spent : (core later : CoreState) (mine : OpenCompaction) (pins : Pins) → later ≡ spent core mine pins → later.infos.items ≡ core.infos.items
infos_spent core later mine pins is = ap (λ (x : CoreState). x.infos.items) is

pub unsure_spent : (core later : CoreState) (mine : OpenCompaction) (pins : Pins) → later ≡ spent core mine pins → unsure_of later ≡ unsure_of core
unsure_spent core later mine pins is = ap unsure_of is

pub unsure_after : (core before later : CoreState) (mine : OpenCompaction) (pins : Pins) → before ≡ spent core mine pins → later.unsure ≡ before.unsure → unsure_of later ≡ unsure_of core
unsure_after core before later mine pins is same = unsure_same before later same ∙ ap unsure_of is
  where
    unsure_same : (a b : CoreState) → b.unsure ≡ a.unsure → unsure_of b ≡ unsure_of a
    unsure_same a b is = cc

-- the generation after the list's
pub next_generation : (core : CoreState) (mine : OpenCompaction) (files : List ℕ) (count : ℕ) (list : ListBody) → core.jobs.compaction ≡ Some mine
    → IfSome core.jobs.compaction (λ known. IsJoinedList core known files count list) → list.generation ≡ successor core.list.generation
next_generation core mine files count list known next =
    let its : IsJoinedList core mine files count list = subst (λ (k : Option OpenCompaction). IfSome k (λ x. IsJoinedList core x files count list)) known next in its.generation

-- ---- where a commit failed

-- the pin is back
pub pin_back : (before between after : List (Option (List ℕ))) (number : ℕ) → is_taken number before ≡ true
    → ((other : ℕ) → is_taken other between ≡ (is_taken other before && not (number == other)))
    → ((other : ℕ) → is_taken other after ≡ (is_taken other between || (number == other)))
    → (n : ℕ) → is_taken n after ≡ is_taken n before
pin_back before between after number taken first second n = second n ∙ ap (λ (b : Bool). b || (number == n)) (first n) ∙ by (number == n) refl (is_taken n before) refl
  where
    by : (t : Bool) → (number == n) ≡ t → (a : Bool) → is_taken n before ≡ a → ((a && not t) || t) ≡ a
    by true e true f = refl
    by true e false f = absurd (let bad : true ≡ false = sym taken ∙ ap (λ (k : ℕ). is_taken k before) (same_number number n e) ∙ f in cc)
    by false e true f = refl
    by false e false f = refl

-- and names its files
pub files_back : (before between after : List (Option (List ℕ))) (number : ℕ) (files : List ℕ) → files ≡ files_at number before
    → ((other : ℕ) → files_at other between ≡ (if number == other then [] else files_at other before))
    → ((other : ℕ) → files_at other after ≡ (if number == other then files else files_at other between))
    → (n : ℕ) → files_at n after ≡ files_at n before
files_back before between after number files are first second n = second n ∙ ap (λ (fs : List ℕ). if number == n then files else fs) (first n) ∙ by (number == n) refl
  where
    by : (t : Bool) → (number == n) ≡ t → (if t then files else (if t then [] else files_at n before)) ≡ files_at n before
    by true e = are ∙ ap (λ (k : ℕ). files_at k before) (same_number number n e)
    by false e = refl

has_spent : (core : CoreState) (mine : OpenCompaction) (pins : Pins) (faults : ℕ) (m : Machine) → core.jobs.compaction ≡ Some mine
    → ((n : ℕ) → is_taken n pins.items ≡ is_taken n core.pins.items) → ((n : ℕ) → files_at n pins.items ≡ files_at n core.pins.items)
    → HasState core m → HasState (record (spent core mine pins) { read_only = Some faults }) (broken faults m)
has_spent core mine pins faults m known taken named has = has_stopped_with core (spent core mine pins).jobs pins faults m has same (omega arith) taken named
  where
    same : SameJobs core.jobs (spent core mine pins).jobs
    same = record {
      begun = refl;
      next_file = refl;
      loose = refl;
      flush = same_flush core.jobs.flush;
      compaction = subst (λ (k : Option OpenCompaction). SameCompaction k (Some (record mine { room = None }))) (sym known) (None, refl);
    }

pub has_stopped_spent : (core later : CoreState) (mine : OpenCompaction) (before pins : Pins) (faults : ℕ) (m : Machine) → core.jobs.compaction ≡ Some mine → later ≡ spent core mine before
    → ((n : ℕ) → is_taken n pins.items ≡ is_taken n core.pins.items) → ((n : ℕ) → files_at n pins.items ≡ files_at n core.pins.items)
    → HasState core m → HasState (record later { pins = pins; read_only = Some faults }) (broken faults m)
has_stopped_spent core later mine before pins faults m known is taken named has =
    subst (λ (x : CoreState). HasState (record x { pins = pins; read_only = Some faults }) (broken faults m)) (sym is) (has_spent core mine pins faults m known taken named has)

-- ---- the memory that took over the list

-- the list names the files of an open flush
pub others_fit : (core later : CoreState) (mine : OpenCompaction) (pins : Pins) (files : List ℕ) (count : ℕ) (list : ListBody) → core.jobs.compaction ≡ Some mine → later ≡ spent core mine pins
    → IfSome core.jobs.compaction (λ known. IsJoinedList core known files count list) → 2 * one_if later.jobs.flush ≤ length list.loose
others_fit core later mine pins files count list known is next =
    let its : IsJoinedList core mine files count list = subst (λ (k : Option OpenCompaction). IfSome k (λ x. IsJoinedList core x files count list)) known next in
    let all = ap (λ (l : List ℕ). length l) (joined_loose core mine files count list its) ∙ length-append (core.jobs.loose.items ++ inside files core.list.blocks) (files_of_flush core.jobs.flush) in
    let two = two_of_flush core.jobs.flush in
    subst (λ (x : CoreState). 2 * one_if x.jobs.flush ≤ length list.loose) (sym is) (omega (arith, all, two))

-- and so many loose files have room
pub loose_fits : (core later : CoreState) (mine : OpenCompaction) (pins : Pins) (files : List ℕ) (count : ℕ) (list : ListBody) (m : Machine) → HasState core m → core.jobs.compaction ≡ Some mine → later ≡ spent core mine pins
    → IfSome core.jobs.compaction (λ known. IsJoinedList core known files count list) → length list.loose ≤ vec_capacity later.jobs.loose
loose_fits core later mine pins files count list m has known is next =
    let its : IsJoinedList core mine files count list = subst (λ (k : Option OpenCompaction). IfSome k (λ x. IsJoinedList core x files count list)) known next in
    let one : one_if core.jobs.compaction ≡ 1 = ap (λ (o : Option OpenCompaction). one_if o) known in
    subst (λ (x : CoreState). length list.loose ≤ vec_capacity x.jobs.loose) (sym is)
    (loose_within core.list (compact_edit core mine files count) list (vec_len core.jobs.loose) (2 * one_if core.jobs.flush) (open_jobs core.jobs) (vec_capacity core.jobs.loose) its (sym core.jobs.loose.ok.0)
    (two_of_flush core.jobs.flush) (omega (arith, one)) (has.jobs.room (omega (arith, one))))

pub took_joined : (core before later : CoreState) (list : ListBody) (info : InfoParts) (files joined : List ℕ) (mine : OpenCompaction) (pins : Pins) → core.jobs.compaction ≡ Some mine → before ≡ spent core mine pins → files ≡ joined
    → later.list ≡ list → later.infos.items ≡ infos_outside files before.infos.items ++ info ∷ []
    → (later.jobs.compaction ≡ None) × (later.jobs.flush ≡ before.jobs.flush) × (later.jobs.begun ≡ before.jobs.begun) × (later.jobs.next_file ≡ before.jobs.next_file)
    → later.jobs.loose.items ≡ take (length list.loose - 2 * one_if before.jobs.flush) list.loose
    → (vec_capacity before.jobs.loose ≤ vec_capacity later.jobs.loose) × (vec_capacity before.infos ≤ vec_capacity later.infos)
    → (later.live ≡ before.live) × (later.segment ≡ before.segment) × (later.pins ≡ before.pins) × (later.read_only ≡ before.read_only) × (later.unsure ≡ before.unsure)
    → TookJoined core later list info joined
took_joined core before later list info files joined mine pins known is are listing infos jobs loose room same = record {
  listing = listing;
  infos = infos ∙ ap (λ (fs : List ℕ). infos_outside fs before.infos.items ++ info ∷ []) are ∙ ap (λ (x : CoreState). infos_outside joined x.infos.items ++ info ∷ []) is;
  begun = jobs.2 ∙ ap (λ (x : CoreState). x.jobs.begun) is;
  next_file = jobs.3 ∙ ap (λ (x : CoreState). x.jobs.next_file) is;
  loose = loose ∙ ap (λ (x : CoreState). take (length list.loose - 2 * one_if x.jobs.flush) list.loose) is;
  was_open = ap one_if known;
  none = jobs.0;
  flush = jobs.1 ∙ ap (λ (x : CoreState). x.jobs.flush) is;
  room = subst (λ (x : CoreState). vec_capacity x.jobs.loose ≤ vec_capacity later.jobs.loose) is room.0;
  info_room = subst (λ (x : CoreState). vec_capacity x.infos ≤ vec_capacity later.infos) is room.1;
  live = same.0 ∙ ap (λ (x : CoreState). x.live) is;
  segment = same.1 ∙ ap (λ (x : CoreState). x.segment) is;
  read_only = same.3 ∙ ap (λ (x : CoreState). x.read_only) is;
}

pub pins_after : (core before later : CoreState) (mine : OpenCompaction) (pins : Pins) → before ≡ spent core mine pins → later.pins ≡ before.pins → later.pins.items ≡ pins.items
pins_after core before later mine pins is same = pins_same before later same ∙ ap (λ (x : CoreState). x.pins.items) is
  where
    pins_same : (a b : CoreState) → b.pins ≡ a.pins → b.pins.items ≡ a.pins.items
    pins_same a b is = cc
