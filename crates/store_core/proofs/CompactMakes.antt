-- What a compaction that begins makes in memory, and the event that it is then.
use Rattle.std.proofs.Common.{◌≡◌, ◌≢◌, ℕ, ◌+◌, ◌-◌, ◌^◌, ◌≤◌, ◌==◌, min, List, [], ◌∷◌, length, map, Some, None, Option, IfSome, IsTrue, not, refl, sym, ◌∙◌, ap, subst, arith, if◌then◌else◌, Result, IsOk, IsErr}
use Rattle.std.specs.Prelude.{Vec, ◌&&◌}
use Rattle.std.specs.Vec.{vec_len, vec_capacity}
use Rattle.std.specs.List.{Contains}
use Rattle.std.specs.declared.alloc.Global.{Global}
use Rattle.span_types.specs.declared.errors.Failed.{Failed}
use Rattle.disk_model.specs.Calls.{Calls}
use Rattle.disk_model.specs.Images.{bytes_of}
use Rattle.disk_model.specs.Crash.{Run}
use Rattle.disk_model.specs.declared.disk.Device.{Ghosts}
use Rattle.block_info.specs.InfoParts.{InfoParts}
use Rattle.block_list.specs.declared.body.BlockRef.{BlockRef}
use Rattle.block_list.specs.declared.body.ListBody.{ListBody}
use Rattle.store_model.specs.State.{Block}
use Rattle.store_model.specs.Choice.{choice, level_of}
use Rattle.store_model.specs.Event.Event.{BeginCompact}
use Rattle.store_model.specs.Event.Reply.{Compacting, Refused}
use Rattle.store_model.specs.Event.Refusal.{ReadOnly, Busy, FilesSpent, Fault, Memory}
use Rattle.store_model.specs.Step.{Machine, early}
use Rattle.store_state.specs.Given.{info_files}
use Rattle.store_state.specs.Listed.{picked, ref_of}
use Rattle.store_state.specs.Shown.{told_block, IsChoiceOf, AreFew, AreBlocks, JoinsChoice}
use Rattle.store_state.specs.Replies.{begin_refusal}
use Rattle.store_state.specs.declared.errors.BeginError.{BeginError}
use Rattle.store_state.specs.declared.errors.BeginError.TheVariants.{ReadOnly as IsReadOnly, Busy as IsBusy, FilesSpent as AreSpent, Fault as Faulted, Memory as Lacking}
use Rattle.store_state.specs.declared.jobs.Pin.{Pin}
use Rattle.store_files.specs.Files.{SameBelow, IsEmptied}
use Rattle.store_files.specs.Pins.{is_taken, files_at}
use Rattle.store_core.specs.Jobs.{CommitFits, SameJobs, SameFlush}
use Rattle.store_core.specs.Beginning.{MayCompact, HasRoomStill, HasRoomToBegin, IsMade, IsNotMade, at_places}
use Rattle.store_core.specs.declared.jobs.Jobs.{Jobs}
use Rattle.store_core.specs.declared.jobs.OpenFlush.{OpenFlush}
use Rattle.store_core.specs.declared.room.CommitRoom.{CommitRoom}
use Rattle.store_core.specs.declared.state.CoreState.{CoreState}
use Rattle.store_core.specs.declared.store.Core.{Core}
use Rattle.store_core.specs.Cores.{CoreStandsFor, HasState, StateShows}
use Rattle.store_files.specs.BlockReading.{listed_as}
use Rattle.store_core.specs.Events.{Did}
use Rattle.store_core.proofs.ChosenBlocks.{chosen_files, chosen_level, told_choice, in_places, some_there, level_fits, joins_choice, blocks_at}
use Rattle.store_core.proofs.CompactBegins.{Begun, Pins, IsChoice, did_compact, did_compact_fail, did_lack_compact, did_not_compact, given_back}
use Rattle.store_core.proofs.JobRooms.{RoomOfFlush}
use Rattle.store_core.proofs.KeptFiles.{kept_low}
use Rattle.store_core.proofs.ListedBlocks.{whole_kept}
use Rattle.store_core.proofs.MadeRooms.{not_made}
use Rattle.store_core.proofs.PushEvents.{OnlyNow}

-- ---- what was chosen

-- what law says of few blocks
abbrev pub ChoiceIsFew : Type 0
ChoiceIsFew = (listed : List InfoParts) (level : ℕ) (pinned : List InfoParts) → IsChoiceOf listed level pinned → 1 ≤ length pinned → AreFew level pinned

abbrev pub Picks : List BlockRef → List ℕ → Type 0
Picks refs chosen = (listed : List Block) → map ref_of listed ≡ refs → picked chosen listed ≡ choice listed

module _ (core : CoreState) (chosen : List ℕ) (level : ℕ) (pinned : List InfoParts) (are : pinned ≡ at_places chosen core.infos.items) (is : level ≡ min (level_of (map told_block pinned) + 1) 255)
    (picks : Picks core.list.blocks chosen) (may : MayCompact core chosen) (few : ChoiceIsFew) where
  theirs : (info : InfoParts) → Contains pinned info → Contains core.infos.items info
  theirs info inside = in_places chosen core.infos.items info (subst (λ (l : List InfoParts). Contains l info) are inside)

  some : (m : Machine) → HasState core m → 1 ≤ length pinned
  some m has =
      let all : length core.list.blocks ≡ length core.infos.items = ap length (sym has.listed) ∙ mapped core.infos.items in
      subst (λ (l : List InfoParts). 1 ≤ length l) (sym are) (some_there chosen core.infos.items (length core.list.blocks) all may.some may.ascend)
    where
      mapped : (infos : List InfoParts) → length (map listed_as infos) ≡ length infos
      mapped [] = refl
      mapped (i ∷ is) = let more = mapped is in omega (arith, more)

  level_is : (m : Machine) → HasState core m → (level ≡ level_of (map told_block pinned) + 1) × (level ≤ 63)
  level_is m has = level_fits few core.infos.items pinned level (told_choice core chosen pinned are picks has.listed) theirs (some m has) is

  pub choice_made : (m : Machine) → HasState core m → IsChoice level (info_files pinned) m
  choice_made m has = ((level_is m has).0 ∙ ap (λ (n : ℕ). n + 1) (chosen_level core chosen pinned are picks m has), chosen_files core chosen pinned are picks m has, (level_is m has).1)

  pub joins_made : (m : Machine) → HasState core m → JoinsChoice (λ infos. infos ≡ core.infos.items) level pinned
  joins_made m has = joins_choice core.infos.items pinned level (told_choice core chosen pinned are picks has.listed) theirs (some m has) (level_is m has).0

pub blocks_made : {D : Type 0} (g : Ghosts D) (new : Core D) (chosen : List ℕ) (pinned : List InfoParts) (m : Machine) → pinned ≡ at_places chosen new.state.infos.items → IsTrue (g.tells new.disk) → CoreStandsFor g new m
    → AreBlocks (λ file. bytes_of (g.held new.disk) file) pinned
blocks_made g new chosen pinned m are told s =
    subst (λ (l : List InfoParts). AreBlocks (λ file. bytes_of (g.held new.disk) file) l) (sym are)
    (at_places chosen (map (λ (b : Block). b.rows) m.state.blocks), blocks_at (λ file. bytes_of (g.held new.disk) file) chosen new.state.infos.items (map (λ (b : Block). b.rows) m.state.blocks) (s.stands.built told))

-- the same where the file that is emptied for the new block is the next one
pub whole_made : {D : Type 0} (g : Ghosts D) (old : Core D) (disk : D) (chosen : List ℕ) (pinned : List InfoParts) (next : ℕ) (m : Machine) → pinned ≡ at_places chosen old.state.infos.items → next ≡ old.state.jobs.next_file
    → ((other : ℕ) → other ≢ next → bytes_of (g.held disk) other ≡ bytes_of (g.held old.disk) other) → StateShows g old m → AreBlocks (λ file. bytes_of (g.held old.disk) file) old.state.infos.items
    → AreBlocks (λ file. bytes_of (g.held disk) file) pinned
whole_made g old disk chosen pinned next m are given same s whole =
    let still = whole_kept (g.held old.disk) (g.held disk) old.state m s.has
    (λ file is. same file (let under = kept_low m.state s.sound file is in let its = s.has.next_file in λ e. omega (arith, e, under, its, given))) whole in
    subst (λ (l : List InfoParts). AreBlocks (λ file. bytes_of (g.held disk) file) l) (sym are)
    (at_places chosen still.0, blocks_at (λ file. bytes_of (g.held disk) file) chosen old.state.infos.items still.0 still.1)

-- ---- the event

pins_made : (old new : CoreState) (chosen : List ℕ) (level : ℕ) (pin : Pin) (room : CommitRoom) → IsMade old chosen level pin room new → Pins pin.number (info_files pin.blocks) old.pins.items new.pins.items
pins_made old new chosen level pin room made = record { free = made.free; least = made.least; taken = made.taken; files = made.files }

begun_after : (old mid new : Jobs) (level pin : ℕ) (list : ListBody) (infos : Vec InfoParts Global) (room : CommitRoom) → SameJobs old mid → HasRoomToBegin list infos mid room
    → new.begun ≡ min (mid.begun + 1) (2 ^ 64 - 1) → new.next_file ≡ mid.next_file + 1
    → new.compaction ≡ Some (record { number = new.begun; file = mid.next_file; level = level; pin = pin; room = Some room }) → (new.loose ≡ mid.loose) × (new.flush ≡ mid.flush)
    → Begun old new level pin list room
begun_after old mid new level pin list infos room same made number next compaction still = record {
  next_file = next ∙ ap (λ (n : ℕ). n + 1) same.next_file;
  number = number ∙ ap (λ (n : ℕ). min (n + 1) (2 ^ 64 - 1)) same.begun;
  loose = ap (λ (v : Vec ℕ Global). v.items) still.0 ∙ same.loose;
  compaction = compaction ∙ ap (λ (n : ℕ). Some (record { number = new.begun; file = n; level = level; pin = pin; room = Some room })) same.next_file;
  flush = subst (λ (k : Option OpenFlush). SameFlush old.flush k) (sym still.1) same.flush;
  loose_room = subst (λ (v : Vec ℕ Global). vec_len v + length list.segments + length list.blocks + 4 ≤ vec_capacity v) (sym still.0) made.loose;
  mine = subst (λ (v : Vec ℕ Global). CommitFits room list (vec_len v) 2) (sym still.0) made.mine;
  other = subst (λ (v : Vec ℕ Global). RoomOfFlush list (vec_len v) 2 new.flush) (sym still.0)
      (subst (λ (k : Option OpenFlush). RoomOfFlush list (vec_len mid.loose) 2 k) (sym still.1) made.other.flush);
}

module _ {D : Type 0} (g : Ghosts D) (old : Core D) (disk : D) (chosen : List ℕ) (level : ℕ) (pin : Pin) (room : CommitRoom) (mid : CoreState) (made : IsMade old.state chosen level pin room mid)
    (may : MayCompact old.state chosen) (free : (m : Machine) → HasState old.state m → early m BeginCompact ≡ None)
    (result : Result (Unit {0}) Failed) (calls : Calls g 2 0 old.disk disk result)
    (run : Run (SameBelow mid.jobs.next_file) g.moment g.left_since g.may_leave old.disk disk)
    (others : IsTrue (g.tells old.disk) → (other : ℕ) → other ≢ mid.jobs.next_file → bytes_of (g.held disk) other ≡ bytes_of (g.held old.disk) other) where
  same_file : mid.jobs.next_file ≡ old.state.jobs.next_file
  same_file = made.still.keeps.same.next_file

  its_run : Run (SameBelow old.state.jobs.next_file) g.moment g.left_since g.may_leave old.disk disk
  its_run = subst (λ (n : ℕ). Run (SameBelow n) g.moment g.left_since g.may_leave old.disk disk) same_file run

  its_others : IsTrue (g.tells old.disk) → (other : ℕ) → other ≢ old.state.jobs.next_file → bytes_of (g.held disk) other ≡ bytes_of (g.held old.disk) other
  its_others told other apart = others told other (λ is. apart (is ∙ same_file))

  pub did_made : IsOk result → (jobs : Jobs) (number : ℕ) → number ≡ jobs.begun → jobs.begun ≡ min (mid.jobs.begun + 1) (2 ^ 64 - 1) → jobs.next_file ≡ mid.jobs.next_file + 1
      → jobs.compaction ≡ Some (record { number = jobs.begun; file = mid.jobs.next_file; level = level; pin = pin.number; room = Some room }) → (jobs.loose ≡ mid.jobs.loose) × (jobs.flush ≡ mid.jobs.flush)
      → Picks old.state.list.blocks chosen → ChoiceIsFew → (IsTrue (g.tells old.disk) → IsEmptied (g.held disk) (g.may_leave disk) mid.jobs.next_file)
      → Did g old BeginCompact (Compacting (record { number = number; file = mid.jobs.next_file; level = level; pin = pin.number; files = info_files pin.blocks })) (record old { disk = disk; state = record mid { jobs = jobs } })
  did_made fine jobs number is now next compaction still picks few empty =
      subst (λ (s : CoreState). Did g old BeginCompact (Compacting (record { number = number; file = mid.jobs.next_file; level = level; pin = pin.number; files = info_files pin.blocks })) (record old { disk = disk; state = record s { jobs = jobs } })) (sym made.still.is)
      (subst (λ (f : ℕ). Did g old BeginCompact (Compacting (record { number = number; file = f; level = level; pin = pin.number; files = info_files pin.blocks })) (record old { disk = disk; state = record old.state { infos = mid.infos; jobs = jobs; pins = mid.pins } })) (sym same_file)
      (subst (λ (n : ℕ). Did g old BeginCompact (Compacting (record { number = n; file = old.state.jobs.next_file; level = level; pin = pin.number; files = info_files pin.blocks })) (record old { disk = disk; state = record old.state { infos = mid.infos; jobs = jobs; pins = mid.pins } })) (sym is)
      (did_compact g old disk may.writes may.none may.files free result calls its_run its_others mid.infos jobs mid.pins level pin.number (info_files pin.blocks) room made.still.keeps.infos made.has_room.infos
      (begun_after old.state.jobs mid.jobs jobs level pin.number old.state.list mid.infos room made.still.keeps.same made.has_room now next compaction still)
      (pins_made old.state mid chosen level pin room made)
      (choice_made old.state chosen level pin.blocks made.blocks made.its_level picks may few)
      fine (λ told. subst (λ (f : ℕ). IsEmptied (g.held disk) (g.may_leave disk) f) same_file (empty told)))))

  pub did_made_fail : (pins : Vec (Option (List ℕ)) Global) (faults : ℕ) → faults ≡ g.faults disk → IsErr result
      → ((other : ℕ) → is_taken other pins.items ≡ (is_taken other mid.pins.items && not (pin.number == other)))
      → ((other : ℕ) → files_at other pins.items ≡ (if pin.number == other then [] else files_at other mid.pins.items))
      → Did g old BeginCompact (Refused Fault) (record old { disk = disk; state = record mid { pins = pins; read_only = Some faults } })
  did_made_fail pins faults counted err taken named =
      subst (λ (s : CoreState). Did g old BeginCompact (Refused Fault) (record old { disk = disk; state = record s { pins = pins; read_only = Some faults } })) (sym made.still.is)
      (did_compact_fail g old disk may.writes may.none may.files free result calls its_run its_others mid.infos mid.jobs pins faults counted err made.still.keeps
      (given_back pin.number (info_files pin.blocks) old.state.pins.items mid.pins.items pins.items (pins_made old.state mid chosen level pin room made) taken named))

pub did_not_make : {D : Type 0} (g : Ghosts D) (only_now : OnlyNow g) (old : Core D) (mid : CoreState) → ((m : Machine) → HasState old.state m → early m BeginCompact ≡ None) → IsNotMade old.state mid
    → Did g old BeginCompact (Refused Memory) (record old { state = mid })
did_not_make g only_now old mid free lacking =
    subst (λ (s : CoreState). Did g old BeginCompact (Refused Memory) (record old { state = s })) (sym lacking.still.is)
    (did_lack_compact g only_now old mid.infos mid.jobs mid.pins free lacking.still.keeps (record { taken = lacking.taken; files = lacking.files }))

-- the information of the listed blocks is the same
pub blocks_still : (old mid : CoreState) (chosen : List ℕ) → HasRoomStill old mid → at_places chosen old.infos.items ≡ at_places chosen mid.infos.items
blocks_still old mid chosen still = ap (λ (l : List InfoParts). at_places chosen l) (sym still.keeps.infos)

-- refused, or out of memory before anything was made
pub did_refused : {D : Type 0} (g : Ghosts D) (only_now : OnlyNow g) (old : Core D) (error : BeginError)
    → ((m : Machine) → HasState old.state m → error ≢ Lacking → early m BeginCompact ≡ Some (Refused (begin_refusal error)))
    → ((m : Machine) → HasState old.state m → error ≡ Lacking → early m BeginCompact ≡ None) → begin_refusal error ≢ Fault
    → Did g old BeginCompact (Refused (begin_refusal error)) (record old { state = old.state })
did_refused g only_now old Lacking refused lacking no_fault = did_not_make g only_now old old.state (λ m has. lacking m has refl) (not_made old.state)
did_refused g only_now old (IsReadOnly faults) refused lacking no_fault = did_not_compact g only_now old (ReadOnly faults) (λ m has. refused m has (λ is. cc)) no_fault
did_refused g only_now old (IsBusy job) refused lacking no_fault = did_not_compact g only_now old (Busy job) (λ m has. refused m has (λ is. cc)) no_fault
did_refused g only_now old (AreSpent next) refused lacking no_fault = did_not_compact g only_now old (FilesSpent next) (λ m has. refused m has (λ is. cc)) no_fault
did_refused g only_now old Faulted refused lacking no_fault = absurd (no_fault refl)

pub of_some : {X : Type 0} (P : X → Type 0) (o : Option X) (x : X) → o ≡ Some x → IfSome o P → P x
of_some {X} P o x is holds = subst (λ (k : Option X). IfSome k P) is holds
