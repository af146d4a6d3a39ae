-- What a crash might have left before a line it might still have left after the last one, whatever the bytes are. So each opening that is
-- refused for its bytes is refused for some that it might have left, and each that goes well is told how many entries some of these have; and
-- as long as the store stays closed for them, the disk's bytes break first at that place, so that no opening goes well.
use Rattle.std.specs.Prelude.{⊤, IfSome}
use Rattle.std.proofs.Common.{◌≡◌, ℕ, ◌≤◌, List, [], ◌∷◌, Option, None, Some, Result, Ok, Err, IsTrue, refl, sym, subst}
use Rattle.block_list.specs.Loading.{KeepsList}
use Rattle.disk_model.specs.Calls.{Passes}
use Rattle.disk_model.specs.Images.{Image}
use Rattle.disk_model.specs.declared.disk.Device.{Ghosts}
use Rattle.disk_model.proofs.CallRuns.{passes_none, passes_then}
use Rattle.session_text.specs.declared.reply.Reply.{Reply}
use Rattle.store_state.specs.Made.{AreMade, Call}
use Rattle.store_core.specs.Port.{port_of}
use Rattle.store_files.specs.declared.error.OpenError.{OpenError}
use Rattle.store_files.specs.declared.error.OpenError.TheVariants as error
use Rattle.store_files.specs.declared.error.OpenError.TheVariants.{Fault, Memory, NotStore}
use Rattle.store_core.specs.declared.store.Core.{Core}
use Rattle.store_reopen.specs.Reopened.{Reopens, disk_of}
use Rattle.store_reopen.specs.declared.store.Store.{Store}
use Rattle.store_reopen.specs.declared.store.Store.TheVariants.{Closed, Open}
use Rattle.session_meaning.specs.Act.{Act}
use Rattle.session_meaning.specs.Act.Act.{Ask, Reopen, Unread}
use Rattle.session_meaning.specs.Over.{AreDoneOver, IsDoneOver, reopened_reply}
use Rattle.session_meaning.specs.Stops.{FitBytes, FitsBytes, HoldsBroken, StaysBroken, broken_after, broken_at}
use Rattle.session_meaning.proofs.BrokenPlaces.{one_place, still_breaks}
use Rattle.session_meaning.proofs.StoreSessions.{one_tells}

memory_is_no_fault : error.Memory ≡ error.Fault → ⊥
memory_is_no_fault is = cc

broken_is_no_fault : (file at : ℕ) → error.NotStore file at ≡ error.Fault → ⊥
broken_is_no_fault file at is = cc

module _ {D : Type 0} (g : Ghosts D) where
  calls_pass : (old new : Core D) (calls : List Call) → AreMade (port_of g) old calls new → Passes g old.disk new.disk
  calls_pass old new [] made = subst (λ (core : Core D). Passes g old.disk core.disk) (sym made) (passes_none g old.disk)
  calls_pass old new (c ∷ cs) made =
      let did = made.1.did in
      passes_then g old.disk made.0.disk new.disk did.counts.time (calls_pass made.0 new cs made.2)

  one_passes : (act : Act) (old new : Store D) (reply : Reply) → IsDoneOver g act old reply new → Passes g (disk_of old) (disk_of new)
  one_passes (Ask item) (Open core) new reply (later, is, one) =
      subst (λ (store : Store D). Passes g core.disk (disk_of store)) (sym is) (calls_pass core later one.calls one.made)
  one_passes (Ask item) (Closed disk) new reply bad = absurd bad
  one_passes (Reopen moment) old new reply (result, is, again) = again.counts.time
  one_passes Unread (Open core) new reply bad = absurd bad
  one_passes Unread (Closed disk) new reply (told, is) = subst (λ (store : Store D). Passes g disk (disk_of store)) (sym is) (passes_none g disk)

  all_pass : (acts : List Act) (replies : List Reply) (old new : Store D) → AreDoneOver g old acts replies new → Passes g (disk_of old) (disk_of new)
  all_pass [] replies old new h = subst (λ (store : Store D). Passes g (disk_of old) (disk_of store)) (sym h.1) (passes_none g (disk_of old))
  all_pass (a ∷ more) [] old new h = absurd h
  all_pass (a ∷ more) (r ∷ rs) old new (between, here, later) =
      passes_then g (disk_of old) (disk_of between) (disk_of new) (one_passes a old between r here) (all_pass more rs between new later)

  -- ---- what the disk holds as a line is done

  opening_fits : (left : Image → Type 0) (moment : ℕ) (disk : D) (store : Store D) (result : Result ℕ OpenError) → IsTrue (g.tells disk) → left (g.held disk)
      → Reopens g disk moment store result → FitsBytes left (Reopen moment) (reopened_reply result)
  opening_fits left moment disk store (Ok entries) tells here again = (g.held disk, here, again.unbroken tells, again.entries tells)
  opening_fits left moment disk store (Err Fault) tells here again = tt
  opening_fits left moment disk store (Err (NotStore file at)) tells here again = (g.held disk, here, again.breaks tells file at refl)
  opening_fits left moment disk store (Err Memory) tells here again = tt

  one_fits : (left : Image → Type 0) (act : Act) (old new : Store D) (reply : Reply) → IsTrue (g.tells (disk_of old)) → left (g.held (disk_of old))
      → IsDoneOver g act old reply new → FitsBytes left act reply
  one_fits left (Ask (Ok request)) (Open core) new reply tells here (later, is, one) = one.is.whole tells
  one_fits left (Ask (Ok request)) (Closed disk) new reply tells here bad = absurd bad
  one_fits left (Ask (Err why)) old new reply tells here is = tt
  one_fits left (Reopen moment) old new reply tells here (result, is, again) =
      subst (λ (r : Reply). FitsBytes left (Reopen moment) r) (sym is) (opening_fits left moment (disk_of old) new result tells here again)
  one_fits left Unread old new reply tells here is = tt

  -- ---- a store that is closed for its bytes

  -- If there is a place at which its bytes broke, the store is closed, and its disk holds them.
  abbrev IsBroken : Option (ℕ × ℕ) → Store D → Type 0
  IsBroken None store = ⊤
  IsBroken (Some place) (Open core) = ⊥
  IsBroken (Some place) (Closed disk) = HoldsBroken (g.held disk) place

  kept_broken : (was : Option (ℕ × ℕ)) (old new : Store D) (later : D) → new ≡ Closed later → KeepsList (g.held (disk_of old)) (g.held (disk_of new)) → IsBroken was old → IsBroken was new
  kept_broken None old new later is keeps broken = tt
  kept_broken (Some place) (Open core) new later is keeps bad = absurd bad
  kept_broken (Some place) (Closed disk) new later is keeps broken =
      subst (λ (store : Store D). IsBroken (Some place) store) (sym is)
      (still_breaks (g.held disk) (g.held later) place.0 place.1 (subst (λ (store : Store D). KeepsList (g.held disk) (g.held (disk_of store))) is keeps) broken)

  opening_broken : (moment : ℕ) (old new : Store D) (result : Result ℕ OpenError) (was : Option (ℕ × ℕ)) → IsTrue (g.tells (disk_of old)) → Reopens g (disk_of old) moment new result
      → IsBroken was old → IsBroken (broken_at was (Reopen moment) (reopened_reply result)) new
  opening_broken moment old new (Ok entries) was tells again broken = tt
  opening_broken moment old new (Err Fault) was tells again broken = tt
  opening_broken moment old new (Err (NotStore file at)) was tells again broken =
      let keeps = (again.left tells (λ is. broken_is_no_fault file at is)).bytes in
      let after = subst (λ (store : Store D). KeepsList (g.held (disk_of old)) (g.held (disk_of store))) again.closed.1 keeps in
      subst (λ (store : Store D). IsBroken (Some (file, at)) store) (sym again.closed.1)
      (still_breaks (g.held (disk_of old)) (g.held again.closed.0) file at after (again.breaks tells file at refl))
  opening_broken moment old new (Err Memory) was tells again broken =
      kept_broken was old new again.closed.0 again.closed.1 (again.left tells (λ is. memory_is_no_fault is)).bytes broken

  asked_broken : (was : Option (ℕ × ℕ)) (core : Core D) (new : Store D) → IsBroken was (Open core) → IsBroken was new
  asked_broken None core new broken = tt
  asked_broken (Some place) core new bad = absurd bad

  one_broken : (act : Act) (old new : Store D) (reply : Reply) (was : Option (ℕ × ℕ)) → IsTrue (g.tells (disk_of old)) → IsDoneOver g act old reply new → IsBroken was old
      → IsBroken (broken_at was act reply) new
  one_broken (Ask item) (Open core) new reply was tells is broken = asked_broken was core new broken
  one_broken (Ask item) (Closed disk) new reply was tells bad broken = absurd bad
  one_broken (Reopen moment) old new reply was tells (result, is, again) broken =
      subst (λ (r : Reply). IsBroken (broken_at was (Reopen moment) r) new) (sym is) (opening_broken moment old new result was tells again broken)
  one_broken Unread (Open core) new reply was tells bad broken = absurd bad
  one_broken Unread (Closed disk) new reply was tells (told, is) broken = subst (λ (store : Store D). IsBroken was store) (sym is) broken

  all_broken : (acts : List Act) (replies : List Reply) (old new : Store D) (was : Option (ℕ × ℕ)) → IsTrue (g.tells (disk_of old)) → AreDoneOver g old acts replies new → IsBroken was old
      → IsBroken (broken_after was acts replies) new
  all_broken [] replies old new was tells h broken = subst (λ (store : Store D). IsBroken was store) (sym h.1) broken
  all_broken (a ∷ more) [] old new was tells h broken = absurd h
  all_broken (a ∷ more) (r ∷ rs) old new was tells (between, here, later) broken =
      all_broken more rs between new (broken_at was a r) (one_tells g a old between r here tells) later (one_broken a old between r was tells here broken)

  held_broken : (was : Option (ℕ × ℕ)) (store : Store D) → IsBroken was store → IfSome was (HoldsBroken (g.held (disk_of store)))
  held_broken None store broken = tt
  held_broken (Some place) (Open core) bad = absurd bad
  held_broken (Some place) (Closed disk) broken = broken

  pub closed_for : (acts : List Act) (replies : List Reply) (old new : Store D) → IsTrue (g.tells (disk_of old)) → AreDoneOver g old acts replies new
      → IfSome (broken_after None acts replies) (HoldsBroken (g.held (disk_of new)))
  closed_for acts replies old new tells over = held_broken (broken_after None acts replies) new (all_broken acts replies old new None tells over tt)

  -- ---- each line's reply, as the store is closed for its bytes or not

  opening_stays : (moment : ℕ) (place : ℕ × ℕ) (disk : D) (store : Store D) (result : Result ℕ OpenError) → IsTrue (g.tells disk) → Reopens g disk moment store result
      → HoldsBroken (g.held disk) place → StaysBroken place (Reopen moment) (reopened_reply result)
  opening_stays moment place disk store (Ok entries) tells again broken = again.unbroken tells place.0 place.1 broken
  opening_stays moment place disk store (Err Fault) tells again broken = tt
  opening_stays moment place disk store (Err (NotStore file at)) tells again broken = one_place (g.held disk) place.0 place.1 file at broken (again.breaks tells file at refl)
  opening_stays moment place disk store (Err Memory) tells again broken = tt

  closed_stays : (act : Act) (place : ℕ × ℕ) (disk : D) (new : Store D) (reply : Reply) → IsTrue (g.tells disk) → HoldsBroken (g.held disk) place → IsDoneOver g act (Closed disk) reply new
      → StaysBroken place act reply
  closed_stays (Ask item) place disk new reply tells broken done = tt
  closed_stays (Reopen moment) place disk new reply tells broken (result, is, again) =
      subst (λ (r : Reply). StaysBroken place (Reopen moment) r) (sym is) (opening_stays moment place disk new result tells again broken)
  closed_stays Unread place disk new reply tells broken done = tt

  one_stays : (act : Act) (old new : Store D) (reply : Reply) (was : Option (ℕ × ℕ)) → IsTrue (g.tells (disk_of old)) → IsBroken was old → IsDoneOver g act old reply new
      → IfSome was (λ place. StaysBroken place act reply)
  one_stays act old new reply None tells broken done = tt
  one_stays act (Open core) new reply (Some place) tells bad done = absurd bad
  one_stays act (Closed disk) new reply (Some place) tells broken done = closed_stays act place disk new reply tells broken done

  module _ (held_may_stay : (disk : D) → IsTrue (g.tells disk) → g.may_leave disk (g.held disk))
      (counts_now : (disk : D) (start : ℕ) (image : Image) → start ≤ g.moment disk → g.may_leave disk image → g.left_since disk start image) (start : D) where
    fit_from : (acts : List Act) (replies : List Reply) (old new : Store D) (was : Option (ℕ × ℕ)) → Passes g start (disk_of old) → IsTrue (g.tells (disk_of old)) → IsBroken was old
        → AreDoneOver g old acts replies new → FitBytes (g.left_since (disk_of new) (g.moment start)) was acts replies
    fit_from [] replies old new was early tells broken h = tt
    fit_from (a ∷ more) [] old new was early tells broken h = tt
    fit_from (a ∷ more) (r ∷ rs) old new was early tells broken (between, here, later) =
        let disk = disk_of old in
        let now = counts_now disk (g.moment start) (g.held disk) early.later (held_may_stay disk tells) in
        let left = (all_pass (a ∷ more) (r ∷ rs) old new (between, here, later)).keeps (g.moment start) (g.held disk) early.later now in (
          one_fits (g.left_since (disk_of new) (g.moment start)) a old between r tells left here,
          one_stays a old between r was tells broken here,
          fit_from more rs between new (broken_at was a r) (passes_then g start disk (disk_of between) early (one_passes a old between r here)) (one_tells g a old between r here tells)
              (one_broken a old between r was tells here broken) later,
        )

    pub all_fit : (acts : List Act) (replies : List Reply) (old new : Store D) → Passes g start (disk_of old) → IsTrue (g.tells (disk_of old)) → AreDoneOver g old acts replies new
        → FitBytes (g.left_since (disk_of new) (g.moment start)) None acts replies
    all_fit acts replies old new early tells over = fit_from acts replies old new None early tells tt over
