-- How a history goes on over events and reopenings.
use Rattle.std.proofs.Common.{◌≡◌, ◌⊎◌, inl, inr, ℕ, ◌+◌, ◌-◌, ◌≤◌, List, [], ◌∷◌, ◌++◌, length, None, Some, Option, IsTrue, refl, sym, ◌∙◌, ap, subst, arith}
use Rattle.std.proofs.lemmas.List.{take_all}
use Rattle.std.proofs.lemmas.List.Elements.{Contains-append_left, Contains-append_right, Contains-append_cases, Contains-push}
use Rattle.std.specs.List.{Contains}
use Rattle.disk_model.specs.Crash.{LeavesOnly, Reached}
use Rattle.disk_model.specs.Images.{Image}
use Rattle.disk_model.specs.declared.disk.Device.{Ghosts}
use Rattle.disk_model.proofs.Moments.{joined, started, widened}
use Rattle.store_entries.specs.declared.entry.Entry.{Entry}
use Rattle.store_model.specs.Event.{Event, Reply}
use Rattle.store_model.specs.Event.Reply.{Refused}
use Rattle.store_model.specs.Event.Refusal.{Fault}
use Rattle.store_model.specs.History.{History, count_of, grown, up_to, with_entry}
use Rattle.store_model.specs.Step.{Machine}
use Rattle.store_model.specs.Told.{history_after, added_entry}
use Rattle.store_model.proofs.HistoryLaws.{count_grown}
use Rattle.store_model.proofs.KeepsHolds.{grown_up}
use Rattle.store_model.proofs.TellsHistory.{step_tells}
use Rattle.store_images.specs.Stored.{ImageStandsFor, KeepsStored, MayStandFor}
use Rattle.store_core.specs.Cores.{CoreStandsFor, unsure_of}
use Rattle.store_core.specs.Events.{Did, Between, unsure_after}
use Rattle.store_core.specs.Opening.{Opened}
use Rattle.store_files.specs.Loose.{KeepsDisk}
use Rattle.store_core.specs.declared.store.Core.{Core}
use Rattle.store_reopen.specs.Through.{GoesOn, Keeps, KeepsThrough, MayHaveAdded, Pending, StoodAmid, pending_now}

-- ---- what is kept

stays_kept : (h : History) (unsure : Option Entry) (old new : Image) → KeepsStored old new → MayStandFor h unsure old → MayStandFor h unsure new
stays_kept h None old new keeps stands = keeps.stands h stands
stays_kept h (Some entry) old new keeps stands = elim stands [
  | inl one ↦ inl (keeps.stands h one)
  | inr other ↦ inr (keeps.stands (grown h (entry ∷ [])) other)
]

pub keeps_on : {D : Type 0} (g : Ghosts D) (disk later : D) (h : History) (unsure : Option Entry) → Keeps g disk h unsure → g.tells later ≡ g.tells disk
    → KeepsDisk g disk later → Keeps g later h unsure
keeps_on g disk later h unsure keeps telling kept told image left =
    let before = subst IsTrue telling told in
    let from = (kept before).now image left in
    stays_kept h unsure from.0 image from.2 (keeps before from.0 from.1)

-- ---- lengths

now_is : (h : History) → up_to (count_of h) h ≡ h
now_is h = ap (λ (es : List Entry). record { base = h.base; start = h.start; entries = es }) (take_all (h.start + length h.entries - h.start) h.entries (omega arith))

-- what may stand for a history now
amid_now : (least : ℕ) (h : History) (unsure : Option Entry) (pending : List Pending) (image : Image) → least ≤ count_of h → MayStandFor h unsure image
    → StoodAmid least h (pending ++ pending_now h unsure) image
amid_now least h None pending image low stands =
    inl (count_of h, low, omega arith, subst (λ (x : History). ImageStandsFor image x) (sym (now_is h)) stands)
amid_now least h (Some entry) pending image low stands = elim stands [
  | inl one ↦ inl (count_of h, low, omega arith, subst (λ (x : History). ImageStandsFor image x) (sym (now_is h)) one)
  | inr other ↦
      let p : Pending = record { length = count_of h; entry = entry } in
      inr (
        p,
        Contains-push pending p,
        low,
        omega arith,
        subst (λ (x : History). ImageStandsFor image (grown x (entry ∷ []))) (sym (now_is h)) other,
      )
]

-- A history of which the first one is the past.
pub record Follows (h h' : History) : Type 0 where
  pub longer : count_of h ≤ count_of h'
  pub past : (n : ℕ) → n ≤ count_of h → up_to n h' ≡ up_to n h

follows_itself : (h : History) → Follows h h
follows_itself h = record { longer = omega arith; past = λ n le. refl }

follows_entry : (added : Option Entry) (h : History) → Follows h (with_entry added h)
follows_entry None h = follows_itself h
follows_entry (Some entry) h = record {
  longer = let more = count_grown h (entry ∷ []) in omega (arith, more);
  past = λ n le. grown_up h (entry ∷ []) n le;
}

follows_event : (e : Event) (r : Reply) (h h' : History) → h' ≡ history_after e r h → Follows h h'
follows_event e r h h' after = subst (Follows h) (sym after) (follows_entry (added_entry e r) h)

follows_added : (unsure : Option Entry) (h h' : History) → MayHaveAdded unsure h h' → Follows h h'
follows_added None h h' same = subst (Follows h) (sym same) (follows_itself h)
follows_added (Some entry) h h' added = elim added [
  | inl same ↦ subst (Follows h) (sym same) (follows_itself h)
  | inr more ↦ subst (Follows h) (sym more) (follows_entry (Some entry) h)
]

-- what stood for a history stands so for one that follows it, with more entries that weren't sure
amid_later : (least : ℕ) (h h' : History) (pending later : List Pending) (image : Image) → Follows h h'
    → ((p : Pending) → Contains pending p → Contains later p) → StoodAmid least h pending image → StoodAmid least h' later image
amid_later least h h' pending later image follows more stood = elim stood [
  | inl at ↦
      inl (
        at.0,
        at.1,
        (let long = follows.longer in let le = at.2 in omega (arith, long, le)),
        subst (λ (x : History). ImageStandsFor image x) (sym (follows.past at.0 at.2)) at.3,
      )
  | inr one ↦
      inr (
        one.0,
        more one.0 one.1,
        one.2,
        (let long = follows.longer in let le = one.3 in omega (arith, long, le)),
        subst (λ (x : History). ImageStandsFor image (grown x (one.0.entry ∷ []))) (sym (follows.past one.0.length one.3)) one.4,
      )
]

-- ---- the laws

pub core_keeps : {D : Type 0} (g : Ghosts D) (core : Core D) (m : Machine) → CoreStandsFor g core m → Keeps g core.disk m.history (unsure_of core.state)
core_keeps g core m stands = stands.stands.now

-- what a disk keeps now it has kept since now
pub keeps_from_then : {D : Type 0} (g : Ghosts D) (only_now : (disk : D) (image : Image) → g.left_since disk (g.moment disk) image → g.may_leave disk image) (disk : D) (h : History) (unsure : Option Entry)
    → Keeps g disk h unsure → KeepsThrough g disk (count_of h) [] disk h unsure
keeps_from_then g only_now disk h unsure keeps = record {
  now = keeps;
  reached = omega arith;
  past = λ told. started g.moment g.left_since disk (StoodAmid (count_of h) h ([] ++ pending_now h unsure))
      (λ image left. amid_now (count_of h) h unsure [] image (omega arith) (keeps told image (only_now disk image left)));
}

pub keeps_from_now : {D : Type 0} (g : Ghosts D) (only_now : (disk : D) (image : Image) → g.left_since disk (g.moment disk) image → g.may_leave disk image) (core : Core D) (m : Machine)
    → CoreStandsFor g core m → KeepsThrough g core.disk (count_of m.history) [] core.disk m.history (unsure_of core.state)
keeps_from_now g only_now core m stands = keeps_from_then g only_now core.disk m.history (unsure_of core.state) (core_keeps g core m stands)

-- an opening finds what the disk holds
pub goes_on : {D : Type 0} (g : Ghosts D) (held_may_stay : (disk : D) → IsTrue (g.tells disk) → g.may_leave disk (g.held disk)) (disk : D) (core : Core D) (h : History) (unsure : Option Entry) (moment : ℕ)
    → IsTrue (g.tells disk) → Keeps g disk h unsure → Opened g disk moment core → GoesOn g disk moment core h unsure
goes_on g held_may_stay disk core h unsure moment told keeps opened = by_unsure unsure (keeps told (g.held disk) (held_may_stay disk told))
  where
    found : (u : Option Entry) (x : History) → MayHaveAdded u h x → ImageStandsFor (g.held disk) x → GoesOn g disk moment core h u
    found u x added stands =
        let m = opened.stands told x stands in record {
          machine = m.0;
          stands = m.1;
          stored = subst (ImageStandsFor (g.held disk)) (sym m.2) stands;
          history = subst (MayHaveAdded u h) (sym m.2) added;
          begins = m.3;
          sure = m.1.stands.sure (sym m.1.stands.has.read_only ∙ m.3.writes);
        }

    by_unsure : (u : Option Entry) → MayStandFor h u (g.held disk) → GoesOn g disk moment core h u
    by_unsure None stands = found None h refl stands
    by_unsure (Some entry) stands = elim stands [
      | inl same ↦ found (Some entry) h (inl refl) same
      | inr more ↦ found (Some entry) (grown h (entry ∷ [])) (inr refl) more
    ]

-- a disk that is kept
module _ {D : Type 0} (g : Ghosts D) (start disk later : D) (least : ℕ) (pending : List Pending) (h : History) (unsure : Option Entry)
    (keeps : KeepsThrough g start least pending disk h unsure) (telling : g.tells later ≡ g.tells disk) (kept : KeepsDisk g disk later) where
  reached : (image : Image) → IsTrue (g.tells disk) → Reached KeepsStored (g.may_leave disk) image → StoodAmid least h (pending ++ pending_now h unsure) image
  reached image told from =
      amid_now least h unsure pending image keeps.reached (stays_kept h unsure from.0 image from.2 (keeps.now told from.0 from.1))

  left : IsTrue (g.tells later) → LeavesOnly g.moment g.left_since start later (StoodAmid least h (pending ++ pending_now h unsure))
  left told =
      let before = subst IsTrue telling told in
      let amid : Image → Type 0 = StoodAmid least h (pending ++ pending_now h unsure) in
      joined g.moment g.left_since start disk later amid (keeps.past before)
      (widened g.moment g.left_since disk later (Reached KeepsStored (g.may_leave disk)) amid (kept before).since (λ image from. reached image before from))

  pub still_closed : KeepsThrough g start least pending later h unsure
  still_closed = record { now = keeps_on g disk later h unsure keeps.now telling kept; reached = keeps.reached; past = left }

  with_history : (h' : History) → MayHaveAdded unsure h h' → Keeps g later h' None → KeepsThrough g start least (pending ++ pending_now h unsure) later h' None
  with_history h' added now =
      let follows = follows_added unsure h h' added in
      let all = pending ++ pending_now h unsure in record {
        now = now;
        reached = (let long = follows.longer in let low = keeps.reached in omega (arith, long, low));
        past = λ told. widened g.moment g.left_since start later (StoodAmid least h all) (StoodAmid least h' (all ++ [])) (left told)
            (λ image stood. amid_later least h h' all (all ++ []) image follows (λ p there. Contains-append_left all [] p there) stood);
      }

pub opened_again : {D : Type 0} (g : Ghosts D) (start disk : D) (core : Core D) (least moment : ℕ) (pending : List Pending) (h : History) (unsure : Option Entry)
    → KeepsThrough g start least pending disk h unsure → g.tells core.disk ≡ g.tells disk → KeepsDisk g disk core.disk → (on : GoesOn g disk moment core h unsure)
    → KeepsThrough g start least (pending ++ pending_now h unsure) core.disk on.machine.history None
opened_again g start disk core least moment pending h unsure keeps telling kept on =
    with_history g start disk core.disk least pending h unsure keeps telling kept on.machine.history on.history
    (λ told. subst (λ (u : Option Entry). (image : Image) → g.may_leave core.disk image → MayStandFor on.machine.history u image) on.sure (on.stands.stands.now told))

-- an entry that isn't sure stays so, and no other comes
stays_some : (e : Event) (r : Reply) (entry : Entry) → unsure_after e r (Some entry) ≡ Some entry
stays_some e (Refused Fault) entry = refl
stays_some e _ entry = refl

stays_pending : (e : Event) (r : Reply) (h h' : History) (unsure unsure' : Option Entry) → unsure' ≡ unsure_after e r unsure → (unsure ≡ None) ⊎ (h' ≡ h)
    → (p : Pending) → Contains (pending_now h unsure) p → Contains (pending_now h' unsure') p
stays_pending e r h h' None unsure' is ended p there = absurd (let none = there.1 in omega (arith, none))
stays_pending e r h h' (Some entry) unsure' is (inl none) p there = let bad : Some entry ≡ None = none in cc
stays_pending e r h h' (Some entry) unsure' is (inr same) p there =
    subst (λ (u : Option Entry). Contains (pending_now h' u) p) (sym (is ∙ stays_some e r entry))
    (subst (λ (x : History). Contains (pending_now x (Some entry)) p) (sym same) there)

pub event_goes_on : {D : Type 0} (g : Ghosts D) (old new : Core D) (e : Event) (r : Reply) (m : Machine) (start : D) (least : ℕ) (pending : List Pending)
    (did : Did g old e r new) (stands : CoreStandsFor g old m) → KeepsThrough g start least pending old.disk m.history (unsure_of old.state)
    → KeepsThrough g start least pending new.disk (did.stepped m stands).machine.history (unsure_of new.state)
event_goes_on g old new e r m start least pending did stands keeps =
    let one = did.stepped m stands in
    let after = (step_tells (g.faults old.disk) (g.faults new.disk) m one.machine e r one.step).0 in
    let follows = follows_event e r m.history one.machine.history after in
    let was = pending ++ pending_now m.history (unsure_of old.state) in
    let is = pending ++ pending_now one.machine.history (unsure_of new.state) in
    let amid : Image → Type 0 = StoodAmid least one.machine.history is in
    let low : least ≤ count_of one.machine.history = (let long = follows.longer in let reached = keeps.reached in omega (arith, long, reached)) in
    let all : (p : Pending) → Contains was p → Contains is p = λ p there. elim (Contains-append_cases pending (pending_now m.history (unsure_of old.state)) p there) [
      | inl early ↦ Contains-append_left pending (pending_now one.machine.history (unsure_of new.state)) p early
      | inr now ↦ Contains-append_right pending (pending_now one.machine.history (unsure_of new.state)) p
          (stays_pending e r m.history one.machine.history (unsure_of old.state) (unsure_of new.state) one.unsure one.ended p now)
    ] in record {
      now = one.stands.stands.now;
      reached = low;
      past = λ told.
          let tells = subst IsTrue did.counts.telling told in
          joined g.moment g.left_since start old.disk new.disk amid
          (widened g.moment g.left_since start old.disk (StoodAmid least m.history was) amid (keeps.past tells)
          (λ image stood. amid_later least m.history one.machine.history was is image follows all stood))
          (widened g.moment g.left_since old.disk new.disk (Between m.history (unsure_of old.state) one.machine.history (unsure_of new.state)) amid (one.images tells)
          (λ image stood. elim stood [
            | inl before ↦ amid_later least m.history one.machine.history was is image follows all
                (amid_now least m.history (unsure_of old.state) pending image keeps.reached before)
            | inr later ↦ amid_now least one.machine.history (unsure_of new.state) pending image low later
          ]));
    }
