-- What a run came to that served several clients, and what it left of its store.
use Rattle.std.proofs.Common.{◌≡◌, inl, inr, ⊎_elim, ◌∙◌, Bool, true, false, ℕ, ◌≤◌, List, [], ◌∷◌, map, Option, None, IsTrue, ap, arith, refl, subst, sym}
use Rattle.std.specs.Prelude.{IfSome}
use Rattle.client_run.specs.CoreRuns.{unsure_after_calls}
use Rattle.client_run.proofs.CoreLemmas.{KeepsSteps, counted_by, unsure_stepped}
use Rattle.client_scripts.specs.Served.{AllTold, HasServed}
use Rattle.client_scripts.specs.declared.script.Answered.{Answered}
use Rattle.disk_model.specs.Crash.{Reached}
use Rattle.disk_model.specs.Images.{Image}
use Rattle.disk_model.specs.declared.disk.Device.{Ghosts}
use Rattle.port_history.specs.Entries.{AreEntries, Entry, call_of, history_from}
use Rattle.port_history.proofs.Chains.{entries_made, legal_history}
use Rattle.session_text.specs.Items.{Item}
use Rattle.store_core.specs.Cores.{CoreShows, CoreStandsFor, unsure_of}
use Rattle.store_core.specs.Opening.{OpensAs, OpensOver, StoreBreaks}
use Rattle.store_files.specs.Loose.{KeepsDisk}
use Rattle.store_core.specs.Port.{port_of, shown_by}
use Rattle.store_core.specs.declared.store.Core.{Core}
use Rattle.store_entries.specs.declared.entry.Entry.{Entry as Added}
use Rattle.store_images.specs.Stored.{IsTidy, KeepsStored}
use Rattle.store_images.proofs.Lists.{not_in_nil}
use Rattle.store_model.specs.History.{History, count_of}
use Rattle.store_model.specs.Step.{Machine}
use Rattle.store_model.specs.Told.{AreCounted}
use Rattle.store_state.specs.Cores.{CoreKnows}
use Rattle.store_reopen.specs.Through.{KeepsThrough}
use Rattle.store_reopen.proofs.Through.{event_goes_on}
use Rattle.session_meaning.specs.declared.ending.Ending.{Ending}
use Rattle.session_meaning.specs.declared.ending.Ending.TheVariants.{Answered as answered, BadWords, NotOpened, NotStore, ReadFault, Refused, Spent, Starved, WriteFault}
use Rattle.session_meaning.specs.Answering.{at_core}
use Rattle.session_meaning.specs.Asked.{IsNextMoment, after_moment}
use Rattle.session_meaning.specs.Runs.{Edges, HasCause, IsPastOpening, told_bytes}
use Rattle.session_meaning.specs.ServedRuns.{EndsServing, IsServedRun, RecoversServed, Served}
use Rattle.session_meaning.specs.Serving.{EntriesLead, Ran}
use Rattle.session_meaning.specs.Stops.{AreTidy}
use Rattle.session_meaning.proofs.CoreSessions.{StandsThrough}
use Rattle.session_meaning.proofs.Counted.{blocks_counted}
use Rattle.session_meaning.proofs.OnDisk.{calls_tidy, lists_state}
use Rattle.session_meaning.proofs.ServedPlaces.{led_legally}
use Rattle.trace_shell.specs.Serving.{CameServing}
use Rattle.trace_shell.proofs.RunLemmas.{cause_of, if_told}

-- ---- calls of a core, in their one order

-- They lead from a machine that goes with the first core to one that goes with the last.
record LedBy {D : Type 0} (g : Ghosts D) (told : Bool) (is_with : Core D → Machine → Type 0) (old : Core D) (entries : List Entry) (new : Core D) (m : Machine) : Type 0 where
  machine : Machine
  stands : is_with new machine
  lead : EntriesLead told (at_core g old m) entries (at_core g new machine)

led : {D : Type 0} (g : Ghosts D) (told : Bool) (is_with : Core D → Machine → Type 0) → KeepsSteps g is_with
    → ((core : Core D) (m : Machine) → is_with core m → told ≡ true → AreCounted m.state.blocks)
    → (old new : Core D) (entries : List Entry) → AreEntries (port_of g) old entries new → (m : Machine) → is_with old m → LedBy g told is_with old entries new m
led {D} g told is_with keeps counted old new [] made m stands = record {
  machine = m;
  stands = subst (λ (core : Core D). is_with core m) (sym made) stands;
  lead = ap (λ (core : Core D). at_core g core m) made;
}
led {D} g told is_with keeps counted old new (e ∷ es) made m stands =
    let one = keeps old made.0 e.event e.reply made.1.did m stands in
    let counts = made.1.did.counts in
    let rest = led g told is_with keeps counted made.0 new es made.4 one.0 one.1 in record {
      machine = rest.machine;
      stands = rest.stands;
      lead = (
        at_core g made.0 one.0,
        record {
          from = made.2;
          to = made.3;
          step = (
            omega (arith, made.1.later),
            one.2,
            counted_by e.reply (g.faults old.disk) (g.faults made.0.disk) counts.quiet counts.fault,
          );
          counted = counted made.0 one.0 one.1;
        },
        rest.lead,
      );
    }

-- A core knows the history of a machine that it stands for.
knows_all : {D : Type 0} (g : Ghosts D) (core : Core D) (m : Machine) → CoreStandsFor g core m → CoreKnows (shown_by g) core (record { history = m.history; holds = [] })
knows_all g core m stands = record {
  machine = m;
  stands = stands;
  agrees = stands.stands.agrees;
  sound = stands.stands.sound;
  history = refl;
  open_holds = λ hold inside. absurd (not_in_nil hold inside);
}

-- ---- how a run ends

-- Whoever served clients had opened the store.
pub serving_past : (e : Ending) (answers : List Answered) (old new : Option (List ℕ)) → EndsServing e answers old new → IsPastOpening e
serving_past answered answers old new ends = tt
serving_past Refused answers old new ends = tt
serving_past Starved answers old new ends = tt
serving_past WriteFault answers old new ends = tt
serving_past ReadFault answers old new ends = tt
serving_past Spent answers old new ends = tt
serving_past BadWords answers old new ends = absurd ends
serving_past NotOpened answers old new ends = absurd ends
serving_past (NotStore file at) answers old new ends = absurd ends

-- ---- a run

-- a run that served clients from one machine to another
abbrev pub served : {D : Type 0} → Ghosts D → ℕ → (core : Core D) → Machine → (later : Core D) → Machine → Ending → List (List Item) → List Answered → List Entry → List (List ℕ) → Served
served g moment core first later last e scripts answers entries blamed = record {
  ending = e;
  moment = moment;
  first = at_core g core first;
  scripts = scripts;
  answers = answers;
  entries = entries;
  refused = blamed;
  last = at_core g later last;
}

module _ {D : Type 0} (g : Ghosts D) (core later : Core D) (m : Machine) (entries : List Entry) (scripts : List (List Item)) (answers : List Answered)
    (did : HasServed (port_of g) core entries scripts answers later) where
  -- The calls of clients lead from a machine to one.
  abbrev pub HasRan : (Core D → Machine → Type 0) → Bool → Type 0
  HasRan is_with told = (m' : Machine) × is_with later m' × Ran told (at_core g core m) scripts answers entries (at_core g later m')

  ran : (is_with : Core D → Machine → Type 0) (told : Bool) (l : LedBy g told is_with core entries later m)
      → (told ≡ true → CoreStandsFor g core m × IsTrue (g.tells core.disk)) → HasRan is_with told
  ran is_with told l tells = (
    l.machine,
    l.stands,
    record {
      lead = l.lead;
      whose = did.whose;
      served = did.served;
      seen = λ is.
          let stands = tells is in
          let same : l.machine.history ≡ history_from m.history entries = legal_history (g.faults core.disk) (g.faults later.disk) m l.machine entries
          (led_legally told (at_core g core m) (at_core g later l.machine) entries l.lead) in
          subst (λ (h : History). AllTold h (count_of m.history) scripts answers) (sym same)
          (did.told stands.1 (record { history = m.history; holds = [] }) (knows_all g core m stands.0));
    },
  )

  -- Whatever the disk holds.
  pub ran_shown : CoreShows g core m → HasRan (CoreShows g) false
  ran_shown shows =
      ran (CoreShows g) false
      (led g false (CoreShows g) (λ old new e r d m shown. d.shown m shown) (λ core m shows is. let bad : ⊥ = cc in absurd bad) core later entries did.made m shows)
      (λ is. let bad : ⊥ = cc in absurd bad)

  -- Where the disk tells its bytes, and they were a store's.
  pub ran_through : (start : D) (least : ℕ) → StandsThrough g start least [] core m → HasRan (StandsThrough g start least []) true
  ran_through start least stands =
      ran (StandsThrough g start least []) true
      (led g true (StandsThrough g start least []) (λ old new e r d m has.
      let s = d.stepped m has.0 in (
        s.machine,
        (s.stands, subst IsTrue (sym d.counts.telling) has.1, event_goes_on g old new e r m start least [] d has.0 has.2),
        s.step,
      )) (λ core m has is. blocks_counted g core m has.0 has.1) core later entries did.made m stands)
      (λ is. (stands.0, stands.1))

module _ {D : Type 0} (g : Ghosts D) (disk : D) (moment clients rounds : ℕ) (core later : Core D) (first : Machine) (e : Ending) (blamed : List (List ℕ)) (opens : OpensOver g core first) where
  -- A run that served clients is one, between edges.
  pub is_served : (told : Bool) (old new : Edges) (came : CameServing g clients rounds core later old.left new.left old.taken new.taken (after_moment old.moments) new.moments e blamed)
      (last : Machine) → Ran told (at_core g core first) came.scripts came.answers came.entries (at_core g later last)
      → old.held ≡ told_bytes g disk → old.disk_faults ≡ g.faults disk → g.faults later.disk ≡ new.disk_faults → IsNextMoment old.moments moment
      → (IsTrue (g.tells disk) → (file at : ℕ) → StoreBreaks (g.held disk) file at → ⊥) → g.faults core.disk ≡ g.faults disk → HasCause e old new
      → IsServedRun told clients rounds (served g moment core first later last e came.scripts came.answers came.entries blamed) old new
  is_served told old new came last ran held old_faults last_faults next unbroken counted cause = record {
    opened = record {
      moment = next;
      begins = opens.empty;
      agrees = opens.shows.state.agrees;
      few = subst (λ (n : ℕ). n ≤ 4294967295) (sym opens.shows.state.has.count) opens.shows.state.has.few;
      unbroken = subst (λ (o : Option Image). IfSome o (λ image. (file at : ℕ) → StoreBreaks image file at → ⊥)) (sym held)
          (if_told g disk (λ image. (file at : ℕ) → StoreBreaks image file at → ⊥) unbroken);
      first_faults = counted ∙ sym old_faults;
      last_faults = last_faults;
    };
    asked = came.asked;
    unasked = ⊎_elim (λ source. inl source) (λ none. inr (record { no_scripts = none.0; no_answers = none.1; no_entries = none.2 })) came.unasked;
    ran = ran;
    ends = came.ends;
    cause = cause;
  }

  -- Over bytes that were a store's.
  module _ (counts_now : (disk : D) (start : ℕ) (image : Image) → start ≤ g.moment disk → g.may_leave disk image → g.left_since disk start image)
      (only_now : (disk : D) (image : Image) → g.left_since disk (g.moment disk) image → g.may_leave disk image)
      (told : IsTrue (g.tells disk)) (founded : OpensAs g disk moment core first) where
    pub serving_recovers : KeepsDisk g disk core.disk → (begun : StandsThrough g core.disk (count_of first.history) [] core first)
        → (scripts : List (List Item)) (answers : List Answered) (entries : List Entry) (did : HasServed (port_of g) core entries scripts answers later)
        → (last : Machine) → StandsThrough g core.disk (count_of first.history) [] later last
        → RecoversServed g disk later.disk (served g moment core first later last e scripts answers entries blamed)
    serving_recovers keeps begun scripts answers entries did last stands =
        let kept = keeps told in
        let stored = founded.stored told in
        let made = entries_made (port_of g) core later entries did.made in
        let none : unsure_of core.state ≡ None = begun.0.stands.sure (sym begun.0.stands.has.read_only ∙ opens.empty.writes) in
        let unsure : unsure_of later.state ≡ unsure_after_calls (map call_of entries) None =
        unsure_stepped g core later (map call_of entries) made first begun.0 ∙ ap (unsure_after_calls (map call_of entries)) none in
        let through : KeepsThrough g core.disk (count_of first.history) [] later.disk last.history (unsure_after_calls (map call_of entries) None) =
        subst (λ (u : Option Added). KeepsThrough g core.disk (count_of first.history) [] later.disk last.history u) unsure stands.2 in record {
          begins = record { stored = stored.0; once = opens.once; base_alone = opens.base_alone; begins = stored.1 };
          returned = through.now stands.1;
          kept_up = λ writes. lists_state g later last stands.0 stands.1 writes;
          any_moment = λ image left.
              ⊎_elim (λ early. inl (kept.since.each image early)) (λ stood. inr (refl, stood))
              ((through.past stands.1).before (g.moment disk) image kept.since.later left);
          tidy = λ at_first.
              let run = calls_tidy g counts_now only_now core later (map call_of entries) made first begun.0 begun.1
              (λ image left. tidy_from at_first image (kept.now image left)) in
              λ image left. ⊎_elim (λ early. tidy_from at_first image (kept.since.each image early)) (λ tidy. tidy)
              (run.before (g.moment disk) image kept.since.later left);
        }
      where
        tidy_from : AreTidy (g.may_leave disk) → (image : Image) → Reached KeepsStored (g.may_leave disk) image → IsTidy image
        tidy_from at_first image was = was.2.tidy (at_first was.0 was.1)

-- A run that served clients has the causes that its clauses say.
pub serving_cause : (e : Ending) (answers : List Answered) (old new : Edges) → EndsServing e answers old.taken new.taken → (e ≡ WriteFault → HasCause WriteFault old new)
    → (e ≡ ReadFault → HasCause ReadFault old new) → (e ≡ Spent → HasCause Spent old new) → HasCause e old new
serving_cause e answers old new ends w r s = cause_of e old new (serving_past e answers old.taken new.taken ends) w r s
