-- What a run came to in a store that was opened, and what it left of it.
use Rattle.std.proofs.Common.{Bool, ◌≡◌, inl, inr, ⊎_elim, ℕ, ◌≤◌, List, [], ◌∷◌, map, Option, Some, None, Result, Ok, Err, true, false, IsTrue, refl, sym, ◌∙◌, ap, subst}
use Rattle.std.specs.Prelude.{IfSome}
use Rattle.command_words.specs.Commands.{Alone, Command, Drill as drill, Ingest as ingest, Serve as serve, Session as session}
use Rattle.disk_model.specs.Crash.{Reached}
use Rattle.disk_model.specs.Images.{Image}
use Rattle.io_edges.specs.Lines.{lines}
use Rattle.disk_model.specs.declared.disk.Device.{Ghosts}
use Rattle.session_text.specs.declared.reply.Reply.{Reply}
use Rattle.session_text.specs.Items.{Item}
use Rattle.store_entries.specs.declared.entry.Entry.{Entry}
use Rattle.store_model.specs.History.{count_of}
use Rattle.store_model.specs.Step.{Machine}
use Rattle.store_state.specs.Cores.{CoreHolds}
use Rattle.store_images.specs.Stored.{IsTidy, KeepsStored}
use Rattle.store_images.proofs.Lists.{not_in_nil}
use Rattle.store_core.specs.Cores.{CoreShows, CoreStandsFor, unsure_of}
use Rattle.store_core.specs.Opening.{OpensAs, OpensOver, StoreBreaks}
use Rattle.store_files.specs.Loose.{KeepsDisk}
use Rattle.store_core.specs.Port.{port_of, shown_by}
use Rattle.store_core.specs.declared.store.Core.{Core}
use Rattle.store_files.specs.declared.error.OpenError.{OpenError}
use Rattle.store_reopen.specs.Reopened.{Reopens, disk_of}
use Rattle.store_reopen.specs.Through.{KeepsThrough}
use Rattle.store_reopen.specs.declared.store.Store.{Store}
use Rattle.store_reopen.specs.declared.store.Store.TheVariants.{Open}
use Rattle.client_run.specs.CoreRuns.{unsure_after_calls}
use Rattle.client_run.proofs.CoreLemmas.{unsure_stepped}
use Rattle.session_meaning.specs.declared.ending.Ending.{Ending}
use Rattle.session_meaning.specs.Asked.{IsNextMoment, after_moment}
use Rattle.session_meaning.specs.Answering.{at_core}
use Rattle.session_meaning.specs.Duties.{Duty, Follows, duties}
use Rattle.session_meaning.specs.Act.{Act}
use Rattle.session_meaning.specs.Act.Act.{Ask}
use Rattle.session_meaning.specs.Done.{AreDone, AreDoneAmong}
use Rattle.session_meaning.specs.Over.{AreDoneOver, IsKeptAt, IsShownAt}
use Rattle.session_meaning.specs.Place.{Place, opened_at}
use Rattle.session_meaning.specs.Progress.{AreAnsweredOver, HasAnsweredOver, FollowsOver}
use Rattle.session_meaning.proofs.IngestLaws.{ingest_is_session}
use Rattle.session_meaning.specs.Runs.{Edges, HasCause, IsPastOpening, Outcome, told_bytes}
use Rattle.session_meaning.specs.Session.{Session}
use Rattle.session_meaning.specs.Stops.{AreTidy, Recovers}
use Rattle.session_meaning.proofs.Acts.{all_first, session_asks, unsure_after_all}
use Rattle.session_meaning.proofs.CoreSessions.{StandsThrough, shown_ingests, shown_means, through_ingests, through_means}
use Rattle.session_meaning.proofs.StoreSessions.{acts_left, acts_shown, acts_tidy, asks_among, asks_over, store_lists}
use Rattle.session_meaning.proofs.Unsure.{items_unsure}
use Rattle.trace_shell.specs.Turn.{CameByLines, CameOver, CameTo, HasDone, IsHeld}
use Rattle.trace_shell.proofs.RunLemmas.{if_told, in_store, only_asks, past_is_no_fault}

-- nothing is open in a core whose memory shows a machine
pub holds_nothing : {D : Type 0} (g : Ghosts D) (core : Core D) (m : Machine) → CoreShows g core m → CoreHolds (shown_by g) core []
holds_nothing g core m shown = record {
  machine = m;
  shown = shown;
  agrees = shown.state.agrees;
  sound = shown.state.sound;
  open_holds = λ hold inside. absurd (not_in_nil hold inside);
}

-- nor in one that was opened again
pub held_again : {D : Type 0} (g : Ghosts D) (disk : D) (moment : ℕ) (store : Store D) (result : Result ℕ OpenError) → Reopens g disk moment store result → IsHeld g store
held_again g disk moment store (Ok entries) again =
    let opened = again.opened in
    let begins = opened.2.begins in subst (IsHeld g) (sym opened.1) ([], holds_nothing g opened.0 begins.0 begins.1.shows)
held_again g disk moment store (Err why) again = subst (IsHeld g) (sym again.closed.1) tt

none_is_some : (xs : List ℕ) → None ≡ Some xs → ⊥
none_is_some xs e = cc

same : (a b : List ℕ) → Some a ≡ Some b → a ≡ b
same a b e = cc

-- ---- what was done over a store

-- what a command came to was done over the store of its core
pub done_over : {D : Type 0} (g : Ghosts D) (c : Command) (core : Core D) (store : Store D) (old_left old_taken told left taken to_tell : Option (List ℕ)) (e : Ending) (acts : List Act)
    (replies : List Reply) (blamed : List (List ℕ)) → CameOver c g core store old_left old_taken told left taken to_tell e acts replies blamed → AreDoneOver g (Open core) acts replies store
done_over g session core store old_left old_taken told left taken to_tell e acts replies blamed came = came.0
done_over {D} g ingest core store old_left old_taken told left taken to_tell e acts replies blamed (later, is, items, acts_are, over, none, by) =
    subst (λ (x : Store D). AreDoneOver g (Open core) acts replies x) (sym is)
    (subst (λ (as_done : List Act). AreDoneOver g (Open core) as_done replies (Open later)) (sym acts_are) (asks_over g items replies core later over.each))
done_over {D} g (serve clients rounds) core store old_left old_taken told left taken to_tell e acts replies blamed came = absurd came
done_over {D} g (drill seed traces) core store old_left old_taken told left taken to_tell e acts replies blamed (later, is, items, acts_are, over, same, came) =
    subst (λ (x : Store D). AreDoneOver g (Open core) acts replies x) (sym is)
    (subst (λ (as_done : List Act). AreDoneOver g (Open core) as_done replies (Open later)) (sym acts_are) (asks_over g items replies core later over.each))
done_over {D} g (Alone line) core store old_left old_taken told left taken to_tell e acts replies blamed (later, is, item, reply, acts_are, replies_are, over, own, asks, clock, ends) =
    subst (λ (x : Store D). AreDoneOver g (Open core) acts replies x) (sym is)
    (subst (λ (as_done : List Act). AreDoneOver g (Open core) as_done replies (Open later)) (sym acts_are)
    (subst (λ (rs : List Reply). AreDoneOver g (Open core) (Ask item ∷ []) rs (Open later)) (sym replies_are) (asks_over g (item ∷ []) (reply ∷ []) core later over.each)))

-- where a session stands that was asked this of an open store
abbrev pub asked_place : {D : Type 0} → Ghosts D → Core D → Machine → List Item → List Reply → Place
asked_place g core m items replies = record { store = at_core g core m; is_open = true; is_listed = true; unsure = unsure_after_all None items replies; pending = [] }

-- What a command other than a session came to over a core, by machines that go with it.
pub record CameAsked {D : Type 0} (g : Ghosts D) (is_with : Core D → Machine → Type 0) (sure : Bool) (c : Command) (core : Core D) (store : Store D) (m : Machine)
    (old_left old_taken told left taken to_tell : Option (List ℕ)) (e : Ending) (acts : List Act) (replies : List Reply) (blamed : List (List ℕ)) : Type 0 where
  pub later : Core D
  pub is : store ≡ Open later
  pub items : List Item
  pub acts_are : acts ≡ map Ask items
  pub over : HasAnsweredOver (port_of g) core items replies later
  pub machine : Machine
  pub stands : is_with later machine
  pub done : AreDone sure (opened_at (at_core g core m)) acts replies (asked_place g later machine items replies)
  pub came : CameTo sure c (at_core g core m) (asked_place g later machine items replies) old_left old_taken told left taken to_tell e acts replies blamed

module _ {D : Type 0} (g : Ghosts D) (is_with : Core D → Machine → Type 0) (sure : Bool)
    (sessions : (items : List Item) (replies : List Reply) (first last : Core D) (m : Machine) → is_with first m → AreAnsweredOver (port_of g) first items replies last
    → (m' : Machine) × is_with last m' × Session sure (at_core g first m) items replies (at_core g last m'))
    (ingests : (todo : List Duty) (moments : Option (List ℕ)) (items : List Item) (replies : List Reply) (first last : Core D) (m : Machine) (left : List Duty) (to_tell : Option (List ℕ))
    → is_with first m → FollowsOver g todo moments first items replies last left to_tell
    → (m' : Machine) × is_with last m' × Follows sure todo moments (at_core g first m) items replies (at_core g last m') left to_tell)
    (core : Core D) (store : Store D) (m : Machine) (stands : is_with core m) where
  as_acts : (acts : List Act) (items : List Item) (replies : List Reply) (last : Place) → acts ≡ map Ask items → AreDone sure (opened_at (at_core g core m)) (map Ask items) replies last
      → AreDone sure (opened_at (at_core g core m)) acts replies last
  as_acts acts items replies last are done = subst (λ (as_done : List Act). AreDone sure (opened_at (at_core g core m)) as_done replies last) (sym are) done

  pub asked_ingest : (old_left old_taken told left taken to_tell : Option (List ℕ)) (e : Ending) (acts : List Act) (replies : List Reply) (blamed : List (List ℕ))
      → CameOver ingest g core store old_left old_taken told left taken to_tell e acts replies blamed
      → CameAsked g is_with sure ingest core store m old_left old_taken told left taken to_tell e acts replies blamed
  asked_ingest None old_taken told left taken to_tell e acts replies blamed (later, is, items, acts_are, over, none, by) =
      let run = sessions items replies core later m stands over.each in record {
        later = later;
        is = is;
        items = items;
        acts_are = acts_are;
        over = over;
        machine = run.0;
        stands = run.1;
        done = as_acts acts items replies (asked_place g later run.0 items replies) acts_are (session_asks sure items replies (at_core g core m) (at_core g later run.0) true None [] run.2);
        came = (items, acts_are, none, λ text before source. absurd (none_is_some text source));
      }
  asked_ingest (Some text) None told left taken to_tell e acts replies blamed (later, is, items, acts_are, over, none, by) =
      let run = sessions items replies core later m stands over.each in record {
        later = later;
        is = is;
        items = items;
        acts_are = acts_are;
        over = over;
        machine = run.0;
        stands = run.1;
        done = as_acts acts items replies (asked_place g later run.0 items replies) acts_are (session_asks sure items replies (at_core g core m) (at_core g later run.0) true None [] run.2);
        came = (items, acts_are, none, λ all before source sink. absurd (none_is_some before sink));
      }
  asked_ingest (Some text) (Some before) told left taken to_tell e acts replies blamed (later, is, items, acts_are, over, none, by) =
      let w = by text before refl refl in
      let run = ingests (duties (lines text)) told items replies core later m w.todo to_tell stands w.asked in
      let all : Session sure (at_core g core m) items replies (at_core g later run.0) =
      ingest_is_session sure (duties (lines text)) w.todo told to_tell items replies (at_core g core m) (at_core g later run.0) run.2 in
      let by_lines : CameByLines (λ todo rest. Follows sure todo told (at_core g core m) items replies (at_core g later run.0) rest to_tell) text before left taken e replies = record {
        pushed = w.pushed;
        later = w.later;
        lines_are = w.lines_are;
        todo = w.todo;
        asked = run.2;
        is_left = w.is_left;
        ends = w.ends;
      } in record {
        later = later;
        is = is;
        items = items;
        acts_are = acts_are;
        over = over;
        machine = run.0;
        stands = run.1;
        done = as_acts acts items replies (asked_place g later run.0 items replies) acts_are (session_asks sure items replies (at_core g core m) (at_core g later run.0) true None [] all);
        came = (
          items,
          acts_are,
          none,
          λ whole taken_before source sink.
              subst (λ (t : List ℕ). CameByLines (λ todo rest. Follows sure todo told (at_core g core m) items replies (at_core g later run.0) rest to_tell) t taken_before left taken e replies) (same text whole source)
              (subst (λ (b : List ℕ). CameByLines (λ todo rest. Follows sure todo told (at_core g core m) items replies (at_core g later run.0) rest to_tell) text b left taken e replies) (same before taken_before sink) by_lines),
        );
      }

  pub asked_drill : (seed traces : ℕ) (old_left old_taken told left taken to_tell : Option (List ℕ)) (e : Ending) (acts : List Act) (replies : List Reply) (blamed : List (List ℕ))
      → CameOver (drill seed traces) g core store old_left old_taken told left taken to_tell e acts replies blamed
      → CameAsked g is_with sure (drill seed traces) core store m old_left old_taken told left taken to_tell e acts replies blamed
  asked_drill seed traces old_left old_taken told left taken to_tell e acts replies blamed (later, is, items, acts_are, over, same_left, came) =
      let run = sessions items replies core later m stands over.each in record {
        later = later;
        is = is;
        items = items;
        acts_are = acts_are;
        over = over;
        machine = run.0;
        stands = run.1;
        done = as_acts acts items replies (asked_place g later run.0 items replies) acts_are (session_asks sure items replies (at_core g core m) (at_core g later run.0) true None [] run.2);
        came = (items, acts_are, same_left, came);
      }

  pub asked_alone : (line : List ℕ) (old_left old_taken told left taken to_tell : Option (List ℕ)) (e : Ending) (acts : List Act) (replies : List Reply) (blamed : List (List ℕ))
      → CameOver (Alone line) g core store old_left old_taken told left taken to_tell e acts replies blamed
      → CameAsked g is_with sure (Alone line) core store m old_left old_taken told left taken to_tell e acts replies blamed
  asked_alone line old_left old_taken told left taken to_tell e acts replies blamed (later, is, item, reply, acts_are, replies_are, over, own, asks, clock, ends) =
      let items : List Item = item ∷ [] in
      let all : HasAnsweredOver (port_of g) core items replies later = subst (λ (rs : List Reply). HasAnsweredOver (port_of g) core items rs later) (sym replies_are) over in
      let run = sessions items replies core later m stands all.each in record {
        later = later;
        is = is;
        items = items;
        acts_are = acts_are;
        over = all;
        machine = run.0;
        stands = run.1;
        done = as_acts acts items replies (asked_place g later run.0 items replies) acts_are (session_asks sure items replies (at_core g core m) (at_core g later run.0) true None [] run.2);
        came = (item, reply, acts_are, replies_are, own, asks, clock, ends);
      }

-- ---- where a command came to

module _ {D : Type 0} (g : Ghosts D) (core : Core D) (store : Store D) (m : Machine) (old_left old_taken told left taken to_tell : Option (List ℕ)) (e : Ending) (acts : List Act)
    (replies : List Reply) (blamed : List (List ℕ)) where
  -- Whatever the disk holds.
  abbrev pub IsShown : Command → Type 0
  IsShown c =
      (last : Place) × IsShownAt g store last × AreDone false (opened_at (at_core g core m)) acts replies last
      × CameTo false c (at_core g core m) last old_left old_taken told left taken to_tell e acts replies blamed

  of_shown : (c : Command) → CameAsked g (CoreShows g) false c core store m old_left old_taken told left taken to_tell e acts replies blamed → IsShown c
  of_shown c a =
      let last = asked_place g a.later a.machine a.items replies in
      (last, subst (λ (x : Store D). IsShownAt g x last) (sym a.is) (record { faults = refl; shows = (refl, a.stands) }), a.done, a.came)

  pub came_shown : (c : Command) → CoreShows g core m → CameOver c g core store old_left old_taken told left taken to_tell e acts replies blamed → IsShown c
  came_shown session shows came =
      let all = acts_shown g acts replies (Open core) store (opened_at (at_core g core m)) came.0 (record { faults = refl; shows = (refl, shows) }) in
      (all.0, all.1, all.2, came.1)
  came_shown ingest shows came =
      of_shown ingest (asked_ingest g (CoreShows g) false (shown_means g) (shown_ingests g) core store m shows old_left old_taken told left taken to_tell e acts replies blamed came)
  came_shown (serve clients rounds) shows came = absurd came
  came_shown (drill seed traces) shows came =
      of_shown (drill seed traces) (asked_drill g (CoreShows g) false (shown_means g) (shown_ingests g) core store m shows seed traces old_left old_taken told left taken to_tell e acts replies blamed came)
  came_shown (Alone line) shows came =
      of_shown (Alone line) (asked_alone g (CoreShows g) false (shown_means g) (shown_ingests g) core store m shows line old_left old_taken told left taken to_tell e acts replies blamed came)

  -- Where the disk tells its bytes, and they were a store's.
  module _ (held_may_stay : (disk : D) → IsTrue (g.tells disk) → g.may_leave disk (g.held disk))
      (counts_now : (disk : D) (start : ℕ) (image : Image) → start ≤ g.moment disk → g.may_leave disk image → g.left_since disk start image)
      (only_now : (disk : D) (image : Image) → g.left_since disk (g.moment disk) image → g.may_leave disk image) (start : D) (least : ℕ) (since : ℕ) (early : since ≤ g.moment start) where
    -- Each opening finds an image that a crash may have left since that moment.
    abbrev pub IsKept : Command → Type 0
    IsKept c =
        (last : Place) × IsKeptAt g start least store last × AreDoneAmong (g.left_since (disk_of store) since) (opened_at (at_core g core m)) acts replies last
        × CameTo true c (at_core g core m) last old_left old_taken told left taken to_tell e acts replies blamed

    -- the entry that isn't sure is the one that the replies tell
    unsure_is : (items : List Item) (later : Core D) → CoreStandsFor g core m → m.read_only ≡ None → HasAnsweredOver (port_of g) core items replies later
        → unsure_of later.state ≡ unsure_after_all None items replies
    unsure_is items later stands writes over =
        let none : unsure_of core.state ≡ None = stands.stands.sure (sym stands.stands.has.read_only ∙ writes) in
        unsure_stepped g core later over.calls over.made m stands
        ∙ ap (unsure_after_calls over.calls) none
        ∙ items_unsure unsure_after_calls (λ u. refl) (λ c calls u. refl) items replies over.calls None over.by_calls
        ∙ all_first items replies None

    of_kept : (c : Command) → CoreStandsFor g core m → m.read_only ≡ None
        → CameAsked g (StandsThrough g start least []) true c core store m old_left old_taken told left taken to_tell e acts replies blamed → IsKept c
    of_kept c stands writes a =
        let last = asked_place g a.later a.machine a.items replies in
        let unsure = unsure_is a.items a.later stands writes a.over in (
          last,
          subst (λ (x : Store D). IsKeptAt g start least x last) (sym a.is) (record {
            faults = refl;
            stands = (refl, sym unsure, a.stands.0);
            keeps = subst (λ (u : Option Entry). KeepsThrough g start least [] a.later.disk a.machine.history u) unsure a.stands.2;
          }),
          subst (λ (as_done : List Act). AreDoneAmong (g.left_since (disk_of store) since) (opened_at (at_core g core m)) as_done replies last) (sym a.acts_are)
              (asks_among (g.left_since (disk_of store) since) a.items replies (opened_at (at_core g core m)) last
              (subst (λ (as_done : List Act). AreDone true (opened_at (at_core g core m)) as_done replies last) a.acts_are a.done)),
          a.came,
        )

    pub came_kept : (c : Command) → m.read_only ≡ None → StandsThrough g start least [] core m → CameOver c g core store old_left old_taken told left taken to_tell e acts replies blamed → IsKept c
    came_kept session writes stands came =
        let none : unsure_of core.state ≡ None = stands.0.stands.sure (sym stands.0.stands.has.read_only ∙ writes) in
        let all = acts_left g held_may_stay counts_now only_now start least since early acts replies (Open core) store (opened_at (at_core g core m)) came.0
        (record { faults = refl; stands = (refl, sym none, stands.0); keeps = subst (λ (u : Option Entry). KeepsThrough g start least [] core.disk m.history u) none stands.2 }) stands.1 in
        (all.0, all.1, all.2, came.1)
    came_kept ingest writes stands came =
        of_kept ingest stands.0 writes
        (asked_ingest g (StandsThrough g start least []) true (through_means g start least []) (through_ingests g start least []) core store m stands old_left old_taken told left taken to_tell e acts replies blamed came)
    came_kept (serve clients rounds) writes stands came = absurd came
    came_kept (drill seed traces) writes stands came =
        of_kept (drill seed traces) stands.0 writes
        (asked_drill g (StandsThrough g start least []) true (through_means g start least []) (through_ingests g start least []) core store m stands seed traces old_left old_taken told left taken to_tell e acts replies blamed came)
    came_kept (Alone line) writes stands came =
        of_kept (Alone line) stands.0 writes
        (asked_alone g (StandsThrough g start least []) true (through_means g start least []) (through_ingests g start least []) core store m stands line old_left old_taken told left taken to_tell e acts replies blamed came)

-- ---- a run

-- a run in a store that was opened
abbrev pub in_a_store : {D : Type 0} → Ghosts D → ℕ → Core D → Machine → Place → Ending → List Act → List Reply → List (List ℕ) → Outcome
in_a_store g moment core first last e acts replies blamed = record {
  ending = e;
  opened = true;
  moment = moment;
  first = at_core g core first;
  acts = acts;
  refused = blamed;
  replies = replies;
  last = last;
}

module _ {D : Type 0} (g : Ghosts D) (disk : D) (moment : ℕ) (core : Core D) (store : Store D) (first : Machine) (last : Place) (e : Ending) (acts : List Act) (replies : List Reply) (blamed : List (List ℕ))
    (opens : OpensOver g core first) where
  abbrev outcome : Outcome
  outcome = in_a_store g moment core first last e acts replies blamed

  pub opened_done : (sure : Bool) (c : Command) (old new : Edges) → old.held ≡ told_bytes g disk → old.disk_faults ≡ g.faults disk → last.store.faults ≡ new.disk_faults
      → IsNextMoment old.moments moment → (IsTrue (g.tells disk) → (file at : ℕ) → StoreBreaks (g.held disk) file at → ⊥) → g.faults core.disk ≡ g.faults disk
      → AreDone sure (opened_at outcome.first) acts replies last
      → CameTo sure c outcome.first last old.left old.taken (after_moment old.moments) new.left new.taken new.moments e acts replies blamed
      → IsPastOpening e → HasCause e old new → HasDone sure c outcome old new
  opened_done sure c old new held old_faults last_faults next unbroken counted all came past cause = record {
    does = inl (
      refl,
      record {
        moment = next;
        begins = opens.empty;
        agrees = opens.shows.state.agrees;
        few = subst (λ (n : ℕ). n ≤ 4294967295) (sym opens.shows.state.has.count) opens.shows.state.has.few;
        unbroken = subst (λ (o : Option Image). IfSome o (λ image. (file at : ℕ) → StoreBreaks image file at → ⊥)) (sym held)
            (if_told g disk (λ image. (file at : ℕ) → StoreBreaks image file at → ⊥) unbroken);
        first_faults = counted ∙ sym old_faults;
        last_faults = last_faults;
      },
      past,
      in_store sure c outcome old new came,
    );
    asks = only_asks sure c outcome.first last old.left old.taken (after_moment old.moments) new.left new.taken new.moments e acts replies blamed came;
    session = all;
    cause = cause;
    asked = past_is_no_fault e past;
  }

  -- Over bytes that were a store's.
  module _ (held_may_stay : (disk : D) → IsTrue (g.tells disk) → g.may_leave disk (g.held disk))
      (counts_now : (disk : D) (start : ℕ) (image : Image) → start ≤ g.moment disk → g.may_leave disk image → g.left_since disk start image)
      (only_now : (disk : D) (image : Image) → g.left_since disk (g.moment disk) image → g.may_leave disk image)
      (told : IsTrue (g.tells disk)) (founded : OpensAs g disk moment core first) where
    pub opened_recovers : KeepsDisk g disk core.disk → g.tells core.disk ≡ g.tells disk → StandsThrough g core.disk (count_of first.history) [] core first
        → AreDoneOver g (Open core) acts replies store → IsKeptAt g core.disk (count_of first.history) store last → IsTrue (g.tells (disk_of store))
        → AreDoneAmong (g.left_since (disk_of store) (g.moment disk)) (opened_at outcome.first) acts replies last → Recovers g disk (disk_of store) outcome
    opened_recovers keeps telling begun over kept_at_end told_later found =
        let kept = keeps told in
        let stored = founded.stored told in record {
          begins = λ opened. record { stored = stored.0; once = opens.once; base_alone = opens.base_alone; begins = stored.1 };
          returned = λ opened. kept_at_end.keeps.now told_later;
          kept_up = λ opened is_listed writes. store_lists g store last kept_at_end.stands told_later is_listed writes;
          unopened = λ closed. let bad : true ≡ false = closed in cc;
          found = λ opened. found;
          any_moment = λ image left.
              ⊎_elim (λ early. inl (kept.since.each image early)) (λ stood. inr (refl, stood))
              ((kept_at_end.keeps.past told_later).before (g.moment disk) image kept.since.later left);
          tidy = λ at_first.
              let none : unsure_of core.state ≡ None = begun.0.stands.sure (sym begun.0.stands.has.read_only ∙ opens.empty.writes) in
              let begin : IsKeptAt g core.disk (count_of first.history) (Open core) (opened_at outcome.first) = record {
                faults = refl;
                stands = (refl, sym none, begun.0);
                keeps = subst (λ (u : Option Entry). KeepsThrough g core.disk (count_of first.history) [] core.disk first.history u) none begun.2;
              } in
              let run = acts_tidy g held_may_stay core.disk (count_of first.history) counts_now only_now acts replies (Open core) store (opened_at outcome.first) over begin begun.1
              (λ image left. tidy_from at_first image (kept.now image left)) in
              λ image left. ⊎_elim (λ early. tidy_from at_first image (kept.since.each image early)) (λ tidy. tidy)
              (run.before (g.moment disk) image kept.since.later left);
        }
      where
        tidy_from : AreTidy (g.may_leave disk) → (image : Image) → Reached KeepsStored (g.may_leave disk) image → IsTidy image
        tidy_from at_first image was = was.2.tidy (at_first was.0 was.1)
