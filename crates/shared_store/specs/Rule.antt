-- The rule of the table that seats share, and what each kind of step tells its seat.
--
-- Word 0 is the turn: 0 while it is free, and 1 while a seat has it. Word 1 counts the calls, modulo 2 ^ 64. Slot 0 has the port
-- while the turn is free.
use Rattle.std.specs.Prelude.{◌≡◌, ◌≢◌, ℕ, ◌+◌, ◌-◌, ◌%◌, ◌^◌, ◌<◌, true, false, List, [], ◌∷◌, ◌++◌, length, Option, Some, None, IsTrue}
use Rattle.std.specs.List.{Contains}
use mathlib.Core.Option as maybe
use mathlib.Core.Option.{some, none}
use lib.ListN.{get_elem?}
use Rattle.atomic_table.specs.Table.{State, Me, Step}
use Rattle.store_model.specs.Event.{Event, Reply}
use Rattle.store_model.specs.Event.Event.{ReadPage, WritePiece}
use Rattle.store_model.specs.Holds.{Hold, ends, files_of, holds_after}
use Rattle.store_model.specs.State.{is_among}
use Rattle.store_model.specs.Told.{TellsLength}
use Rattle.store_state.specs.Meaning.{View, Meaning, IsOpen}
use Rattle.port_history.specs.Entries.{Entry, history_from, own, open_from, AreEntries}
use Rattle.shared_store.specs.Seen.{AreJoined, Half, ShareNone, half_of, joined_names, longer, some_fails, nothing_seen, kept_of, names_after, name_at}
use Rattle.shared_store.specs.Apart.{AllLeave, AllStrangers, AreStrangers, IsUnshared, written_by}
use Rattle.shared_store.specs.declared.known.Known.{Known}

-- ---- a view

-- What a seat knows is true of the calls so far and of the port as they left it. A seat without parts has seen nothing.
pub record Fits {C : Type 0} (m : Meaning C) (key : C) (entries : List Entry) (core : C) (v : Known C) : Type 0 where
  pub start : (known : C) → v.start ≡ Some known → known ≡ key
  pub spent : v.parts ≡ 0 → v.seen ≡ nothing_seen
  pub rest : List Entry
  pub begins : entries ≡ v.seen.entries ++ rest
  pub others : own v.seen.names rest ≡ []
  pub leaves : AllLeave v.seen.holds rest
  pub named : (n : ℕ) → is_among n v.seen.names ≡ true → n < length entries
  pub are_open : (hold : Hold) → Contains v.seen.holds hold → Contains (open_from [] entries) hold
  pub strangers : AllStrangers v.seen.holds
  pub kept : IsTrue (m.tells key) → v.seen.kept ≡ kept_of (m.shows core) v.seen.holds
  pub joined : (one other : Half) → v.seen.joined ≡ Some (one, other) → AreJoined (m.tells key) one other v.seen

-- Two seats share no name, and their looks and jobs are apart.
pub record AreOfTwo {C : Type 0} (v w : Known C) : Type 0 where
  pub names : ShareNone v.seen.names w.seen.names
  pub holds : (one other : Hold) → Contains v.seen.holds one → Contains w.seen.holds other → AreStrangers one other

-- The turn is free, the port at home, and no seat shows it; or one seat has the turn and shows the port.
pub data Turn {C : Type 0} (core : C) (word : ℕ) (homes : List (maybe.Option (Option C))) (views : List (Known C)) : Type 0 where
  free : word ≡ 0 → homes ≡ some (Some core) ∷ [] → ((i : ℕ) (v : Known C) → get_elem? views i ≡ some v → v.shown ≡ None)
      → Turn core word homes views
  taken : (holder : ℕ) → holder < length views → word ≡ 1 → homes ≡ none ∷ [] → ((v : Known C) → get_elem? views holder ≡ some v → v.shown ≡ Some core)
      → ((i : ℕ) (v : Known C) → i ≢ holder → get_elem? views i ≡ some v → v.shown ≡ None) → Turn core word homes views

abbrev pub all_parts : {C : Type 0} → List (Known C) → ℕ
all_parts [] = 0
all_parts (v ∷ views) = v.parts + all_parts views

-- The rule. `key` is the port as it was when it was first shared.
pub record IsKept {C : Type 0} (m : Meaning C) (key : C) (s : State (Option C) (Known C)) : Type 0 where
  pub unshared : IsUnshared m
  pub untouched : m.holds key []
  pub entries : List Entry
  pub core : C
  pub turn : ℕ
  pub words : s.words ≡ turn ∷ (length entries % 2 ^ 64) ∷ []
  pub made : AreEntries m key entries core
  pub each : (i : ℕ) (v : Known C) → get_elem? s.views i ≡ some v → Fits m key entries core v
  pub two : (i j : ℕ) (v w : Known C) → i ≢ j → get_elem? s.views i ≡ some v → get_elem? s.views j ≡ some w → AreOfTwo v w
  pub parts : all_parts s.views ≡ 2 ^ 32
  pub owned : (e : Entry) → Contains entries e
      → (i : ℕ) × (v : Known C) × (get_elem? s.views i ≡ some v) × (is_among e.seat v.seen.names ≡ true)
  pub whose : Turn core turn s.homes s.views

abbrev pub first_view : {C : Type 0} → C → Known C
first_view key = record { start = Some key; shown = None; parts = 4294967296; seen = nothing_seen }

-- ---- seats

-- A seat is split off: it has seen what the other has, with one part and nothing of its own.
abbrev pub split_off : {C : Type 0} → Known C → Known C
split_off v = record {
  start = v.start;
  shown = None;
  parts = 1;
  seen = record { entries = v.seen.entries; names = []; holds = []; kept = []; joined = None };
}

abbrev pub one_less : {C : Type 0} → Known C → Known C
one_less v = record { start = v.start; shown = v.shown; parts = v.parts - 1; seen = v.seen }

-- Two seats are made one: it has seen the longer of the two histories, and has the parts, names, looks and jobs of both.
abbrev pub together : {C : Type 0} → Known C → Known C → Known C
together v w = record {
  start = v.start;
  shown = v.shown;
  parts = v.parts + w.parts;
  seen = record {
    entries = longer v.seen.entries w.seen.entries;
    names = joined_names v.seen.names w.seen.names;
    holds = v.seen.holds ++ w.seen.holds;
    kept = v.seen.kept ++ w.seen.kept;
    joined = Some (half_of v.seen, half_of w.seen);
  };
}

-- what is left of the second
abbrev pub spent_view : {C : Type 0} → Known C
spent_view = record { start = None; shown = None; parts = 0; seen = nothing_seen }

-- A look at the turn's word tells what the rule knows of two seats that were made one: of each, and that what it holds is apart.
abbrev pub recalled : {C : Type 0} → Meaning C → Step (Option C) → Me (Option C) (Known C) → ℕ → Me (Option C) (Known C) → Type 0
recalled {C} m step me n after =
    (after ≡ me)
    × ((key : C) (one other : Half) → me.0.start ≡ Some key → me.0.seen.joined ≡ Some (one, other)
    → AreJoined (m.tells key) one other me.0.seen)
    × AllStrangers me.0.seen.holds

-- ---- the turn

abbrev pub showing : {C : Type 0} → Option C → Known C → Known C
showing shown v = record { start = v.start; shown = shown; parts = v.parts; seen = v.seen }

-- What a seat that knows this finds in the port, where `key` is the port as it was first shared.
pub record IsFound {C : Type 0} (m : Meaning C) (key : C) (v : Known C) (core : C) : Type 0 where
  pub held : List Hold
  pub holds : m.holds core held
  pub are_open : (hold : Hold) → Contains v.seen.holds hold → IsOpen m core hold
  pub strangers : AllStrangers v.seen.holds
  pub telling : m.tells core ≡ m.tells key
  pub kept : IsTrue (m.tells key) → v.seen.kept ≡ kept_of (m.shows core) v.seen.holds
  -- calls lead to it, which begin with those that it has seen: none of the later ones is its own, and with all parts it has seen all,
  -- and all are its own
  pub entries : List Entry
  pub made : AreEntries m key entries core
  pub later : List Entry
  pub begins : entries ≡ v.seen.entries ++ later
  pub others : own v.seen.names later ≡ []
  pub whole : v.parts ≡ 4294967296 → (later ≡ []) × (own v.seen.names entries ≡ entries)
  -- where it still writes, no piece of the seat's own failed
  pub unbroken : m.writes core → some_fails (own v.seen.names v.seen.entries) ≡ false

-- The turn was won, and the slot is out with the seat, which shows the port.
pub record HasWon {C : Type 0} (m : Meaning C) (me after : Me (Option C) (Known C)) : Type 0 where
  pub core : C
  pub shows : after ≡ (showing (Some core) me.0, (0, Some core) ∷ [])
  pub found : (key : C) → me.0.start ≡ Some key → IsFound m key me.0 core

abbrev pub won : {C : Type 0} → Meaning C → Step (Option C) → Me (Option C) (Known C) → ℕ → Me (Option C) (Known C) → Type 0
won m step me n after = (n ≡ 0 → HasWon m me after) × (n ≢ 0 → after ≡ me)

-- The turn was given back.
abbrev pub freed : {C : Type 0} → Step (Option C) → Me (Option C) (Known C) → ℕ → Me (Option C) (Known C) → Type 0
freed step me n after = after ≡ (showing None me.0, [])

-- ---- a call

-- What the call ends, reads and writes is the caller's own.
pub record IsOwn (holds : List Hold) (event : Event) (reply : Reply) : Type 0 where
  pub ended : (hold : Hold) → ends event reply hold ≡ true → (mine : Hold) × Contains holds mine × (ends event reply mine ≡ true)
  pub written : (number file : ℕ) (bytes : List ℕ) → event ≡ WritePiece number file bytes
      → (mine : Hold) × Contains holds mine × (is_among file (written_by mine) ≡ true)
  pub read : (pin block page : ℕ) → event ≡ ReadPage pin block page
      → (mine : Hold) × Contains holds mine × (is_among block (files_of mine) ≡ true)

-- The port knows the history that the calls make of the one that was known as it was first shared; and the last one, which was
-- answered so, told of the history before it.
pub record IsKnown {C : Type 0} (m : Meaning C) (from : View) (event : Event) (reply : Reply) (core : C) (earlier entries : List Entry) : Type 0 where
  pub view : View
  pub known : m.knows core view
  pub history : view.history ≡ history_from from.history entries
  pub told : TellsLength event reply (history_from from.history earlier)

-- One more call was made: it stands after all that the seat had seen and what came between, in which there is none of its own.
-- `key` is the port as it was when it was first shared, `before` and `core` as it was before and after the call.
pub record IsAppended {C : Type 0} (m : Meaning C) (key : C) (event : Event) (reply : Reply) (before core : C) (v w : Known C) : Type 0 where
  pub between : List Entry
  pub entry : Entry
  pub its_event : entry.event ≡ event
  pub its_reply : entry.reply ≡ reply
  pub its_before : entry.before ≡ m.faults before
  pub its_after : entry.after ≡ m.faults core
  pub its_name : entry.seat ≡ name_at (length (v.seen.entries ++ between)) v.seen.names
  pub seen : w.seen.entries ≡ (v.seen.entries ++ between) ++ entry ∷ []
  pub others : own v.seen.names between ≡ []
  pub leaves : AllLeave v.seen.holds between
  pub earlier : AreEntries m key (v.seen.entries ++ between) before
  pub names : w.seen.names ≡ names_after (length (v.seen.entries ++ between)) v.seen.names
  pub mine : own w.seen.names w.seen.entries ≡ own v.seen.names v.seen.entries ++ entry ∷ []
  pub holds : w.seen.holds ≡ holds_after event reply v.seen.holds
  pub strangers : AllStrangers w.seen.holds
  pub kept : w.seen.kept ≡ kept_of (m.shows core) w.seen.holds
  pub made : AreEntries m key w.seen.entries core
  pub knows : (from : View) → m.knows key from → IsKnown m from event reply core (v.seen.entries ++ between) w.seen.entries

abbrev pub with_seen : {C : Type 0} → Option C → Known C → Known C → Type 0
with_seen shown v w = (w.start ≡ v.start) × (w.parts ≡ v.parts) × (w.shown ≡ shown)

abbrev pub appended : {C : Type 0} → Meaning C → Event → Reply → Option C → Step (Option C) → Me (Option C) (Known C) → ℕ → Me (Option C) (Known C) → Type 0
appended {C} m event reply after step me n me' =
    (me'.1 ≡ me.1) × with_seen after me.0 me'.0
    × ((key before core : C) → me.0.start ≡ Some key → me.0.shown ≡ Some before → after ≡ Some core
    → IsAppended m key event reply before core me.0 me'.0)
