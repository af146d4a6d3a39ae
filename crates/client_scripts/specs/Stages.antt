-- Private mechanism: how far a script has come, and what the ticket knows that is made of those of several clients. No public clause
-- cites it.
use Rattle.std.specs.Prelude.{◌≡◌, ℕ, ◌<◌, ◌≤◌, ◌^◌, Bool, true, false, ◌||◌, List, [], ◌∷◌, ◌++◌, Option, Some, Vec, map, IsTrue}
use Rattle.std.specs.Vec.{vec_capacity, vec_len}
use Rattle.std.specs.declared.alloc.Global.{Global}
use Rattle.session_text.specs.declared.reply.Reply.{Reply}
use Rattle.session_text.specs.Items.{Item}
use Rattle.store_model.specs.Holds.{Hold}
use Rattle.store_model.specs.History.{count_of}
use Rattle.store_model.specs.State.{is_among}
use Rattle.store_state.specs.Meaning.{Meaning, View}
use Rattle.port_history.specs.Entries.{Entry, call_of, history_from, own}
use Rattle.shared_store.specs.Idle.{IsOf, Store}
use Rattle.shared_store.specs.Rule.{together}
use Rattle.shared_store.specs.Seats.{Stand, told_by}
use Rattle.shared_store.specs.Seen.{GoesOn, ShareNone}
use Rattle.client_scripts.specs.Scripts.{AreAnsweredOver, IsScriptAnswered}
use Rattle.client_scripts.specs.Told.{AreTold, BlameNone}
use Rattle.client_scripts.specs.declared.script.Answered.{Answered}

-- ---- one script

-- The items before these were answered over a port from `old` on.
pub record IsPartAnswered {P : Type 0} (meaning : Meaning P) (old : P) (items rest : List Item) (replies : List Reply) (port : P) : Type 0 where
  pub front : List Item
  pub items_are : items ≡ front ++ rest
  pub each : AreAnsweredOver meaning old front replies port
  pub holds : (held : List Hold) × meaning.holds port held

-- ---- several

-- Whichever history a port knows, it has one length.
abbrev pub KnowsOneLength : {P : Type 0} → Meaning P → P → Type 0
KnowsOneLength meaning port = (v w : View) → meaning.knows port v → meaning.knows port w → count_of v.history ≡ count_of w.history

-- A client whose calls stand under these names: among the entries they are just those by which its script was answered so. It is told of
-- the history that the entries make of one that was known as the port was first shared, and of no block that it is none.
pub record HasRun {C : Type 0} (m : Meaning C) (start : Option C) (entries : List Entry) (script : List Item) (answered : Answered) (names : List ℕ) : Type 0 where
  pub answered_by : IsScriptAnswered script answered (map call_of (own names entries))
  pub told : IsTrue (told_by m start) → (key : C) → start ≡ Some key → KnowsOneLength m key → (from : View) → m.knows key from
      → AreTold (history_from from.history entries) (count_of from.history) script answered.replies.items
  pub whole : IsTrue (told_by m start) → BlameNone script answered.replies.items

-- the same of several clients
abbrev pub AllRun : {C : Type 0} → Meaning C → Option C → List Entry → List (List Item) → List Answered → List (List ℕ) → Type 0
AllRun m start entries [] answers names = (answers ≡ []) × (names ≡ [])
AllRun m start entries (script ∷ scripts) [] names = ⊥
AllRun m start entries (script ∷ scripts) (answered ∷ answers) [] = ⊥
AllRun m start entries (script ∷ scripts) (answered ∷ answers) (own_names ∷ names) =
    HasRun m start entries script answered own_names × AllRun m start entries scripts answers names

-- the name is among those of some client
abbrev pub is_named : ℕ → List (List ℕ) → Bool
is_named n [] = false
is_named n (own_names ∷ names) = is_among n own_names || is_named n names

-- No two clients share a name.
abbrev pub AllApart : List (List ℕ) → Type 0
AllApart [] = Unit {0}
AllApart (own_names ∷ names) = ((n : ℕ) → is_among n own_names ≡ true → is_named n names ≡ false) × AllApart names

-- From a ticket that had no calls clients were given seats, and their tickets were made one with it: it has their names and no others.
pub record HaveRun {C : Type 0} (m : Meaning C) (v : Stand C) (scripts : List (List Item)) (answers : List Answered) (w : Stand C) : Type 0 where
  pub table : w.table ≡ v.table
  pub start : w.known.start ≡ v.known.start
  pub parts : w.known.parts ≡ v.known.parts
  pub names : List (List ℕ)
  pub each : AllRun m v.known.start w.known.seen.entries scripts answers names
  pub apart : AllApart names
  pub named : (n : ℕ) → is_among n w.known.seen.names ≡ is_named n names

-- The ticket is made of two of one store.
pub record IsOneOf {C : Type 0} (v w both : Stand C) : Type 0 where
  pub table : both.table ≡ v.table
  pub is : both.known ≡ together v.known w.known
  pub apart : ShareNone v.known.seen.names w.known.seen.names
  pub first : GoesOn v.known.seen.names v.known.seen.entries both.known.seen.entries
  pub second : GoesOn w.known.seen.names w.known.seen.entries both.known.seen.entries

-- The ticket has parts for so many scripts, and made no call; their answers have room.
pub record MayRun {C : Type 0} (store : Store C) (ticket : Stand C) (scripts : Vec (List Item) Global) (answers : Vec Answered Global) : Type 0 where
  pub here : IsOf store ticket
  pub fresh : ticket.known.seen.names ≡ []
  pub parts : vec_len scripts < ticket.known.parts
  pub few : vec_len scripts ≤ 2 ^ 31
  pub room : vec_len scripts ≤ vec_capacity answers
  pub none : answers.items ≡ []
