-- Where a line stands among all that is done in a session, what it needs there to be done, and which line stopped the store from writing.
use Rattle.std.specs.Prelude.{Bool, true, false, ◌≡◌, ◌⊎◌, ⊤, ℕ, List, [], ◌∷◌, ◌++◌, None, Some}
use Rattle.span_types.specs.Faults.{Rose}
use Rattle.session_text.specs.declared.refusal.Refusal.{Refusal}
use Rattle.session_text.specs.declared.reply.Reply.{Reply}
use Rattle.session_text.specs.declared.reply.Reply.TheVariants.{Refused, Reopened}
use Rattle.session_text.specs.Items.{Item}
use Rattle.store_model.specs.Step.{Machine}
use Rattle.session_meaning.specs.Act.{Act}
use Rattle.session_meaning.specs.Act.Act.{Ask, Reopen, Unread}
use Rattle.session_meaning.specs.At.{At}
use Rattle.session_meaning.specs.Causes.{is_disk_fault}
use Rattle.session_meaning.specs.Done.{AreDone, IsDone}
use Rattle.session_meaning.specs.InOrder.{InOrder}
use Rattle.session_meaning.specs.Place.{Place}
use Rattle.session_meaning.specs.Pushes.{HasRoomNow, NeedsNoWrite}
use Rattle.session_meaning.specs.Session.{is_refused}

-- ---- a line at its own place

-- One line among all that is done from a first place to a last one: those before it were done, with these replies, then this one, and then
-- those after it. It was done from `before` to `after`.
pub record LinePlace (told : Bool) (first : Place) (front : List Act) (earlier : List Reply) (act : Act) (reply : Reply) (back : List Act)
    (later : List Reply) (last : Place) : Type 0 where
  pub before : Place
  pub after : Place
  pub led : AreDone told first front earlier before
  pub done : IsDone told act before reply after
  pub goes_on : AreDone told after back later last

-- No call of the disk failed in between.
abbrev pub WasQuiet : Place → Place → Type 0
WasQuiet before after = Rose before.store.faults after.store.faults → ⊥

-- The store has what this line needs: it needs no write; or the store writes, and has room for it.
abbrev pub HasItsRoom : Item → Machine → Type 0
HasItsRoom item m = NeedsNoWrite item ⊎ ((m.read_only ≡ None) × HasRoomNow item m)

-- ---- lines that all are in order and have room

-- What is asked isn't refused in reading, and the store has room for it. A line that isn't read, since the store is closed, is none such.
abbrev pub IsInOrderAt : Act → Machine → Type 0
IsInOrderAt (Ask item) m = (is_refused item ≡ false) × HasRoomNow item m
IsInOrderAt (Reopen moment) m = ⊤
IsInOrderAt Unread m = ⊥

abbrev pub IsDoneWithRoom : Act → Place → Reply → Place → Type 0
IsDoneWithRoom act before reply after = IsDone true act before reply after × IsInOrderAt act before.store.machine

-- Each is done, in order, and is so at its own place. What the blocks hold is told.
abbrev pub AreDoneWithRoom : Place → List Act → List Reply → Place → Type 0
AreDoneWithRoom = InOrder IsDoneWithRoom

-- ---- the line at which a store stopped writing

-- A store that wrote was asked something that was refused since a call of the disk failed. From then on it writes no more, and tells this
-- count: the disk's count of faults after that line, which is above that before it.
pub record StoppedWriting (before : At) (why : Refusal) (faults : ℕ) (after : At) : Type 0 where
  pub wrote : before.machine.read_only ≡ None
  pub fault : is_disk_fault why ≡ true
  pub rose : Rose before.faults faults
  pub count : after.faults ≡ faults
  pub tells : after.machine.read_only ≡ Some faults

-- No line opens the store again, and is told that it did.
abbrev pub OpensNone : List Act → List Reply → Type 0
OpensNone [] replies = ⊤
OpensNone (act ∷ acts) [] = ⊤
OpensNone (Reopen moment ∷ acts) (Reopened entries ∷ replies) = ⊥
OpensNone (act ∷ acts) (reply ∷ replies) = OpensNone acts replies

-- Among all that was done this line stopped the store from writing, with this count of faults, and no opening went well since.
pub record FaultPlace (told : Bool) (first : Place) (acts : List Act) (replies : List Reply) (last : Place) (faults : ℕ) : Type 0 where
  pub front : List Act
  pub earlier : List Reply
  pub item : Item
  pub why : Refusal
  pub back : List Act
  pub later : List Reply
  pub acts_are : acts ≡ front ++ Ask item ∷ back
  pub replies_are : replies ≡ earlier ++ Refused why ∷ later
  pub place : LinePlace told first front earlier (Ask item) (Refused why) back later last
  pub stopped : StoppedWriting place.before.store why faults place.after.store
  pub none_opened : OpensNone back later
