-- Several clients over a disk whose calls may fail: by which call a store came to write no more, and what each line needs to be done.
use Rattle.std.specs.Prelude.{◌≡◌, ⊤, ℕ, Bool, true, false, List, [], ◌∷◌, ◌++◌, Option, None, Some, Ok}
use Rattle.port_history.specs.Entries.{Entry, call_of}
use Rattle.session_text.specs.declared.refusal.Refusal.{Refusal}
use Rattle.session_text.specs.declared.refusal.Refusal.TheVariants.{ReadOnly, Round}
use Rattle.session_text.specs.declared.reply.Reply.{Reply}
use Rattle.session_text.specs.declared.request.Request.TheVariants.{Compact, Flush}
use Rattle.session_text.specs.Items.{Item}
use Rattle.span_types.specs.Faults.{Rose}
use Rattle.store_model.specs.Event.Reply.{Refused}
use Rattle.store_model.specs.Event.Refusal.{Fault}
use Rattle.store_model.specs.Step.{Machine, writes as is_write}
use Rattle.store_state.specs.Made.{Call}
use Rattle.store_state.specs.declared.rounds.Refusal.TheVariants as round
use Rattle.session_meaning.specs.Answering.{IsItemAnswered}
use Rattle.session_meaning.specs.At.{At}
use Rattle.session_meaning.specs.Pushes.{HasRoomNow}
use Rattle.session_meaning.specs.ServedReplies.{CallPlace}
use Rattle.session_meaning.specs.Session.{is_refused}
use Rattle.session_meaning.specs.Serving.{EntriesLead, IsMade}

-- ---- a store that writes no more

-- One of these calls failed as it wrote. The store wrote until then, and writes no more since: what it tells as `read-only` is the disk's
-- count of faults after that call, which is above the count at first.
pub record HasBroken (told : Bool) (first : At) (entries : List Entry) (last : At) : Type 0 where
  pub earlier : List Entry
  pub entry : Entry
  pub later : List Entry
  pub entries_are : entries ≡ earlier ++ entry ∷ later
  pub before : At
  pub after : At
  pub to : EntriesLead told first earlier before
  pub made : IsMade told before entry after
  pub from : EntriesLead told after later last
  pub wrote : before.machine.read_only ≡ None
  pub writes : is_write before.machine.state entry.event ≡ true
  pub failed : entry.reply ≡ Refused Fault
  pub rose : Rose first.faults entry.after
  pub tells : last.machine.read_only ≡ Some entry.after

-- the count that a refusal as `read-only` tells
abbrev pub count_told : Refusal → Option ℕ
count_told (ReadOnly faults) = Some faults
count_told (Round (round.ReadOnly faults)) = Some faults
count_told _ = None

-- ---- what a line needs to be done

-- That holds at each call by which a client's item was answered so, of the store just before the call and just after it.
abbrev pub AtItsCalls : (told : Bool) (first : At) (entries : List Entry) (last : At) (client : ℕ) (asked : List Item) (got : List Reply)
    → Item → Reply → (At → At → Type 0) → Type 0
AtItsCalls told first entries last client asked got item reply holds =
    (front back : List Call) (place : CallPlace told first entries last client asked got front)
    → IsItemAnswered item reply (front ++ call_of place.entry ∷ back) → holds place.before place.after

-- No call of the disk failed in it.
abbrev pub Succeeds : At → At → Type 0
Succeeds before after = Rose before.faults after.faults → ⊥

-- No write had failed before it.
abbrev pub Writes : At → At → Type 0
Writes before after = before.machine.read_only ≡ None

-- no job of the kind that the item is to begin is open
abbrev pub FindsNoJob : Item → Machine → Type 0
FindsNoJob (Ok Flush) m = m.state.flush ≡ None
FindsNoJob (Ok Compact) m = m.state.compaction ≡ None
FindsNoJob _ m = ⊤

-- A client's item was in order; and just before the first call for it there was room for it, and no job of its kind was open.
pub record FindsRoom (told : Bool) (first : At) (entries : List Entry) (last : At) (client : ℕ) (asked : List Item) (got : List Reply) (item : Item) : Type 0 where
  pub in_order : is_refused item ≡ false
  pub room : (place : CallPlace told first entries last client asked got []) → HasRoomNow item place.before.machine
  pub no_job : (place : CallPlace told first entries last client asked got []) → FindsNoJob item place.before.machine
