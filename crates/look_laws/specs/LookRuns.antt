-- Looks that are taken among calls of a port.
use Rattle.std.specs.Prelude.{◌≡◌, ℕ, true, false, List, [], ◌∷◌, ◌++◌}
use Rattle.std.specs.List.{Contains, flat_map}
use Rattle.span_types.specs.declared.ids.Key.{Key}
use Rattle.span_types.specs.declared.spans.Row.{Row}
use Rattle.span_types.specs.First.{first_at}
use Rattle.store_model.specs.Event.{Event, LookParts, FlushParts, CompactParts}
use Rattle.store_model.specs.Event.Event.{WritePiece, ReadPage, Look}
use Rattle.store_model.specs.Event.Reply.{Looked, Page}
use Rattle.store_model.specs.History.{History, first_in, count_of}
use Rattle.store_model.specs.Holds.{Hold, ends, holds_after}
use Rattle.store_model.specs.Holds.Hold.{OpenLook, OpenFlush, OpenCompact}
use Rattle.store_model.specs.State.{is_among}
use Rattle.store_model.specs.Told.{history_after}
use Rattle.store_state.specs.Made.{AreMade, Call, call}
use Rattle.store_state.specs.Meaning.{Meaning, View, Learns}
use Rattle.store_state.specs.Written.{HoldRows, page_of}

-- the call that gives the look
abbrev pub taking : LookParts → Call
taking look = call Look (Looked look)

-- ---- the history after calls

-- What each of the calls tells of the history: others may have added entries between them.
abbrev pub LearnAll : List Call → History → History → Type 0
LearnAll [] h h' = h' ≡ h
LearnAll (c ∷ calls) h h' = (between : History) × Learns c.event c.reply h between × LearnAll calls between h'

-- the history with what the calls added, and nothing else
abbrev pub history_after_calls : History → List Call → History
history_after_calls h [] = h
history_after_calls h (c ∷ calls) = history_after_calls (history_after c.event c.reply h) calls

-- ---- calls that leave a look

-- the call doesn't give the look back
abbrev pub KeepsLook : LookParts → Call → Type 0
KeepsLook look c = ends c.event c.reply (OpenLook look) ≡ false

-- and it writes no piece to a file of the look's blocks
pub record LeavesLook (look : LookParts) (c : Call) : Type 0 where
  pub keeps : KeepsLook look c
  pub apart : (number file : ℕ) (bytes : List ℕ) → c.event ≡ WritePiece number file bytes → is_among file look.files ≡ false

-- ---- pieces of jobs

-- an open job has the number and writes the file
pub data IsOwnFile (held : List Hold) (number file : ℕ) : Type 0 where
  OfFlush : (job : FlushParts) → job.number ≡ number → job.file ≡ file → Contains held (OpenFlush job) → IsOwnFile held number file
  OfCompact : (job : CompactParts) → job.number ≡ number → job.file ≡ file → Contains held (OpenCompact job) → IsOwnFile held number file

-- a piece that the event writes goes to such a file
abbrev pub IsOwnPiece : List Hold → Event → Type 0
IsOwnPiece held event = (number file : ℕ) (bytes : List ℕ) → event ≡ WritePiece number file bytes → IsOwnFile held number file

-- Each piece that the calls write goes to the file of a job that is open then; these were open before them.
abbrev pub AreOwnPieces : List Hold → List Call → Type 0
AreOwnPieces held [] = Unit {0}
AreOwnPieces held (c ∷ calls) = IsOwnPiece held c.event × AreOwnPieces (holds_after c.event c.reply held) calls

-- ---- what a look tells

-- The look is of the history's length. Its rows, and those that the files of its blocks hold, have the history's first occurrences.
pub record TellsHistory (bytes : ℕ → List ℕ) (look : LookParts) (h : History) : Type 0 where
  pub parts : List (List Row)
  pub hold : HoldRows bytes look.files parts
  pub count : look.as_of ≡ count_of h
  pub firsts : (k : Key) → first_at k (look.rows ++ flat_map (λ rows. rows) parts) ≡ first_in k h

-- Each page of these files that the calls read is the one that the bytes have there.
abbrev pub ArePagesOf : (ℕ → List ℕ) → List ℕ → List Call → Type 0
ArePagesOf bytes files calls =
    (pin file page : ℕ) (read : List ℕ) → Contains calls (call (ReadPage pin file page) (Page read))
    → is_among file files ≡ true → read ≡ page_of (bytes file) page

-- `here` is the port as it was just after the look was taken. By its bytes the look tells the history `h`, and the pages that the next
-- calls read are those of its files.
pub record IsToldAt {P : Type 0} (meaning : Meaning P) (old : P) (before : List Call) (look : LookParts) (between after : List Call) (new here : P) (h : History) : Type 0 where
  pub earlier : AreMade meaning old (before ++ taking look ∷ []) here
  pub later : AreMade meaning here (between ++ after) new
  pub tells : TellsHistory (meaning.shows here) look h
  pub pages : ArePagesOf (meaning.shows here) look.files between

-- The look tells a history that is known just after it: the earlier one, with what the calls until then added, and others.
pub record IsKept {P : Type 0} (meaning : Meaning P) (h : History) (old : P) (before : List Call) (look : LookParts) (between after : List Call) (new : P) : Type 0 where
  pub here : P
  pub view : View
  pub known : meaning.knows here view
  pub learnt : LearnAll (before ++ taking look ∷ []) h view.history
  pub told : IsToldAt meaning old before look between after new here view.history

-- The look tells the history that the calls before it made of the earlier one.
abbrev pub TellsExactly : {P : Type 0} → Meaning P → History → P → List Call → LookParts → List Call → List Call → P → Type 0
TellsExactly {P} meaning h old before look between after new =
    (here : P) × IsToldAt meaning old before look between after new here (history_after_calls h before)
