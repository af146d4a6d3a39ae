-- What a query makes of a port, and of which rows it tells.
use Rattle.std.specs.Prelude.{◌≡◌, ◌⊎◌, ℕ, ◌≤◌, Bool, true, false, List, [], ◌∷◌, ◌++◌, Result, Ok, Err, IsTrue}
use Rattle.span_types.specs.declared.spans.Row.{Row}
use Rattle.block_info.specs.InfoParts.{InfoParts}
use Rattle.store_entries.specs.declared.entry.Entry.{Entry}
use Rattle.store_model.specs.Event.{LookParts}
use Rattle.store_model.specs.Event.Event.{ReadPage}
use Rattle.store_model.specs.Event.{Event as event, Reply as reply, Refusal as cause}
use Rattle.store_model.specs.History.{History, count_of, grown, history_rows, up_to}
use Rattle.store_model.specs.State.{is_among}
use Rattle.store_state.specs.Given.{info_files}
use Rattle.store_state.specs.Made.{Call, AreMade, call}
use Rattle.store_state.specs.Meaning.{Meaning, View}
use Rattle.query_fanout.specs.declared.error.QueryError.{QueryError}
use Rattle.query_fanout.specs.declared.error.QueryError.TheVariants.{Fault, NotBlock, Memory}

-- A look as it was answered, with the information of the blocks that it pins.
pub record Taken : Type 0 where
  pub pin : ℕ
  pub blocks : List InfoParts
  pub as_of : ℕ
  pub rows : List Row

-- what was given out of it
abbrev pub parts_of : Taken → LookParts
parts_of look = record {
  pin = look.pin;
  files = info_files look.blocks;
  as_of = look.as_of;
  rows = look.rows;
}

abbrev pub look_call : Taken → Call
look_call look = call event.Look (reply.Looked (parts_of look))

-- a page that a query asked for could not be read
abbrev pub is_fault : {A : Type 0} → Result A QueryError → Bool
is_fault (Ok x) = false
is_fault (Err Fault) = true
is_fault (Err (NotBlock file at)) = false
is_fault (Err Memory) = false

-- Pages of these files were read through a pin, and each was given.
abbrev pub AreReads : ℕ → List ℕ → List Call → Type 0
AreReads pin files [] = Unit {0}
AreReads pin files (c ∷ calls) =
    ((file page : ℕ) × (bytes : List ℕ) × (is_among file files ≡ true) × (c ≡ call (ReadPage pin file page) (reply.Page bytes)))
    × AreReads pin files calls

-- The page reads of a query: each is given; or each but the last, which is refused.
abbrev pub ReadsPages : ℕ → List ℕ → Bool → List Call → Type 0
ReadsPages pin files false calls = AreReads pin files calls
ReadsPages pin files true calls =
    (reads : List Call) × (file page : ℕ) × AreReads pin files reads × (is_among file files ≡ true)
    × (calls ≡ reads ++ call (ReadPage pin file page) (reply.Refused cause.Fault) ∷ [])

-- What is told fits some rows more, of which there are none if no block is pinned; and a block that is found to be none is pinned.
abbrev pub ComesOf : {A : Type 0} → (List Row → A → Type 0) → List InfoParts → Result A QueryError → Type 0
ComesOf fits infos (Ok x) = (more : List Row) × (infos ≡ [] → more ≡ []) × fits more x
ComesOf fits infos (Err Fault) = Unit {0}
ComesOf fits infos (Err (NotBlock file at)) = is_among file (info_files infos) ≡ true
ComesOf fits infos (Err Memory) = Unit {0}

-- A query takes one look, reads pages of the blocks that it pins, and gives the look back. It tells of the look's rows and of some more,
-- as of the look's count, or why it can't. If there is no memory for the look nothing else is done.
abbrev pub IsAsked : {A : Type 0} → (ℕ → List Row → A → Type 0) → Result A QueryError → List Call → Type 0
IsAsked tells r calls =
    ((calls ≡ call event.Look (reply.Refused cause.Memory) ∷ []) × (r ≡ Err Memory))
    ⊎ ((look : Taken) × (reads : List Call)
    × (calls ≡ look_call look ∷ (reads ++ call (event.Done look.pin) reply.Fine ∷ []))
    × ReadsPages look.pin (info_files look.blocks) (is_fault r) reads
    × ComesOf (λ more x. tells look.as_of (look.rows ++ more) x) look.blocks r)

-- What is told fits, and no block is found to be none.
abbrev pub Sound : {A : Type 0} → (A → Type 0) → Result A QueryError → Type 0
Sound fits (Ok x) = fits x
Sound fits (Err Fault) = Unit {0}
Sound fits (Err (NotBlock file at)) = ⊥
Sound fits (Err Memory) = Unit {0}

-- the history with what was added to it since
abbrev pub IsGrown : History → History → Type 0
IsGrown h later = (others : List Entry) × (later ≡ grown h others)

-- It is told of a later history, as it was at some length from that on which this one has.
abbrev pub TellsOf : {A : Type 0} → (ℕ → List Row → A → Type 0) → History → History → A → Type 0
TellsOf tells h later x =
    (n : ℕ) × (count_of h ≤ n) × (n ≤ count_of later) × tells n (history_rows (up_to n later)) x

-- A history is known afterwards that begins with the one that was known, and that holds of it.
abbrev pub KnowsLater : {P : Type 0} → Meaning P → P → View → (History → Type 0) → Type 0
KnowsLater meaning new v holds =
    (later : View) × meaning.knows new later × IsGrown v.history later.history × holds later.history

-- A query was asked over a port: these calls are all that it made. Where the port shows its bytes, what it tells is told of the
-- history that is known afterwards, as it was at some length from that on which was known before; and each block is found to be one,
-- whether a history is known or not.
pub record HasAsked {P A : Type 0} (meaning : Meaning P) (old : P) (tells : ℕ → List Row → A → Type 0) (r : Result A QueryError) (new : P) : Type 0 where
  pub calls : List Call
  pub made : AreMade meaning old calls new
  pub asked : IsAsked tells r calls
  pub told : IsTrue (meaning.tells old) → (v : View) → meaning.knows old v
      → KnowsLater meaning new v (λ later. Sound (TellsOf tells v.history later) r)
  pub whole : IsTrue (meaning.tells old) → Sound (λ x. Unit {0}) r
