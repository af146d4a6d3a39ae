-- What several clients ask of one store at once, and how they are answered.
use Rattle.std.specs.Prelude.{◌≡◌, ℕ, zero, suc, ◌+◌, ◌*◌, ◌<◌, ◌≤◌, ◌==◌, Bool, true, List, [], ◌∷◌, ◌++◌, Option, Ok, Err, decimal, filter, length, map}
use Rattle.std.specs.List.{Contains, concat, range_with_len}
use Rattle.client_scripts.specs.Served.{AllTold, AreServed}
use Rattle.client_scripts.specs.declared.script.Answered.{Answered}
use Rattle.io_edges.specs.Lines.{line_limit}
use Rattle.port_history.specs.Entries.{Entry}
use Rattle.session_text.specs.declared.refusal.Refusal.TheVariants.{BadRequest, TooLong}
use Rattle.session_text.specs.declared.reply.Reply.{Reply}
use Rattle.session_text.specs.declared.request.Request.TheVariants.{Compact, Cut, Flush, Reclaim}
use Rattle.session_text.specs.Items.{Item}
use Rattle.session_text.specs.Replies.{reply_text}
use Rattle.session_text.specs.Requests.{AsksAt}
use Rattle.store_model.specs.History.{count_of}
use Rattle.store_model.specs.Told.{AreCounted}
use Rattle.session_meaning.specs.Asked.{IsNextMoment, after_lines, after_moment}
use Rattle.session_meaning.specs.At.{At, IsStep, history_of}

-- ---- lines are dealt to clients

-- A line of one of so many clients: its number in decimal digits, one space, and a request.
pub record IsFrom (clients : ℕ) (line : List ℕ) (client : ℕ) (request : List ℕ) : Type 0 where
  pub is_one : client < clients
  pub line_is : line ≡ decimal client ++ 32 ∷ request

-- To whom a line goes, and what it asks or why it is refused.
pub record Dealt : Type 0 where
  pub client : ℕ
  pub item : Item

-- What becomes of a line that is read at a moment, where the maker of patterns refused these texts.
pub data IsDealt (clients moment : ℕ) (line : List ℕ) (refused : List (List ℕ)) (dealt : Dealt) : Type 0 where
  -- a client's request is read as if it stood alone: places in its refusal count from its first byte
  asks : (request : List ℕ) → length line ≤ line_limit → IsFrom clients line dealt.client request
      → AsksAt moment request refused dealt.item → IsDealt clients moment line refused dealt
  -- a line that is too long is refused in the place of client 0
  too_long : line_limit < length line → dealt ≡ record { client = 0; item = Err (TooLong (length line)) } → refused ≡ []
      → IsDealt clients moment line refused dealt
  -- and so is one that is no client's
  of_nobody : length line ≤ line_limit → ((client : ℕ) (request : List ℕ) → IsFrom clients line client request → ⊥)
      → dealt ≡ record { client = 0; item = Err (BadRequest 0) } → refused ≡ [] → IsDealt clients moment line refused dealt

-- The lines are dealt so in order, each as it is read at the clock's next moment, where the maker of patterns refused these texts, in
-- order. A line without bytes is left out, and the clock isn't asked for it.
abbrev pub AreDealt : ℕ → List (List ℕ) → Option (List ℕ) → List Dealt → List (List ℕ) → Type 0
AreDealt clients [] told dealt refused = (dealt ≡ []) × (refused ≡ [])
AreDealt clients ([] ∷ lines) told dealt refused = AreDealt clients lines told dealt refused
AreDealt clients ((b ∷ bs) ∷ lines) told [] refused = ⊥
AreDealt clients ((b ∷ bs) ∷ lines) told (one ∷ more) refused =
    (moment : ℕ) × (now later : List (List ℕ)) × IsNextMoment told moment × IsDealt clients moment (b ∷ bs) now one
    × (refused ≡ now ++ later) × AreDealt clients lines (after_moment told) more later

-- What goes to a client, in the order of the lines.
abbrev pub script_of : List Dealt → ℕ → List Item
script_of dealt client = map (λ (d : Dealt). d.item) (filter (λ (d : Dealt). d.client == client) dealt)

-- the scripts of so many clients
abbrev pub scripts_of : ℕ → List Dealt → List (List Item)
scripts_of clients dealt = map (script_of dealt) (range_with_len 0 clients)

-- ---- two more scripts keep the store up

-- So many times a cut and a flush, each at the clock's next moment, which a cut takes.
abbrev pub AreCuts : ℕ → Option (List ℕ) → List Item → Type 0
AreCuts zero told items = items ≡ []
AreCuts (suc rounds) told items =
    (moment : ℕ) × (later : List Item) × IsNextMoment told moment × (items ≡ Ok (Cut moment) ∷ Ok Flush ∷ later)
    × AreCuts rounds (after_moment (after_moment told)) later

-- So many times a compaction and the emptying of loose files.
abbrev pub compactions : ℕ → List Item
compactions zero = []
compactions (suc rounds) = Ok Compact ∷ Ok Reclaim ∷ compactions rounds

-- what the clock has to give after so many moments
abbrev pub after_moments : ℕ → Option (List ℕ) → Option (List ℕ)
after_moments zero told = told
after_moments (suc count) told = after_moments count (after_moment told)

-- All that is asked: by so many clients what the lines ask, and then by two more what keeps the store up, so many rounds of it. The clock
-- is asked once for each line that has bytes, and then once for each of the requests of these two.
pub record AreScripts (clients rounds : ℕ) (lines : List (List ℕ)) (told : Option (List ℕ)) (scripts : List (List Item))
    (refused : List (List ℕ)) (to_tell : Option (List ℕ)) : Type 0 where
  pub dealt : List Dealt
  pub are_dealt : AreDealt clients lines told dealt refused
  pub cuts : List Item
  pub are_cuts : AreCuts rounds (after_lines lines told) cuts
  pub scripts_are : scripts ≡ scripts_of clients dealt ++ cuts ∷ compactions rounds ∷ []
  pub clock : to_tell ≡ after_moments (4 * rounds) (after_lines lines told)

-- ---- what they are answered

-- A call of one client is a step of the store, and its entry has the counts of the disk's faults before and after it. Where what the blocks
-- hold is told each listed block has as many rows afterwards as its information says.
pub record IsMade (told : Bool) (before : At) (e : Entry) (after : At) : Type 0 where
  pub from : e.before ≡ before.faults
  pub to : e.after ≡ after.faults
  pub step : IsStep before e.event e.reply after
  pub counted : told ≡ true → AreCounted after.machine.state.blocks

-- These calls were made in their order, each from where the one before it left the store.
abbrev pub EntriesLead : Bool → At → List Entry → At → Type 0
EntriesLead told before [] after = after ≡ before
EntriesLead told before (e ∷ entries) after = (between : At) × IsMade told before e between × EntriesLead told between entries after

-- Scripts were asked of one store at once, each in its own order, and answered so, from a first store to a last one. `entries` are the
-- calls of the store that were made, in their one order: each is a step of it, and the count of its disk's faults goes on from one to the
-- next, and rises by one with each call that answers a fault. Each call is one client's. Those of a client are just the ones by which its
-- script was answered, in its order: all of the script, or its first items where memory ran out. Where what the store holds is told,
-- as `told` says, each listed block has as many rows after each call as its information says; and each query tells of the last history as
-- it was at some length: not below the first history's, with each push that its client was told of before, and not below what a query of
-- its client told before.
pub record Ran (told : Bool) (first : At) (scripts : List (List Item)) (answers : List Answered) (entries : List Entry) (last : At) : Type 0
  where
    pub lead : EntriesLead told first entries last
    pub whose : (e : Entry) → Contains entries e → e.seat < length scripts
    pub served : AreServed 0 scripts answers entries
    pub seen : told ≡ true → AllTold (history_of last) (count_of (history_of first)) scripts answers

-- ---- what is written

-- A reply to a client is led by the client's number and a space.
abbrev pub reply_to : ℕ → Reply → List ℕ
reply_to client reply = decimal client ++ 32 ∷ reply_text reply

-- those to a client, in order
abbrev pub texts_to : ℕ → List Reply → List (List ℕ)
texts_to client replies = map (reply_to client) replies

-- Those to all, client by client, from this one on.
abbrev pub served_texts : ℕ → List Answered → List (List ℕ)
served_texts client [] = []
served_texts client (answered ∷ answers) = texts_to client answered.replies.items ++ served_texts (client + 1) answers

-- what all these make
abbrev pub served_text : ℕ → List Answered → List ℕ
served_text client answers = concat (served_texts client answers)
