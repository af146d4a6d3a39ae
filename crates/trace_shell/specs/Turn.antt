-- Private mechanism of a session: what a turn does, in which one line is read and answered, and its reply written; and
-- what a session, and a line alone, come to. A run is specified in session_meaning.
use Rattle.std.specs.Prelude.{Bool, ◌≡◌, ◌≢◌, ◌⊎◌, ⊤, ℕ, List, [], ◌∷◌, ◌++◌, ◌||◌, Option, Some, None, if◌then◌else◌, map}
use Rattle.std.specs.List.{list_any}
use Rattle.std.specs.Io.KnownBytes.{Appends}
use Rattle.io_edges.specs.Devices.{AppendsPrefix}
use Rattle.io_edges.specs.Lines.{lines}
use Rattle.io_edges.specs.Reader.{Reader, IsToRead, TakesBytes}
use Rattle.command_words.specs.Commands.{Alone, Command, Drill as drill, Ingest as ingest, Serve as serve, Session as session}
use Rattle.store_files.specs.declared.error.OpenError.{OpenError}
use Rattle.store_files.specs.declared.error.OpenError.TheVariants as open_errors
use Rattle.session_text.specs.declared.refusal.Refusal.TheVariants as refusal
use Rattle.session_text.specs.declared.reply.Reply.{Reply}
use Rattle.session_text.specs.declared.reply.Reply.TheVariants as reply
use Rattle.disk_model.specs.declared.disk.Device.{Ghosts}
use Rattle.store_core.specs.Port.{port_of}
use Rattle.store_core.specs.declared.store.Core.{Core}
use Rattle.store_model.specs.Holds.{Hold}
use Rattle.store_reopen.specs.declared.store.Store.{Store}
use Rattle.store_reopen.specs.declared.store.Store.TheVariants.{Closed, Open}
use Rattle.session_text.specs.Items.{Item}
use Rattle.session_text.specs.Replies.{not_store_text, reply_text}
use Rattle.session_meaning.specs.declared.ending.Ending.{Ending}
use Rattle.session_meaning.specs.declared.ending.Ending.TheVariants.{Answered, BadWords, NotOpened, NotStore, Refused, Starved, WriteFault}
use Rattle.session_meaning.specs.Act.{Act}
use Rattle.session_meaning.specs.Act.Act.{Ask}
use Rattle.session_meaning.specs.At.{At}
use Rattle.session_meaning.specs.Done.{AreDone}
use Rattle.session_meaning.specs.Over.{AreDoneOver}
use Rattle.session_meaning.specs.Place.{Place, opened_at}
use Rattle.session_meaning.specs.Asked.{AreAsked, AsksNext, after_lines, after_moment}
use Rattle.session_meaning.specs.Drill.{CameThrough}
use Rattle.session_meaning.specs.Duties.{Duty, Follows, IsLeft, duties}
use Rattle.session_meaning.specs.Progress.{HasAnsweredOver, FollowsOver, Progress}
use Rattle.session_meaning.specs.Runs.{Does, Edges, HasCause, NeedsNoSource, OnlyAsks, Outcome}
use Rattle.session_meaning.specs.Session.{Ends, EndsAlone, is_for_memory, is_refusal, reply_texts}
use Rattle.trace_shell.specs.declared.session.Tally.{Tally}

-- what is open in the core of a store that is open is known
abbrev pub IsHeld : {D : Type 0} → Ghosts D → Store D → Type 0
IsHeld g (Open core) = (held : List Hold) × (port_of g).holds core held
IsHeld g (Closed disk) = ⊤

-- how a line of so many bytes, which are too many, is refused
abbrev pub refused_long : {D : Type 0} → Store D → ℕ → Reply
refused_long (Open core) length = reply.Refused (refusal.TooLong length)
refused_long (Closed disk) length = reply.Refused refusal.Closed

-- Which refusals are among the replies, after one more.
abbrev pub tally_with : Tally → Reply → Tally
tally_with tally reply = record { refused = tally.refused || is_refusal reply; starved = tally.starved || is_for_memory reply }

-- How a session ends whose input was read to its end.
abbrev pub ending_of : Tally → Ending
ending_of tally = if tally.refused then Refused else if tally.starved then Starved else Answered

-- A reply was written whole; or there was no memory for its text, and nothing was written; or the sink failed, having
-- taken a part of it.
abbrev pub HasGiven : Option (List ℕ) → Option (List ℕ) → Tally → Tally → Reply → Option Ending → Type 0
HasGiven old new tally_old tally_new reply None = Appends old new (reply_text reply) × (tally_new ≡ tally_with tally_old reply)
HasGiven old new tally_old tally_new reply (Some Starved) = new ≡ old
HasGiven old new tally_old tally_new reply (Some WriteFault) = AppendsPrefix old new (reply_text reply)
HasGiven old new tally_old tally_new reply (Some _) = ⊥

-- Where a session is between two lines: what is to be read, how far it came in `text` and with the moments that the clock told
-- at first, and what stands written after `before`.
pub record IsAt (told : Option (List ℕ)) (text before : List ℕ) (left taken to_tell : Option (List ℕ)) (reader : Reader) (tally : Tally)
    (acts : List Act) (replies : List Reply) (blamed : List (List ℕ)) : Type 0 where
  pub rest : List ℕ
  pub to_read : IsToRead reader left rest
  pub progress : Progress told text rest blamed acts to_tell
  pub written : taken ≡ Some (before ++ reply_texts replies)
  pub refused : tally.refused ≡ list_any is_refusal replies
  pub starved : tally.starved ≡ list_any is_for_memory replies
  pub took : TakesBytes (Some text) left 0 reader.taken

-- What a session came to that read `text` and ended so, where the maker refused these texts.
pub record Came (told : Option (List ℕ)) (text before : List ℕ) (left taken to_tell : Option (List ℕ)) (ending : Ending)
    (acts : List Act) (replies : List Reply) (blamed : List (List ℕ)) : Type 0 where
  pub answered : List (List ℕ)
  pub later : List (List ℕ)
  pub lines_are : lines text ≡ answered ++ later
  pub asked : AreAsked answered told acts blamed
  pub clock : to_tell ≡ after_lines answered told
  pub ends : Ends ending text later left before replies taken

-- What a turn leaves: the session is at its next line, or it ended.
abbrev pub Turned : Option (List ℕ) → List ℕ → List ℕ → Option (List ℕ) → Option (List ℕ) → Option (List ℕ) → Reader → Tally
    → List Act → List Reply → List (List ℕ) → Option Ending → Type 0
Turned told text before left taken to_tell reader tally acts replies blamed None =
    IsAt told text before left taken to_tell reader tally acts replies blamed
Turned told text before left taken to_tell reader tally acts replies blamed (Some ending) =
    Came told text before left taken to_tell ending acts replies blamed

-- What an ingest came to that read `text` and ended so. `asks` says that what was asked was due by the first duties,
-- and that the second ones are left.
pub record CameByLines (asks : List Duty → List Duty → Type 0) (text before : List ℕ) (left taken : Option (List ℕ))
    (ending : Ending) (replies : List Reply) : Type 0 where
  pub pushed : List (List ℕ)
  pub later : List (List ℕ)
  pub lines_are : lines text ≡ pushed ++ later
  pub todo : List Duty
  pub asked : asks (duties (lines text)) todo
  pub is_left : IsLeft ending later todo
  pub ends : Ends ending text later left before replies taken

-- What a command came to over a core that was opened: the acts that were done over its store, and what these are.
abbrev pub CameOver : {D : Type 0} → Command → Ghosts D → Core D → Store D → (old_left old_taken told left taken to_tell : Option (List ℕ)) → Ending
    → List Act → List Reply → List (List ℕ) → Type 0
CameOver session g start store old_left old_taken told left taken to_tell ending acts replies blamed =
    AreDoneOver g (Open start) acts replies store
    × ((text before : List ℕ) → old_left ≡ Some text → old_taken ≡ Some before
    → Came told text before left taken to_tell ending acts replies blamed)
CameOver {D} ingest g start store old_left old_taken told left taken to_tell ending acts replies blamed =
    (core : Core D) × (store ≡ Open core) × (items : List Item) × (acts ≡ map Ask items)
    × HasAnsweredOver (port_of g) start items replies core × (blamed ≡ [])
    × ((text before : List ℕ) → old_left ≡ Some text → old_taken ≡ Some before
    → CameByLines (λ todo rest. FollowsOver g todo told start items replies core rest to_tell) text before left taken
    ending replies)
CameOver (serve clients rounds) g start store old_left old_taken told left taken to_tell ending acts replies blamed = ⊥
CameOver {D} (drill seed traces) g start store old_left old_taken told left taken to_tell ending acts replies blamed =
    (core : Core D) × (store ≡ Open core) × (items : List Item) × (acts ≡ map Ask items)
    × HasAnsweredOver (port_of g) start items replies core × (left ≡ old_left)
    × CameThrough seed traces ending told items replies blamed to_tell old_taken taken
CameOver {D} (Alone line) g start store old_left old_taken told left taken to_tell ending acts replies blamed =
    (core : Core D) × (store ≡ Open core) × (item : Item) × (reply : Reply) × (acts ≡ Ask item ∷ []) × (replies ≡ reply ∷ [])
    × HasAnsweredOver (port_of g) start (item ∷ []) (reply ∷ []) core × NeedsNoSource ending
    × AsksNext told line blamed item × (to_tell ≡ after_moment told)
    × ((before : List ℕ) → old_taken ≡ Some before → EndsAlone ending before reply taken)

-- What a command came to between the stores that it found and left. `sure` says that what the blocks hold is told.
abbrev pub CameTo : Bool → Command → At → Place → (old_left old_taken told left taken to_tell : Option (List ℕ)) → Ending → List Act → List Reply
    → List (List ℕ) → Type 0
CameTo sure session first last old_left old_taken told left taken to_tell ending acts replies blamed =
    (text before : List ℕ) → old_left ≡ Some text → old_taken ≡ Some before
    → Came told text before left taken to_tell ending acts replies blamed
CameTo sure ingest first last old_left old_taken told left taken to_tell ending acts replies blamed =
    (items : List Item) × (acts ≡ map Ask items) × (blamed ≡ [])
    × ((text before : List ℕ) → old_left ≡ Some text → old_taken ≡ Some before
    → CameByLines (λ todo rest. Follows sure todo told first items replies last.store rest to_tell) text before left taken
    ending replies)
CameTo sure (serve clients rounds) first last old_left old_taken told left taken to_tell ending acts replies blamed = ⊥
CameTo sure (drill seed traces) first last old_left old_taken told left taken to_tell ending acts replies blamed =
    (items : List Item) × (acts ≡ map Ask items) × (left ≡ old_left)
    × CameThrough seed traces ending told items replies blamed to_tell old_taken taken
CameTo sure (Alone line) first last old_left old_taken told left taken to_tell ending acts replies blamed =
    (item : Item) × (reply : Reply) × (acts ≡ Ask item ∷ []) × (replies ≡ reply ∷ []) × NeedsNoSource ending
    × AsksNext told line blamed item × (to_tell ≡ after_moment told)
    × ((before : List ℕ) → old_taken ≡ Some before → EndsAlone ending before reply taken)

-- How a run ends whose store wasn't opened, and what it wrote: which bytes are no store's, or a first part of that where the sink
-- failed; or nothing.
abbrev pub IsRefusedStore : OpenError → Ending → Option (List ℕ) → Option (List ℕ) → Type 0
IsRefusedStore open_errors.Fault ending old new = (ending ≡ NotOpened) × (new ≡ old)
IsRefusedStore open_errors.Memory ending old new = (ending ≡ Starved) × (new ≡ old)
IsRefusedStore (open_errors.NotStore file at) ending old new =
    ((ending ≡ NotStore file at) × Appends old new (not_store_text file at))
    ⊎ (((ending ≡ Starved) × (new ≡ old)) ⊎ ((ending ≡ WriteFault) × AppendsPrefix old new (not_store_text file at)))

-- What words ask was done. It is a run, where the words ask this. `told` says that what the blocks of the store hold is told.
pub record HasDone (told : Bool) (c : Command) (o : Outcome) (old new : Edges) : Type 0 where
  pub does : Does told c o old new
  pub asks : OnlyAsks c o.acts
  pub session : AreDone told (opened_at o.first) o.acts o.replies o.last
  pub cause : HasCause o.ending old new
  pub asked : o.ending ≢ BadWords
