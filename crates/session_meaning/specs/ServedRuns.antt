-- What a run does that serves several clients, and what is stored then.
use Rattle.std.specs.Prelude.{◌≡◌, ◌⊎◌, ℕ, ◌*◌, ◌≤◌, ◌<◌, Bool, true, false, List, [], ◌∷◌, ◌++◌, Option, None, IfSome, length, map}
use Rattle.std.specs.Io.KnownBytes.{Appends}
use Rattle.std.specs.List.{concat, list_any}
use Rattle.client_run.specs.CoreRuns.{unsure_after_calls}
use Rattle.client_scripts.specs.declared.script.Answered.{Answered}
use Rattle.command_words.specs.Commands.{Serve, Spells}
use Rattle.disk_model.specs.declared.disk.Device.{Ghosts}
use Rattle.io_edges.specs.Devices.{AppendsPrefix}
use Rattle.io_edges.specs.Lines.{lines, taken_limit}
use Rattle.port_history.specs.Entries.{Entry, call_of}
use Rattle.session_text.specs.declared.reply.Reply.{Reply}
use Rattle.session_text.specs.Items.{Item}
use Rattle.session_meaning.specs.declared.ending.Ending.{Ending}
use Rattle.session_meaning.specs.declared.ending.Ending.TheVariants.{Answered as answered, ReadFault, Refused, Spent, Starved, WriteFault}
use Rattle.session_meaning.specs.Asked.{after_lines, after_moment}
use Rattle.session_meaning.specs.At.{At}
use Rattle.session_meaning.specs.Place.{Place}
use Rattle.session_meaning.specs.Runs.{Edges, HasCause, HasOpened, NeedsNoSource, Outcome}
use Rattle.session_meaning.specs.Serving.{AreDealt, AreScripts, Dealt, Ran, after_moments, served_text, served_texts}
use Rattle.session_meaning.specs.Session.{IsAllEnded, end_of}
use Rattle.session_meaning.specs.Stops.{AreTidy, Begins, Leaves, ListsLast, Returns}

-- ---- what was asked

-- All lines of `text` were read, and all that they and the upkeep ask was asked. `told` is what the clock had to give before the first
-- line, and `to_tell` what it has to give at the end.
pub record AsksAll (clients rounds : ℕ) (text : List ℕ) (ended : Ending) (scripts : List (List Item)) (refused : List (List ℕ))
    (told to_tell : Option (List ℕ)) : Type 0 where
  pub ends : NeedsNoSource ended
  pub short : length text < taken_limit
  pub asked : AreScripts clients rounds (lines text) told scripts refused to_tell

-- How a run ends that asks nothing of the store, where these lines of `text` weren't read, and the source has that left: the source
-- failed, or as many bytes were taken as a run takes, and every line was read that was ended in what was taken; or memory ran out.
-- `clock` is what the clock had to give after the lines that were read. It is asked on only where these are all lines, and then once for
-- each of the requests that keep the store up: memory ran out after that.
abbrev pub EndsUnasked : Ending → ℕ → List ℕ → List (List ℕ) → Option (List ℕ) → (clock to_tell : Option (List ℕ)) → Type 0
EndsUnasked ReadFault rounds text later left clock to_tell = IsAllEnded text later left × (to_tell ≡ clock)
EndsUnasked Spent rounds text later left clock to_tell = IsAllEnded text later left × (taken_limit ≤ length text) × (to_tell ≡ clock)
EndsUnasked Starved rounds text later left clock to_tell =
    (to_tell ≡ clock) ⊎ ((later ≡ []) × (length text < taken_limit) × (to_tell ≡ after_moments (4 * rounds) clock))
EndsUnasked _ rounds text later left clock to_tell = ⊥

-- Lines of `text` were read and dealt, some or all, and nothing was asked.
pub record AsksNone (clients rounds : ℕ) (text : List ℕ) (left : Option (List ℕ)) (ended : Ending) (scripts : List (List Item))
    (refused : List (List ℕ)) (told to_tell : Option (List ℕ)) : Type 0 where
  pub read : List (List ℕ)
  pub later : List (List ℕ)
  pub lines_are : lines text ≡ read ++ later
  pub dealt : List Dealt
  pub are_dealt : AreDealt clients read told dealt refused
  pub no_scripts : scripts ≡ []
  pub ends : EndsUnasked ended rounds text later left (after_lines read told) to_tell

-- What was asked, of a source that had this text to give and has that left, if it tells.
abbrev pub Asks : (clients rounds : ℕ) → (text left : Option (List ℕ)) → Ending → List (List Item) → List (List ℕ)
    → (told to_tell : Option (List ℕ)) → Type 0
Asks clients rounds text left ended scripts refused told to_tell = IfSome text (λ all.
    AsksAll clients rounds all ended scripts refused told to_tell ⊎ AsksNone clients rounds all left ended scripts refused told to_tell)

-- ---- what is written

-- all replies, client by client
abbrev pub all_replies : List Answered → List Reply
all_replies [] = []
all_replies (one ∷ more) = one.replies.items ++ all_replies more

-- whether memory ran out before the end of some script
abbrev pub any_starved : List Answered → Bool
any_starved answers = list_any (λ (one : Answered). one.starved) answers

-- All scripts were answered to their ends, all replies were written, and by these the run ends so.
pub record IsServed (ended : Ending) (answers : List Answered) (old new : Option (List ℕ)) : Type 0 where
  pub whole : any_starved answers ≡ false
  pub written : Appends old new (served_text 0 answers)
  pub ends : end_of (all_replies answers) ≡ ended

-- Memory ran out, and not all replies were written.
pub data StopsForMemory (answers : List Answered) (old new : Option (List ℕ)) : Type 0 where
  -- before anything was asked
  unasked : answers ≡ [] → new ≡ old → StopsForMemory answers old new
  -- before the end of some script
  starved : any_starved answers ≡ true → new ≡ old → StopsForMemory answers old new
  -- for the text of a reply: those before it were written, and neither it nor a later one
  cut_off : any_starved answers ≡ false → (first : List (List ℕ)) (text : List ℕ) (later : List (List ℕ)) → served_texts 0 answers ≡ first ++ text ∷ later
      → Appends old new (concat first) → StopsForMemory answers old new

-- What stands written at each ending: all replies; the first of them and not all, or none, where memory ran out; a first part of their
-- text, where the sink failed; nothing, where the source's end came before any request was answered.
abbrev pub EndsServing : Ending → List Answered → Option (List ℕ) → Option (List ℕ) → Type 0
EndsServing answered answers old new = IsServed answered answers old new
EndsServing Refused answers old new = IsServed Refused answers old new
EndsServing Starved answers old new = IsServed Starved answers old new ⊎ StopsForMemory answers old new
EndsServing WriteFault answers old new = (any_starved answers ≡ false) × AppendsPrefix old new (served_text 0 answers)
EndsServing ReadFault answers old new = new ≡ old
EndsServing Spent answers old new = new ≡ old
EndsServing _ answers old new = ⊥

-- ---- a run

-- What happened in a run that served clients, in a store that was opened: how it ended, the moment of the opening, what was asked of the
-- store, script by script, how that was answered and by which calls, from the store as it was opened to the last one, and which texts the
-- maker of patterns refused, in order.
pub record Served : Type 0 where
  pub ending : Ending
  pub moment : ℕ
  pub first : At
  pub scripts : List (List Item)
  pub answers : List Answered
  pub entries : List Entry
  pub refused : List (List ℕ)
  pub last : At

-- where the store stands at the end: the entry of the first push that answered a fault, in the order of all calls, isn't sure
abbrev pub last_place : Served → Place
last_place s = record { store = s.last; is_open = true; is_listed = true; unsure = unsure_after_calls (map call_of s.entries) None; pending = [] }

-- What is said alike of all runs whose store was opened: when that was, and from where to where the store went.
abbrev pub outline : Served → Outcome
outline s = record {
  ending = s.ending;
  opened = true;
  moment = s.moment;
  first = s.first;
  acts = [];
  refused = s.refused;
  replies = [];
  last = last_place s;
}

-- Nothing was asked of the store, and no call of it was made.
pub record IsUnasked (s : Served) : Type 0 where
  pub no_scripts : s.scripts ≡ []
  pub no_answers : s.answers ≡ []
  pub no_entries : s.entries ≡ []

-- A run that served so many clients with so many rounds of upkeep, between the edges as they were and as they are. Nothing was asked where
-- it ends by the source, whether that tells its bytes or not. `told` says that what the blocks of the store hold is told.
pub record IsServedRun (told : Bool) (clients rounds : ℕ) (s : Served) (old new : Edges) : Type 0 where
  pub opened : HasOpened (outline s) old new
  pub asked : Asks clients rounds old.left new.left s.ending s.scripts s.refused (after_moment old.moments) new.moments
  pub unasked : NeedsNoSource s.ending ⊎ IsUnasked s
  pub ran : Ran told s.first s.scripts s.answers s.entries s.last
  pub ends : EndsServing s.ending s.answers old.taken new.taken
  pub cause : HasCause s.ending old new

-- The words ask for that.
abbrev pub ServesAs : Bool → List (List ℕ) → Served → Edges → Edges → Type 0
ServesAs told words s old new = (clients rounds : ℕ) × Spells words (Serve clients rounds) × IsServedRun told clients rounds s old new

-- ---- what is stored

-- A run that served clients, over a disk that shows its bytes, which were a store's, leaves what any run leaves in a store that it opened.
-- It begins with what the bytes store. Each image that a crash may leave of the disk that is handed back stands for the last history, or
-- for it and then the entry that isn't sure; and if the store writes, it lists the last state. One that a crash may have left at any moment
-- keeps what was stored at the start, or stands for a history in between. Files stay in use.
pub record RecoversServed {D : Type 0} (g : Ghosts D) (disk later : D) (s : Served) : Type 0 where
  pub begins : Begins (g.held disk) s.moment s.first
  pub returned : Returns (g.may_leave later) (outline s)
  pub kept_up : s.last.machine.read_only ≡ None → ListsLast (g.may_leave later) (outline s)
  pub any_moment : Leaves (g.may_leave disk) (g.left_since later (g.moment disk)) (outline s)
  pub tidy : AreTidy (g.may_leave disk) → AreTidy (g.left_since later (g.moment disk))
