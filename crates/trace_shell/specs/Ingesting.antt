-- Private mechanism of an ingest: what its turns do. A run is specified in session_meaning.
use Rattle.std.specs.Prelude.{◌≡◌, ◌⊎◌, ⊤, ℕ, ◌<◌, ◌≤◌, Bool, List, [], ◌∷◌, ◌++◌, Option, Some, None, Result, Ok, Err, length}
use Rattle.io_edges.specs.Lines.{lines, taken_limit}
use Rattle.io_edges.specs.Reader.{Reader, IsToRead, TakesBytes}
use Rattle.session_text.specs.declared.reply.Reply.{Reply}
use Rattle.session_text.specs.Items.{Item}
use Rattle.disk_model.specs.declared.disk.Device.{Ghosts}
use Rattle.store_core.specs.Port.{port_of}
use Rattle.store_core.specs.declared.store.Core.{Core}
use Rattle.session_meaning.specs.declared.ending.Ending.{Ending}
use Rattle.session_meaning.specs.declared.ending.Ending.TheVariants.{ReadFault, Spent, Starved, WriteFault}
use Rattle.session_meaning.specs.Duties.{Duty, from_lines}
use Rattle.session_meaning.specs.Progress.{HasAnsweredOver, FollowsOver}
use Rattle.session_meaning.specs.Session.{IsAllEnded}
use Rattle.trace_shell.specs.Turn.{HasGiven, ending_of}
use Rattle.trace_shell.specs.declared.ingesting.After.{After}
use Rattle.trace_shell.specs.declared.ingesting.After.TheVariants as after
use Rattle.trace_shell.specs.declared.session.Tally.{Tally}

-- ---- what was asked

-- Replies were written in order, all whole, or all but the last: with that the run ends.
abbrev pub HaveGiven : Option (List ℕ) → Option (List ℕ) → Tally → Tally → List Reply → Option Ending → Type 0
HaveGiven old new tally_old tally_new [] stopped = (new ≡ old) × (tally_new ≡ tally_old) × (stopped ≡ None)
HaveGiven old new tally_old tally_new (reply ∷ replies) stopped =
    (HasGiven old new tally_old tally_new reply stopped × (replies ≡ []))
    ⊎ ((between : Option (List ℕ)) × (tally : Tally) × HasGiven old between tally_old tally reply None
    × HaveGiven between new tally tally_new replies stopped)

-- This was asked of a core and answered so, and the replies were written, as far as that went.
pub record HasAsked {D : Type 0} (g : Ghosts D) (before after : Core D) (old new : Option (List ℕ))
    (tally_old tally_new : Tally) (items : List Item) (replies : List Reply) (stopped : Option Ending) : Type 0 where
  pub answered : HasAnsweredOver (port_of g) before items replies after
  pub given : HaveGiven old new tally_old tally_new replies stopped

-- It was due by `todo`, and `later` is left to do, unless the run ends with a reply.
pub record Leaves {D : Type 0} (g : Ghosts D) (before after : Core D) (todo later : List Duty)
    (told to_tell : Option (List ℕ)) (items : List Item) (replies : List Reply) (stopped : Option Ending) : Type 0 where
  pub left : List Duty
  pub each : FollowsOver g todo told before items replies after left to_tell
  pub all : stopped ≡ None → left ≡ later

-- Of these lines some were pushed, in order: all of them, unless the run ends with a reply.
pub record HasPushed {D : Type 0} (g : Ghosts D) (before after : Core D) (told to_tell : Option (List ℕ)) (items : List Item) (replies : List Reply)
    (stopped : Option Ending) (lines : List (List ℕ)) : Type 0 where
  pub asked : List (List ℕ)
  pub more : List (List ℕ)
  pub are : lines ≡ asked ++ more
  pub all : stopped ≡ None → more ≡ []
  pub each : (later : List (List ℕ)) → Leaves g before after (from_lines (asked ++ later)) (from_lines later) told to_tell items replies stopped

-- how a run ends that did all, or that ended before
abbrev pub ended_by : Option Ending → Tally → Ending
ended_by None tally = ending_of tally
ended_by (Some ending) tally = ending

-- how a run ends after a compaction, if it does
abbrev pub stopped_in : Result Bool Ending → Option Ending
stopped_in (Ok joined) = None
stopped_in (Err ending) = Some ending

-- ---- what was read

-- How a run ends after a turn, if it does.
abbrev pub ending_in : After → Option Ending
ending_in (after.Ending ending) = Some ending
ending_in _ = None

-- What comes after a line: the next one, unless the run ends.
abbrev pub turn_of : Option Ending → After
turn_of None = after.Line
turn_of (Some ending) = after.Ending ending

-- A run ends so before all lines are pushed, or it doesn't end: whether that is for a reply that couldn't be written
-- whole.
abbrev pub IsStopped : Option Ending → Option Ending → Type 0
IsStopped None stopped = stopped ≡ None
IsStopped (Some WriteFault) stopped = stopped ≡ Some WriteFault
IsStopped (Some Starved) stopped = (stopped ≡ Some Starved) ⊎ (stopped ≡ None)
IsStopped (Some ReadFault) stopped = stopped ≡ None
IsStopped (Some Spent) stopped = stopped ≡ None
IsStopped (Some _) stopped = ⊥

-- The lines `pushed` of `text` were read, and the rest is to be read.
pub record IsReadingAt (text : List ℕ) (pushed : List (List ℕ)) (left : Option (List ℕ)) (reader : Reader) : Type 0
  where
    pub front : List ℕ
    pub rest : List ℕ
    pub text_is : text ≡ front ++ rest
    pub lines_are : lines text ≡ pushed ++ lines rest
    pub to_read : IsToRead reader left rest
    pub took : TakesBytes (Some text) left 0 reader.taken

-- Of the text these lines are left: none, where it was read to its end.
abbrev pub IsReadTo : Option Ending → List ℕ → List (List ℕ) → Option (List ℕ) → Type 0
IsReadTo None text later left = (later ≡ []) × (length text < taken_limit)
IsReadTo (Some ReadFault) text later left = IsAllEnded text later left
IsReadTo (Some Spent) text later left = IsAllEnded text later left × (taken_limit ≤ length text)
IsReadTo _ text later left = ⊤

abbrev pub HasReadTo : Option Ending → List ℕ → List (List ℕ) → Option (List ℕ) → Type 0
HasReadTo ended text pushed left =
    (later : List (List ℕ)) × (lines text ≡ pushed ++ later) × IsReadTo ended text later left

-- What was read of the text after a turn.
abbrev pub ReadOn : After → List ℕ → List (List ℕ) → Option (List ℕ) → Reader → Type 0
ReadOn after.Line text pushed left reader = IsReadingAt text pushed left reader
ReadOn after.End text pushed left reader = HasReadTo None text pushed left
ReadOn (after.Ending ending) text pushed left reader = HasReadTo (Some ending) text pushed left
