-- Mechanism of an ingest: its duties, and what is due of them. What an ingest asks stands in `Ingest.antt`, and a law says that whoever
-- follows these duties asks that. Laws on ingests and the functions that ingest cite this file; what a run does (`Runs.antt`) doesn't.
use Rattle.std.specs.Prelude.{◌≡◌, ◌⊎◌, ⊤, ℕ, ◌-◌, ◌==◌, Bool, nat_le, if◌then◌else◌, List, [], ◌∷◌, Option, Ok}
use Rattle.session_text.specs.declared.reply.Reply.{Reply}
use Rattle.session_text.specs.declared.request.Request.{Request}
use Rattle.session_text.specs.declared.request.Request.TheVariants.{Compact, CutAll, Flush, Reclaim}
use Rattle.session_text.specs.Items.{Item}
use Rattle.session_text.specs.Requests.{AsksPush}
use Rattle.store_model.specs.State.{held_of}
use Rattle.session_meaning.specs.declared.ending.Ending.{Ending}
use Rattle.session_meaning.specs.declared.ending.Ending.TheVariants.{Answered, ReadFault, Refused, Spent}
use Rattle.session_meaning.specs.Asked.{IsNextMoment, after_moment}
use Rattle.session_meaning.specs.At.{At}
use Rattle.session_meaning.specs.Ingest.{is_joined, many_rows}
use Rattle.session_meaning.specs.Session.{IsAnsweredOrRefused}

-- ---- what is to do

pub data Duty : Type 0 where
  -- to push what this line of the source holds
  push : List ℕ → Duty
  -- where the store holds many rows, to cut and to flush them
  keep_small : Duty
  -- to ask this
  ask : Request → Duty
  -- to compact as long as blocks are joined, so many times at most
  compact_all : ℕ → Duty

-- No store joins blocks so often, since each compaction that does takes a number for its new file: the laws
-- `compactions_come_to_an_end` and `an_ingest_finishes` say that this bound is never met.
abbrev pub most_rounds : ℕ
most_rounds = 4294967295

-- What is to do at the end.
abbrev pub at_the_end : List Duty
at_the_end = ask CutAll ∷ ask Flush ∷ compact_all most_rounds ∷ ask Reclaim ∷ []

-- What is to do from a line on: each line is pushed, but for those without bytes, and the store is kept small after each
-- push, refused or not, also where the line was refused in reading; and then what is to do at the end.
abbrev pub from_lines : List (List ℕ) → List Duty
from_lines [] = at_the_end
from_lines ([] ∷ lines) = from_lines lines
from_lines ((b ∷ bs) ∷ lines) = push (b ∷ bs) ∷ keep_small ∷ from_lines lines

-- The duties of an ingest of these lines: the store is kept small before the first one too.
abbrev pub duties : List (List ℕ) → List Duty
duties lines = keep_small ∷ from_lines lines

-- ---- what is asked

-- What is to do, as the store holds so many rows.
abbrev pub due : ℕ → List Duty → List Duty
due held (keep_small ∷ later) = if nat_le many_rows held then ask CutAll ∷ ask Flush ∷ later else due held later
due held (compact_all times ∷ later) = if times == 0 then due held later else compact_all times ∷ later
due held todo = todo

abbrev pub due_at : At → List Duty → List Duty
due_at at todo = due (held_of at.machine.state) todo

-- By what is due this is asked next; after this reply the rest is to do, and the clock has the rest of its moments to
-- tell. A line is read at the clock's next moment.
abbrev pub IsDue : List Duty → Option (List ℕ) → Item → Reply → List Duty → Option (List ℕ) → Type 0
IsDue (push line ∷ later) moments item reply todo moments_left =
    ((moment : ℕ) × IsNextMoment moments moment × AsksPush moment line item)
    × (todo ≡ later) × (moments_left ≡ after_moment moments)
IsDue (ask request ∷ later) moments item reply todo moments_left = (item ≡ Ok request) × (todo ≡ later) × (moments_left ≡ moments)
IsDue (compact_all times ∷ later) moments item reply todo moments_left =
    (item ≡ Ok Compact) × (moments_left ≡ moments)
    × (todo ≡ (if is_joined reply then compact_all (times - 1) ∷ later else later))
IsDue _ moments item reply todo moments_left = ⊥

-- What is due is asked, and answered in order, from a store to a store; and that is left to do then, with or without a
-- look at what is due of it. `told` says that what the blocks hold is told, and `moments` and `moments_left` are what the
-- clock has to tell before and after.
abbrev pub Follows : Bool → List Duty → Option (List ℕ) → At → List Item → List Reply → At → List Duty
    → Option (List ℕ) → Type 0
Follows told todo moments before [] replies after left moments_left =
    (replies ≡ []) × (after ≡ before) × ((left ≡ todo) ⊎ (left ≡ due_at before todo)) × (moments_left ≡ moments)
Follows told todo moments before (item ∷ items) [] after left moments_left = ⊥
Follows told todo moments before (item ∷ items) (reply ∷ replies) after left moments_left =
    (between : At) × (later : List Duty) × (moments_later : Option (List ℕ))
    × IsDue (due_at before todo) moments item reply later moments_later × IsAnsweredOrRefused told item before reply between
    × Follows told later moments_later between items replies after left moments_left

-- How much of its duties an ingest left: none, where the input was read to its end and all replies were written; where the
-- source failed, or a run takes no more bytes, those from the first line on that wasn't pushed: nothing is done for the end
-- then. Where the sink failed or memory ran out it may have stopped at any of them.
abbrev pub IsLeft : Ending → List (List ℕ) → List Duty → Type 0
IsLeft Answered later left = left ≡ []
IsLeft Refused later left = left ≡ []
IsLeft ReadFault later left = left ≡ from_lines later
IsLeft Spent later left = left ≡ from_lines later
IsLeft _ later left = ⊤
