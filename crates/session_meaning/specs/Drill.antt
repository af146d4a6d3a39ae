-- What a drill asks and what stands written after it. It is a session whose lines are made from a seed: so many pushes, with cuts and
-- flushes in between, then compactions, the emptying of loose files, and three searches. How they are answered, the session says.
use Rattle.std.specs.Prelude.{◌≡◌, ◌⊎◌, ℕ, zero, suc, ◌+◌, ◌-◌, ◌%◌, ◌<◌, ◌==◌, ◌||◌, min, Bool, true, false, if◌then◌else◌, List, [], ◌∷◌, ◌++◌, drop, length, map, Option, Ok, codes, decimal}
use Rattle.std.specs.Io.KnownBytes.{Appends}
use Rattle.drill_input.specs.Drill.{drill_line}
use Rattle.io_edges.specs.Devices.{AppendsPrefix}
use Rattle.session_text.specs.declared.reply.Reply.{Reply}
use Rattle.session_text.specs.declared.reply.Reply.TheVariants.{Pushed}
use Rattle.session_text.specs.declared.request.Request.TheVariants.{Compact, CutAll, Flush, Reclaim}
use Rattle.session_text.specs.Items.{Item}
use Rattle.session_text.specs.Replies.{texts}
use Rattle.session_text.specs.Requests.{AsksPush}
use Rattle.session_meaning.specs.declared.ending.Ending.{Ending}
use Rattle.session_meaning.specs.declared.ending.Ending.TheVariants.{Answered, Refused, Starved, WriteFault}
use Rattle.session_meaning.specs.Act.Act.{Ask}
use Rattle.session_meaning.specs.Asked.{AreAsked, IsNextMoment, after_lines, after_moment}
use Rattle.session_meaning.specs.Ingest.{AreJoined, is_joined}
use Rattle.session_meaning.specs.Session.{end_of, is_for_memory, is_refusal, reply_texts}

-- ---- what is asked

-- Rows are cut and flushed after each 64th line and after the last of so many.
abbrev pub is_flushed_after : ℕ → ℕ → Bool
is_flushed_after index traces = (((index + 1) % 64) == 0) || ((index + 1) == traces)

abbrev pub upkeep_after : ℕ → ℕ → List Item
upkeep_after index traces = if is_flushed_after index traces then Ok CutAll ∷ Ok Flush ∷ [] else []

-- Of the lines of a drill with so many traces those from an index on, so many, are pushed in order, each read at the clock's next moment,
-- and what is due after each is asked, which takes no moment.
abbrev pub LinesMade : (seed traces index count : ℕ) → Option (List ℕ) → List Item → Option (List ℕ) → Type 0
LinesMade seed traces index zero told items to_tell = (items ≡ []) × (to_tell ≡ told)
LinesMade seed traces index (suc count) told items to_tell =
    (moment : ℕ) × (item : Item) × (later : List Item) × IsNextMoment told moment × AsksPush moment (drill_line seed index) item
    × (items ≡ item ∷ (upkeep_after index traces ++ later))
    × LinesMade seed traces (index + 1) count (after_moment told) later to_tell

-- The three searches, as lines of a session.
abbrev pub drill_searches : List (List ℕ)
drill_searches =
    codes "search { status = error }" ∷ codes "search { } | count() > 4"
    ∷ codes "search { kind = server } >> { kind = client }" ∷ []

-- What a drill asked that did all: the pushes of all its lines with their upkeep; compactions, until one joined no blocks; the emptying of
-- loose files; and the searches, each read at the clock's next moment. The maker of patterns refused just what these blame. There are
-- 4,294,967,295 compactions at most: the law `a_drill_compacts_to_its_end` says that no store joins blocks so often.
pub record Drills (seed traces : ℕ) (told : Option (List ℕ)) (items : List Item) (replies : List Reply) (refused : List (List ℕ))
    (to_tell : Option (List ℕ)) : Type 0 where
  pub pushes : List Item
  pub pushed : List Reply
  pub compactions : List Item
  pub joined : List Reply
  pub last : Reply
  pub emptied : Reply
  pub searches : List Item
  pub found : List Reply
  pub between : Option (List ℕ)
  pub items_are : items ≡ pushes ++ (compactions ++ Ok Compact ∷ Ok Reclaim ∷ searches)
  pub replies_are : replies ≡ pushed ++ (joined ++ last ∷ emptied ∷ found)
  pub are_made : LinesMade seed traces 0 traces told pushes between
  pub are_pushed : length pushed ≡ length pushes
  pub are_joined : AreJoined compactions joined
  pub as_many : length joined ≡ length compactions
  pub to_the_end : (is_joined last ≡ false) ⊎ (length compactions ≡ 4294967294)
  pub are_asked : AreAsked drill_searches between (map Ask searches) refused
  pub three : length found ≡ 3
  pub clock : to_tell ≡ after_lines drill_searches between

-- What it asked where memory ran out for a line: fewer lines were pushed, and what is due after each of them was asked.
pub record StopsDrilling (seed traces : ℕ) (told : Option (List ℕ)) (items : List Item) (refused : List (List ℕ)) (to_tell : Option (List ℕ))
    : Type 0 where
  pub count : ℕ
  pub fewer : count < traces
  pub are_made : LinesMade seed traces 0 count told items to_tell
  pub none : refused ≡ []

-- ---- what stands written

-- a count stands still at 2^64 - 1
abbrev pub capped : ℕ → ℕ
capped n = min n 18446744073709551615

abbrev pub as_one : Bool → ℕ
as_one true = 1
as_one false = 0

-- what one reply is counted as: an accepted push, and its spans
abbrev pub pushes_of : Reply → ℕ
pushes_of (Pushed number accepted rejected skipped) = 1
pushes_of _ = 0

abbrev pub accepted_of : Reply → ℕ
accepted_of (Pushed number accepted rejected skipped) = accepted
accepted_of _ = 0

-- how many pushes were accepted, how many spans these have, how many replies are refusals for another cause than memory, and how many for
-- memory
abbrev pub pushes_told : List Reply → ℕ
pushes_told [] = 0
pushes_told (reply ∷ replies) = pushes_of reply + pushes_told replies

abbrev pub accepted_told : List Reply → ℕ
accepted_told [] = 0
accepted_told (reply ∷ replies) = accepted_of reply + accepted_told replies

abbrev pub refusals_told : List Reply → ℕ
refusals_told [] = 0
refusals_told (reply ∷ replies) = as_one (is_refusal reply) + refusals_told replies

abbrev pub starved_told : List Reply → ℕ
starved_told [] = 0
starved_told (reply ∷ replies) = as_one (is_for_memory reply) + starved_told replies

-- The line with these counts.
abbrev pub drilled_text : (pushes accepted refused memory : ℕ) → List ℕ
drilled_text pushes accepted refused memory = texts (
    codes "ok drill pushes=" ∷ decimal pushes ∷ codes " accepted=" ∷ decimal accepted ∷ codes " refused=" ∷ decimal refused
    ∷ codes " memory=" ∷ decimal memory ∷ codes "\n" ∷ [])

abbrev pub report_of : List Reply → List ℕ
report_of replies = drilled_text (capped (pushes_told replies)) (capped (accepted_told replies)) (capped (refusals_told replies))
    (capped (starved_told replies))

abbrev pub last_three : List Reply → List Reply
last_three replies = drop (length replies - 3) replies

-- What a drill with these replies writes: the line that counts them, and the texts of the last three.
abbrev pub drill_text : List Reply → List ℕ
drill_text replies = report_of replies ++ reply_texts (last_three replies)

-- ---- how a drill ends

-- What stands written where all was asked: all of the text; a first part of it, where the sink failed; or nothing, where memory ran out for
-- it.
abbrev pub EndsDrilling : Ending → List Reply → Option (List ℕ) → Option (List ℕ) → Type 0
EndsDrilling Answered replies old new = Appends old new (drill_text replies) × (end_of replies ≡ Answered)
EndsDrilling Refused replies old new = Appends old new (drill_text replies) × (end_of replies ≡ Refused)
EndsDrilling Starved replies old new = (Appends old new (drill_text replies) × (end_of replies ≡ Starved)) ⊎ (new ≡ old)
EndsDrilling WriteFault replies old new = AppendsPrefix old new (drill_text replies)
EndsDrilling _ replies old new = ⊥

-- A drill asked all and ended so; or memory ran out for a line, and nothing was written.
abbrev pub CameThrough : (seed traces : ℕ) → Ending → Option (List ℕ) → List Item → List Reply → List (List ℕ) → Option (List ℕ)
    → Option (List ℕ) → Option (List ℕ) → Type 0
CameThrough seed traces ending told items replies refused to_tell old_taken taken =
    (Drills seed traces told items replies refused to_tell × EndsDrilling ending replies old_taken taken)
    ⊎ (StopsDrilling seed traces told items refused to_tell × (ending ≡ Starved) × (taken ≡ old_taken))
