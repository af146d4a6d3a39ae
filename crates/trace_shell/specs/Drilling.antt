-- Private mechanism of a drill: what it counts and tells. A run is specified in session_meaning.
use Rattle.std.specs.Prelude.{◌≡◌, ◌⊎◌, ◌+◌, ◌<◌, ◌++◌, ℕ, List, [], ◌∷◌, Option, length, string_bytes}
use Rattle.std.specs.Io.KnownBytes.{Appends}
use Rattle.disk_model.specs.declared.disk.Device.{Ghosts}
use Rattle.io_edges.specs.Devices.{AppendsPrefix}
use Rattle.session_text.specs.declared.reply.Reply.{Reply}
use Rattle.session_text.specs.Items.{Item}
use Rattle.store_core.specs.Port.{port_of}
use Rattle.store_core.specs.declared.store.Core.{Core}
use Rattle.session_meaning.specs.declared.ending.Ending.{Ending}
use Rattle.session_meaning.specs.declared.ending.Ending.TheVariants.{Answered, Refused, Starved, WriteFault}
use Rattle.session_meaning.specs.Drill.{accepted_of, as_one, capped, drilled_text, pushes_of}
use Rattle.session_meaning.specs.Progress.{HasAnsweredOver}
use Rattle.session_meaning.specs.Session.{is_for_memory, is_refusal, reply_texts}
use Rattle.trace_shell.specs.declared.drilling.Counts.{Counts}
use Rattle.trace_shell.specs.declared.drilling.Found.{Found}
use Rattle.trace_shell.specs.declared.drilling.Texts.{Texts}

-- ---- what is counted

-- Counts went on by this reply. Each stands still at 2^64 - 1.
pub record CountsOne (old new : Counts) (reply : Reply) : Type 0 where
  pub pushes : new.pushes ≡ capped (old.pushes + pushes_of reply)
  pub accepted : new.accepted ≡ capped (old.accepted + accepted_of reply)
  pub refused : new.refused ≡ capped (old.refused + as_one (is_refusal reply))
  pub starved : new.starved ≡ capped (old.starved + as_one (is_for_memory reply))

-- They went on by these, in order.
abbrev pub CountsOn : Counts → Counts → List Reply → Type 0
CountsOn old new [] = new ≡ old
CountsOn old new (reply ∷ replies) = (between : Counts) × CountsOne old between reply × CountsOn between new replies

-- This was asked of a core, answered and counted.
pub record HasMade {D : Type 0} (g : Ghosts D) (before after : Core D) (old new : Counts) (items : List Item) (replies : List Reply) : Type 0
  where
    pub answered : HasAnsweredOver (port_of g) before items replies after
    pub counted : CountsOn old new replies
    pub as_many : length replies ≡ length items

-- ---- what is told

-- The replies to the three searches, in order.
abbrev pub found_replies : Found → List Reply
found_replies found = found.errors ∷ found.large ∷ found.crossing ∷ []

-- the four texts of a drill, one after another
abbrev pub all_texts : Texts → List ℕ
all_texts t = string_bytes t.report ++ (t.errors ++ (t.large ++ (t.crossing ++ [])))

-- how a drill ends with these counts that writes all
abbrev pub EndsCounted : Ending → Counts → Type 0
EndsCounted Answered counts = (counts.refused ≡ 0) × (counts.starved ≡ 0)
EndsCounted Refused counts = 0 < counts.refused
EndsCounted Starved counts = (counts.refused ≡ 0) × (0 < counts.starved)
EndsCounted _ counts = ⊥

abbrev pub told_text : Counts → List Reply → List ℕ
told_text counts found = drilled_text counts.pushes counts.accepted counts.refused counts.starved ++ reply_texts found

-- The counts and what was found were written; or a first part, where the sink failed; or nothing, where memory ran out.
abbrev pub HasTold : Ending → Counts → List Reply → Option (List ℕ) → Option (List ℕ) → Type 0
HasTold Answered counts found old new = EndsCounted Answered counts × Appends old new (told_text counts found)
HasTold Refused counts found old new = EndsCounted Refused counts × Appends old new (told_text counts found)
HasTold Starved counts found old new = (EndsCounted Starved counts × Appends old new (told_text counts found)) ⊎ (new ≡ old)
HasTold WriteFault counts found old new = AppendsPrefix old new (told_text counts found)
HasTold _ counts found old new = ⊥
