-- Private mechanism of serving: how replies are written, and what serving comes to over a core that was opened. A run is specified in
-- session_meaning.
use Rattle.std.specs.Prelude.{◌≡◌, ◌⊎◌, ℕ, List, [], ◌∷◌, ◌++◌, Option, Some, None}
use Rattle.std.specs.List.{concat}
use Rattle.std.specs.Io.KnownBytes.{Appends}
use Rattle.client_scripts.specs.Served.{HasServed}
use Rattle.client_scripts.specs.declared.script.Answered.{Answered}
use Rattle.disk_model.specs.declared.disk.Device.{Ghosts}
use Rattle.io_edges.specs.Devices.{AppendsPrefix}
use Rattle.port_history.specs.Entries.{Entry}
use Rattle.session_text.specs.declared.reply.Reply.{Reply}
use Rattle.session_text.specs.Items.{Item}
use Rattle.store_core.specs.Port.{port_of}
use Rattle.store_core.specs.declared.store.Core.{Core}
use Rattle.session_meaning.specs.declared.ending.Ending.{Ending}
use Rattle.session_meaning.specs.declared.ending.Ending.TheVariants.{Starved, WriteFault}
use Rattle.session_meaning.specs.Runs.{NeedsNoSource}
use Rattle.session_meaning.specs.ServedRuns.{Asks, EndsServing}
use Rattle.trace_shell.specs.Turn.{tally_with}
use Rattle.trace_shell.specs.declared.session.Tally.{Tally}

-- ---- what is written

-- which refusals are among replies, after more of them
abbrev pub tally_after : Tally → List Reply → Tally
tally_after tally [] = tally
tally_after tally (reply ∷ replies) = tally_after (tally_with tally reply) replies

-- Replies with these texts were written whole, one after another; or memory ran out for the text of one, and just those before it were;
-- or the sink failed, and a first part was written.
abbrev pub HaveBeenGiven : Option (List ℕ) → Option (List ℕ) → Tally → Tally → List Reply → List (List ℕ) → Option Ending → Type 0
HaveBeenGiven old new tally_old tally_new replies texts None = Appends old new (concat texts) × (tally_new ≡ tally_after tally_old replies)
HaveBeenGiven old new tally_old tally_new replies texts (Some Starved) =
    (first : List (List ℕ)) × (text : List ℕ) × (later : List (List ℕ)) × (texts ≡ first ++ text ∷ later) × Appends old new (concat first)
HaveBeenGiven old new tally_old tally_new replies texts (Some WriteFault) = AppendsPrefix old new (concat texts)
HaveBeenGiven old new tally_old tally_new replies texts (Some _) = ⊥

-- ---- what serving comes to

-- So many clients were served over a core with so many rounds of upkeep, and the run ended so.
pub record CameServing {D : Type 0} (g : Ghosts D) (clients rounds : ℕ) (start later : Core D) (old_left left old_taken taken told to_tell : Option (List ℕ))
    (ended : Ending) (blamed : List (List ℕ)) : Type 0 where
  pub scripts : List (List Item)
  pub answers : List Answered
  pub entries : List Entry
  pub served : HasServed (port_of g) start entries scripts answers later
  pub asked : Asks clients rounds old_left left ended scripts blamed told to_tell
  pub unasked : NeedsNoSource ended ⊎ ((scripts ≡ []) × (answers ≡ []) × (entries ≡ []))
  pub ends : EndsServing ended answers old_taken taken
