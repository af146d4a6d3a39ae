-- What is asked in a session is answered by calls of the store: how the program does it. A law says that this is what a session
-- means.
use Rattle.std.specs.Prelude.{◌≡◌, List, [], ◌∷◌, ◌++◌, Ok, Err}
use Rattle.disk_model.specs.declared.disk.Device.{Ghosts}
use Rattle.session_text.specs.declared.reply.Reply.{Reply}
use Rattle.session_text.specs.declared.reply.Reply.TheVariants.{Refused}
use Rattle.session_text.specs.Items.{Item}
use Rattle.client_run.specs.Answers.{IsRequestAnswered}
use Rattle.store_core.specs.declared.store.Core.{Core}
use Rattle.store_model.specs.Step.{Machine}
use Rattle.store_state.specs.Made.{Call}
use Rattle.client_run.specs.CoreRuns.{AreSteps}
use Rattle.session_meaning.specs.At.{At}

-- What is asked is answered so by these calls. A line that asks nothing makes none.
abbrev pub IsItemAnswered : Item → Reply → List Call → Type 0
IsItemAnswered (Ok asked) reply calls = IsRequestAnswered asked reply calls
IsItemAnswered (Err why) reply calls = (reply ≡ Refused why) × (calls ≡ [])

-- Each is answered in order, one reply each, by these calls.
abbrev pub AreItemsAnswered : List Item → List Reply → List Call → Type 0
AreItemsAnswered [] replies calls = (replies ≡ []) × (calls ≡ [])
AreItemsAnswered (item ∷ items) [] calls = ⊥
AreItemsAnswered (item ∷ items) (reply ∷ replies) calls =
    (now later : List Call) × (calls ≡ now ++ later) × IsItemAnswered item reply now × AreItemsAnswered items replies later

-- The calls are steps of the store, and leave that.
abbrev pub CallsLead : At → List Call → At → Type 0
CallsLead before calls after = AreSteps before.faults before.machine calls after.faults after.machine

-- What is asked is answered by calls that leave that.
abbrev pub IsAnsweredByCalls : Item → At → Reply → At → Type 0
IsAnsweredByCalls item before reply after =
    (calls : List Call) × IsItemAnswered item reply calls × CallsLead before calls after

-- Where a session stands over a core that is so with this machine.
abbrev pub at_core : {D : Type 0} → Ghosts D → Core D → Machine → At
at_core g core m = record { machine = m; faults = g.faults core.disk }
