-- The loop over lines: how far a session came. Of it the laws on cores cite `AreAnsweredOver` and `FollowsOver`; the rest is
-- private mechanism.
use Rattle.std.specs.Prelude.{◌≡◌, ◌⊎◌, ℕ, List, [], ◌∷◌, ◌++◌, Option, Ok, Err}
use Rattle.disk_model.specs.declared.disk.Device.{Ghosts}
use Rattle.io_edges.specs.Lines.{lines}
use Rattle.session_text.specs.declared.reply.Reply.{Reply}
use Rattle.session_text.specs.declared.reply.Reply.TheVariants.{Refused}
use Rattle.session_text.specs.Items.{Item}
use Rattle.store_core.specs.Cores.{held_in}
use Rattle.store_core.specs.Port.{port_of}
use Rattle.store_core.specs.declared.store.Core.{Core}
use Rattle.store_state.specs.Meaning.{Meaning}
use Rattle.store_state.specs.Made.{AreMade, Call}
use Rattle.client_run.specs.Answers.{HasReplied}
use Rattle.session_meaning.specs.Act.{Act}
use Rattle.session_meaning.specs.Asked.{AreAsked, after_lines}
use Rattle.session_meaning.specs.Answering.{AreItemsAnswered, IsItemAnswered}
use Rattle.session_meaning.specs.Duties.{Duty, IsDue, due}
use Rattle.session_meaning.specs.InOrder.{InOrder}

-- The lines of `text` before `rest` came to this, where these texts were refused. `told` is what the clock had to give at first,
-- and `to_tell` what it has to give now.
pub record Progress (told : Option (List ℕ)) (text rest : List ℕ) (refused : List (List ℕ)) (acts : List Act) (to_tell : Option (List ℕ)) : Type 0 where
  pub front : List ℕ
  pub answered : List (List ℕ)
  pub text_is : text ≡ front ++ rest
  pub lines_are : lines text ≡ answered ++ lines rest
  pub asked : AreAsked answered told acts refused
  pub clock : to_tell ≡ after_lines answered told

-- What is asked was answered so over a port.
abbrev pub IsAnsweredOver : {P : Type 0} → Meaning P → P → Item → Reply → P → Type 0
IsAnsweredOver meaning before (Ok asked) reply after = HasReplied meaning before asked reply after
IsAnsweredOver meaning before (Err why) reply after = (reply ≡ Refused why) × (after ≡ before)

-- Each was, in order, one reply each.
abbrev pub AreAnsweredOver : {P : Type 0} → Meaning P → P → List Item → List Reply → P → Type 0
AreAnsweredOver meaning = InOrder (λ item before reply after. IsAnsweredOver meaning before item reply after)

-- This was answered so over a port from `start` on, by these calls and no others.
pub record HasAnsweredOver {P : Type 0} (meaning : Meaning P) (start : P) (items : List Item) (replies : List Reply) (port : P) : Type 0 where
  pub calls : List Call
  pub by_calls : AreItemsAnswered items replies calls
  pub made : AreMade meaning start calls port
  pub each : AreAnsweredOver meaning start items replies port

-- The same of one item.
pub record HasAnsweredOne {P : Type 0} (meaning : Meaning P) (before : P) (item : Item) (reply : Reply) (after : P) : Type 0 where
  pub calls : List Call
  pub answered : IsItemAnswered item reply calls
  pub made : AreMade meaning before calls after
  pub is : IsAnsweredOver meaning before item reply after

-- ---- an ingest

-- What was due was asked over a core and answered in order, and that is left to do. What the core's memory holds says what is due, and
-- at the end it may have been looked at or not.
abbrev pub FollowsOver : {D : Type 0} → Ghosts D → List Duty → Option (List ℕ) → Core D → List Item → List Reply → Core D → List Duty
    → Option (List ℕ) → Type 0
FollowsOver g todo told before [] replies after left to_tell =
    (replies ≡ []) × (after ≡ before) × ((left ≡ todo) ⊎ (left ≡ due (held_in before) todo)) × (to_tell ≡ told)
FollowsOver g todo told before (item ∷ items) [] after left to_tell = ⊥
FollowsOver {D} g todo told before (item ∷ items) (reply ∷ replies) after left to_tell =
    (between : Core D) × (later : List Duty) × (told_later : Option (List ℕ)) × IsDue (due (held_in before) todo) told item reply later told_later
    × IsAnsweredOver (port_of g) before item reply between × FollowsOver g later told_later between items replies after left to_tell
