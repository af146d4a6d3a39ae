-- What a list of events is answered, and which calls of a port it makes.
use Rattle.std.specs.Prelude.{◌≡◌, ℕ, Bool, true, false, List, [], ◌∷◌, ◌++◌, take, Option, Some, None, Result, Ok, Err, IsTrue}
use Rattle.std.specs.List.{AllByRecursion}
use Rattle.compactor.specs.Rounds.{FoundBlocks, Leads as CompactLeads, Stage as CompactStage}
use Rattle.compactor.specs.Rounds.{Stage as compaction}
use Rattle.flusher.specs.Rounds.{Leads as FlushLeads, Stage as FlushStage}
use Rattle.flusher.specs.Rounds.{Stage as flush}
use Rattle.span_types.specs.declared.errors.Failed.{Failed}
use Rattle.span_types.specs.declared.errors.Memory.{Memory}
use Rattle.store_model.specs.Event.{LookParts}
use Rattle.store_model.specs.Event.{Event as event, Reply as reply, Refusal as refusal}
use Rattle.store_model.specs.Holds.{Hold, files_of}
use Rattle.store_model.specs.Holds.Hold.{OpenLook, OpenFlush, OpenCompact}
use Rattle.store_model.specs.State.{is_among}
use Rattle.store_state.specs.Meaning.{Meaning}
use Rattle.store_state.specs.Replies.{count_reply, push_reply, reclaim_reply}
use Rattle.store_state.specs.declared.errors.PushError.{PushError}
use Rattle.store_state.specs.declared.errors.ReclaimError.{ReclaimError}
use Rattle.store_state.specs.declared.rounds.Round.{Round}
use Rattle.store_state.specs.declared.rounds.Step.TheVariants as step
use Rattle.client_run.specs.declared.event.Event.{Event}
use Rattle.client_run.specs.declared.event.Event.TheVariants.{Push, Cut, CutAll, FlushStep, CompactStep, Look, Page, Done, Reclaim}
use Rattle.client_run.specs.declared.event.EventReply.{EventReply}
use Rattle.client_run.specs.declared.event.EventReply.TheVariants.{Idle, Pushed, Stepped, Looked, Paged, Ended, Reclaimed}
use Rattle.client_run.specs.declared.event.EventReply.TheVariants as told
use Rattle.client_run.specs.declared.event.Seen.{Seen}
use Rattle.store_state.specs.Made.{Call, AreMade, call}
use Rattle.client_run.specs.Calls.{Looks, after_calls, look_at}

-- ---- looks and pages

-- A look is taken, and what it sees is told; or there is no memory for it.
abbrev pub IsLookAnswered : Result Seen Memory → List Call → Type 0
IsLookAnswered (Ok seen) calls =
    (look : LookParts) × (look.as_of ≡ seen.as_of) × (look.rows ≡ seen.rows)
    × (calls ≡ call event.Look (reply.Looked look) ∷ [])
IsLookAnswered (Err e) calls = calls ≡ call event.Look (reply.Refused refusal.Memory) ∷ []

abbrev pub pin_of : Hold → ℕ
pin_of (OpenLook look) = look.pin
pin_of (OpenFlush job) = job.number
pin_of (OpenCompact job) = job.pin

-- A look that is open is ended. Where it isn't open nothing is done.
abbrev pub IsEndAnswered : Option Hold → EventReply → List Call → Type 0
IsEndAnswered None r calls = (r ≡ Idle) × (calls ≡ [])
IsEndAnswered (Some look) r calls = (r ≡ Ended) × (calls ≡ call (event.Done (pin_of look)) reply.Fine ∷ [])

abbrev pub page_reply : Result (List ℕ) Failed → reply
page_reply (Ok bytes) = reply.Page bytes
page_reply (Err e) = reply.Refused refusal.Fault

-- A page is read of a block that a pin names, if it does.
abbrev pub IsPageOf : Bool → ℕ → ℕ → ℕ → EventReply → List Call → Type 0
IsPageOf false pin block page r calls = (r ≡ Idle) × (calls ≡ [])
IsPageOf true pin block page r calls =
    (answer : Result (List ℕ) Failed) × (r ≡ Paged answer) × (calls ≡ call (event.ReadPage pin block page) (page_reply answer) ∷ [])

-- A page is read of a block that the pin of an open look names. Where the look isn't open, or names no such block, nothing is done.
abbrev pub IsPageAnswered : Option Hold → ℕ → ℕ → EventReply → List Call → Type 0
IsPageAnswered None block page r calls = (r ≡ Idle) × (calls ≡ [])
IsPageAnswered (Some look) block page r calls = IsPageOf (is_among block (files_of look)) (pin_of look) block page r calls

-- ---- flushes and compactions

-- how far the flush and the compaction are for which steps are made
pub record Stages : Type 0 where
  pub flush : FlushStage
  pub compaction : CompactStage

-- how a round has ended that is at this stage, where it has
abbrev pub flush_end : FlushStage → Option Round
flush_end (flush.Ended round) = Some round
flush_end other = None

abbrev pub compaction_end : CompactStage → Option Round
compaction_end (compaction.Ended round) = Some round
compaction_end other = None

-- The stage for the next step: the first one again once the round has ended.
abbrev pub from_there : {S : Type 0} → S → S → Option Round → S
from_there first reached (Some round) = first
from_there first reached None = reached

-- What is told of a step after which the round has ended so, or goes on.
abbrev pub step_reply : Option Round → EventReply
step_reply (Some round) = Stepped (step.Ended round)
step_reply None = Stepped step.More

-- A step makes one call with which the round goes on: whatever calls lead on from the stage after it lead on, after this one,
-- from the stage before it.
abbrev pub IsStepAnswered : {S : Type 0} → (S → List Call → Round → Type 0) → (S → Option Round) → S → S → EventReply → List Call → S → Type 0
IsStepAnswered {S} leads ended first before r calls after =
    (made : Call) × (reached : S) × (calls ≡ made ∷ [])
    × ((more : List Call) (round : Round) → leads reached more round → leads before (made ∷ more) round)
    × (r ≡ step_reply (ended reached)) × (after ≡ from_there first reached (ended reached))

-- ---- events

-- An event but a step is answered so, by these calls, where these looks were taken before.
abbrev pub IsAnswered : Looks → Event → EventReply → List Call → Type 0
IsAnswered looks (Push batch moment) r calls =
    (answer : Result ℕ PushError) × (r ≡ Pushed answer)
    × (calls ≡ call (event.Push batch.spans moment) (push_reply answer) ∷ [])
IsAnswered looks (Cut moment) r calls =
    (answer : Result ℕ Memory) × (r ≡ told.Cut answer) × (calls ≡ call (event.Cut moment) (count_reply answer) ∷ [])
IsAnswered looks CutAll r calls =
    (answer : Result ℕ Memory) × (r ≡ told.CutAll answer) × (calls ≡ call event.CutAll (count_reply answer) ∷ [])
IsAnswered looks FlushStep r calls = ⊥
IsAnswered looks CompactStep r calls = ⊥
IsAnswered looks Look r calls = (answer : Result Seen Memory) × (r ≡ Looked answer) × IsLookAnswered answer calls
IsAnswered looks (Page number block page) r calls = IsPageAnswered (look_at number looks) block page r calls
IsAnswered looks (Done number) r calls = IsEndAnswered (look_at number looks) r calls
IsAnswered looks Reclaim r calls =
    (answer : Result ℕ ReclaimError) × (r ≡ Reclaimed answer) × (calls ≡ call event.Reclaim (reclaim_reply answer) ∷ [])

-- An event is answered so, by these calls, where these looks were taken before and the flush and the compaction were so far; and then
-- they are so far.
abbrev pub IsEventAnswered : Looks → Stages → Event → EventReply → List Call → Stages → Type 0
IsEventAnswered looks before FlushStep r calls after =
    IsStepAnswered FlushLeads flush_end flush.Fresh before.flush r calls after.flush × (after.compaction ≡ before.compaction)
IsEventAnswered looks before CompactStep r calls after =
    IsStepAnswered CompactLeads compaction_end compaction.Fresh before.compaction r calls after.compaction × (after.flush ≡ before.flush)
IsEventAnswered looks before e r calls after = IsAnswered looks e r calls × (after ≡ before)

-- Each event is answered in order, with one reply each, by these calls, and the flush and the compaction come so far.
abbrev pub AreEventsAnswered : Looks → Stages → List Event → List EventReply → List Call → Stages → Type 0
AreEventsAnswered looks before [] replies calls after = (replies ≡ []) × (calls ≡ []) × (after ≡ before)
AreEventsAnswered looks before (e ∷ events) [] calls after = ⊥
AreEventsAnswered looks before (e ∷ events) (r ∷ replies) calls after =
    (now later : List Call) × (between : Stages) × (calls ≡ now ++ later) × IsEventAnswered looks before e r now between
    × AreEventsAnswered (after_calls now looks) between events replies later after

-- before the first step of either kind
abbrev pub no_step : Stages
no_step = record { flush = flush.Fresh; compaction = compaction.Fresh }

-- a step didn't end a round because a block is none
abbrev pub FoundBlock : EventReply → Type 0
FoundBlock (Stepped (step.Ended round)) = FoundBlocks round
FoundBlock _ = Unit {0}

-- A list of events was run on a port: the port's calls are just those that the events make, in their order. At the end
-- the flush and the compaction for which steps were made are so far. Where bytes are told no step ended a round because a block is none.
pub record HasRun {P : Type 0} (meaning : Meaning P) (old : P) (events : List Event) (replies : List EventReply) (new : P) : Type 0 where
  pub calls : List Call
  pub made : AreMade meaning old calls new
  pub stages : Stages
  pub answered : AreEventsAnswered [] no_step events replies calls stages
  pub found : IsTrue (meaning.tells old) → AllByRecursion FoundBlock replies

-- Of a list of events the first few were run, and no others.
abbrev pub HasRunFirst : {P : Type 0} → Meaning P → P → List Event → P → Type 0
HasRunFirst meaning old events new =
    (count : ℕ) × (replies : List EventReply) × HasRun meaning old (take count events) replies new
