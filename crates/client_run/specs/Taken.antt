-- Private mechanism of a run of events: the looks that it holds, the flush and the compaction for which it makes steps, and what one
-- event makes of them. No public clause cites it.
use Rattle.std.specs.Prelude.{◌≡◌, ◌⊎◌, ⊤, ℕ, false, List, [], ◌∷◌, map, Option, Some, None, option_map, IsTrue}
use Rattle.std.specs.List.{AllByRecursion}
use Rattle.compactor.specs.Rounds.{FoundBlocks}
use Rattle.compactor.specs.Tasks.{Task as CompactTask}
use Rattle.compactor.specs.Tasks as compaction
use Rattle.compactor.specs.Tasks.{Task as compacting}
use Rattle.flusher.specs.Rounds.{Stage as FlushStage}
use Rattle.flusher.specs.Rounds.{Stage as flush_stage}
use Rattle.flusher.specs.Tasks.{Task as FlushTask}
use Rattle.flusher.specs.Tasks as flush
use Rattle.flusher.specs.Tasks.{Task as flushing}
use Rattle.store_model.specs.Holds.{Hold, files_of}
use Rattle.store_model.specs.State.{is_among}
use Rattle.store_state.specs.Meaning.{Meaning, IsOpen}
use Rattle.store_state.specs.Given.{look_of}
use Rattle.store_state.specs.declared.jobs.Look.{Look}
use Rattle.store_state.specs.declared.rounds.Round.TheVariants.{Refused}
use Rattle.client_run.specs.declared.event.Event.{Event}
use Rattle.client_run.specs.declared.event.EventReply.{EventReply}
use Rattle.client_run.specs.declared.tasks.Tasks.{Tasks}
use Rattle.store_state.specs.Made.{Call, AreMade}
use Rattle.client_run.specs.Calls.{Looks, after_calls}
use Rattle.client_run.specs.EventRuns.{AreEventsAnswered, FoundBlock, IsEventAnswered, Stages, no_step}

abbrev pub looks_of : List (Option Look) → Looks
looks_of looks = map (option_map look_of) looks

-- each look that is open is one of the port's
abbrev pub AreOpen : {P : Type 0} → Meaning P → P → Looks → Type 0
AreOpen meaning port [] = ⊤
AreOpen meaning port (None ∷ looks) = AreOpen meaning port looks
AreOpen meaning port (Some look ∷ looks) = IsOpen meaning port look × AreOpen meaning port looks

-- no look is open here whose pin names the block
abbrev pub NamesNo : Option Hold → ℕ → Type 0
NamesNo None block = ⊤
NamesNo (Some hold) block = is_among block (files_of hold) ≡ false

-- ---- tasks

abbrev pub stages_of : Tasks → Stages
stages_of tasks = record { flush = flush.stage_of tasks.flush; compaction = compaction.stage_of tasks.compaction }

-- neither has made an event
abbrev pub no_steps : Tasks
no_steps = record { flush = flushing.Fresh; compaction = compacting.Fresh }

-- the port has what both stand on
abbrev pub Fit : {P : Type 0} → Meaning P → Tasks → P → Type 0
Fit meaning tasks port = flush.Fits meaning tasks.flush port × compaction.Fits meaning tasks.compaction port

-- the round of the flush has not ended
abbrev pub IsFlushing : FlushTask → Type 0
IsFlushing flushing.Fresh = ⊤
IsFlushing (flushing.Begun job) = ⊤
IsFlushing (flushing.Writing job bytes info) = ⊤
IsFlushing (flushing.Failing job why) = ⊤
IsFlushing (flushing.Ended round) = ⊥

-- nor has that of the compaction
abbrev pub IsCompacting : CompactTask → Type 0
IsCompacting compacting.Fresh = ⊤
IsCompacting (compacting.Reading job parts pages bytes) = ⊤
IsCompacting (compacting.Writing job bytes info) = ⊤
IsCompacting (compacting.Failing job why) = ⊤
IsCompacting (compacting.Ended round) = ⊥

abbrev pub AreGoing : Tasks → Type 0
AreGoing tasks = IsFlushing tasks.flush × IsCompacting tasks.compaction

-- The flush isn't given up because a block is none, and hasn't ended because of that.
abbrev pub FlushFinds : FlushStage → Type 0
FlushFinds (flush_stage.Failing number why) = FoundBlocks (Refused why)
FlushFinds (flush_stage.Ended round) = FoundBlocks round
FlushFinds _ = Unit {0}

-- Neither finds a block to be none; the compaction where bytes are shown.
abbrev pub FindBlocks : {P : Type 0} → Meaning P → Tasks → P → Type 0
FindBlocks meaning tasks port =
    FlushFinds (flush.stage_of tasks.flush) × compaction.FindsBlocks meaning tasks.compaction port

-- ---- events

-- The port says what is open in it, has these looks open, and has what the flush and the compaction stand on, whose rounds have not
-- ended.
pub record IsReady {P : Type 0} (meaning : Meaning P) (port : P) (looks : Looks) (tasks : Tasks) : Type 0 where
  pub holds : (held : List Hold) × meaning.holds port held
  pub open_looks : AreOpen meaning port looks
  pub fit : Fit meaning tasks port
  pub going : AreGoing tasks

-- One event was answered so, and left these looks, this flush and this compaction. Where neither of the two finds a block to be none,
-- neither does after it, and nor does its reply where bytes are shown.
pub record HasAnswered {P : Type 0} (meaning : Meaning P) (old : P) (looks : Looks) (tasks : Tasks) (event : Event) (reply : EventReply) (new : P) (later : Looks) (after : Tasks) : Type 0 where
  pub calls : List Call
  pub made : AreMade meaning old calls new
  pub answered : IsEventAnswered looks (stages_of tasks) event reply calls (stages_of after)
  pub left : later ≡ after_calls calls looks
  pub fit : Fit meaning after new
  pub going : AreGoing after
  pub found : FindBlocks meaning tasks old
      → FindBlocks meaning after new × (IsTrue (meaning.tells new) → FoundBlock reply)

-- One event of which the reply wasn't told: it happened all the same, or it didn't.
abbrev pub MayHaveAnswered : {P : Type 0} → Meaning P → P → Looks → Tasks → Event → P → Type 0
MayHaveAnswered meaning old looks tasks event new =
    (new ≡ old) ⊎ ((reply : EventReply) × (later : Looks) × (after : Tasks) × HasAnswered meaning old looks tasks event reply new later after)

-- A run came so far: these events were answered, these looks were taken, and the flush and the compaction are so far.
pub record HasCome {P : Type 0} (meaning : Meaning P) (old : P) (events : List Event) (replies : List EventReply) (new : P) (looks : Looks) (tasks : Tasks) : Type 0 where
  pub calls : List Call
  pub made : AreMade meaning old calls new
  pub answered : AreEventsAnswered [] no_step events replies calls (stages_of tasks)
  pub left : looks ≡ after_calls calls []
  pub ready : IsReady meaning new looks tasks
  pub found : FindBlocks meaning tasks new × (IsTrue (meaning.tells old) → AllByRecursion FoundBlock replies)
