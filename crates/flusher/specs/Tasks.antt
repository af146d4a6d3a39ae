-- A flush as a task: how far it is, what it stands on, and what one step does.
use Rattle.std.specs.Prelude.{◌≡◌, ℕ, ◌+◌, ◌-◌, ◌^◌, ◌≤◌, List, [], ◌∷◌, length, take, drop, IsTrue}
use Rattle.block_info.specs.InfoParts.{InfoParts}
use Rattle.store_model.specs.Holds.{Hold}
use Rattle.store_state.specs.Given.{flush_of}
use Rattle.store_state.specs.Made.{Call}
use Rattle.store_state.specs.Meaning.{Meaning, Called, IsOpen}
use Rattle.store_state.specs.declared.jobs.FlushJob.{FlushJob}
use Rattle.store_state.specs.declared.rounds.Refusal.{Refusal}
use Rattle.store_state.specs.declared.rounds.Round.{Round}
use Rattle.store_state.specs.declared.rounds.Step.{Step}
use Rattle.store_state.specs.declared.rounds.Step.TheVariants.{More, Ended as EndedStep}
use Rattle.flusher.specs.Rounds.{IsFlushBlock, Leads, Stage}
use Rattle.flusher.specs.Rounds.{Stage as stage}

-- What a task has in hand: its job, and the block that it writes.
pub data Task : Type 0 where
  Fresh : Task
  Begun : FlushJob → Task
  Writing : FlushJob → List ℕ → InfoParts → Task
  Failing : FlushJob → Refusal → Task
  Ended : Round → Task

-- the stage that it is at
abbrev pub stage_of : Task → Stage
stage_of Fresh = stage.Fresh
stage_of (Begun job) = stage.Begun job.out.number job.out.file job.rows
stage_of (Writing job bytes info) = stage.Writing job.out.number job.out.file (drop job.out.written bytes) info.rows
stage_of (Failing job why) = stage.Failing job.out.number why
stage_of (Ended round) = stage.Ended round

-- ---- what a task stands on

-- The port gave the job out, and its file is empty.
pub record HasBegun {P : Type 0} (meaning : Meaning P) (job : FlushJob) (port : P) : Type 0 where
  pub is_open : IsOpen meaning port (flush_of job)
  pub at_start : job.out.written ≡ 0
  pub some : 1 ≤ length job.rows
  pub few : length job.rows ≤ 1048576
  pub empty : IsTrue (meaning.tells port) → meaning.shows port job.out.file ≡ []

-- The job's file holds the first bytes of its block, as many as were written.
pub record IsWriting {P : Type 0} (meaning : Meaning P) (job : FlushJob) (bytes : List ℕ) (info : InfoParts) (port : P) : Type 0 where
  pub is_open : IsOpen meaning port (flush_of job)
  pub some : 1 ≤ length job.rows
  pub few : length job.rows ≤ 1048576
  pub block : IsFlushBlock job.out.file job.rows bytes info
  pub within : job.out.written ≤ length bytes
  pub so_far : IsTrue (meaning.tells port) → meaning.shows port job.out.file ≡ take job.out.written bytes

-- The port has what the task stands on. A task that hasn't begun asks of it that it says what is open in it.
abbrev pub Fits : {P : Type 0} → Meaning P → Task → P → Type 0
Fits meaning Fresh port = (held : List Hold) × meaning.holds port held
Fits meaning (Begun job) port = HasBegun meaning job port
Fits meaning (Writing job bytes info) port = IsWriting meaning job bytes info port
Fits meaning (Failing job why) port = IsOpen meaning port (flush_of job)
Fits meaning (Ended round) port = Unit {0}

-- ---- steps

-- One call of the port, with which the round goes on: whatever leads on from the stage after it leads on, after this call, from
-- the stage before it.
pub record OneEvent {P : Type 0} (meaning : Meaning P) (before : Task) (old : P) (after : Task) (new : P) : Type 0 where
  pub made : Call
  pub called : Called meaning old made.event made.reply new
  pub leads : (calls : List Call) (round : Round) → Leads (stage_of after) calls round → Leads (stage_of before) (made ∷ calls) round

-- A step makes one event. After the end of its round it makes none.
abbrev pub Steps : {P : Type 0} → Meaning P → Task → P → Task → P → Type 0
Steps meaning (Ended round) old after new = (after ≡ Ended round) × (new ≡ old)
Steps meaning before old after new = OneEvent meaning before old after new

-- a step answers how the round ended exactly where it has
abbrev pub Answers : Step → Task → Type 0
Answers (EndedStep round) task = task ≡ Ended round
Answers More Fresh = Unit {0}
Answers More (Begun job) = Unit {0}
Answers More (Writing job bytes info) = Unit {0}
Answers More (Failing job why) = Unit {0}
Answers More (Ended round) = ⊥

-- how many steps are left at most
abbrev pub steps_left : Task → ℕ
steps_left Fresh = 2 ^ 64 + 5
steps_left (Begun job) = 2 ^ 64 + 4
steps_left (Writing job bytes info) = length bytes - job.out.written + 2
steps_left (Failing job why) = 1
steps_left (Ended round) = 0
