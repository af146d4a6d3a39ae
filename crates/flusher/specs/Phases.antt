-- Private mechanism: what contracts see of a phase, and how far a round came. No public clause cites it.
use Rattle.std.specs.Prelude.{List, ◌++◌}
use Rattle.store_state.specs.Made.{AreMade, Call}
use Rattle.store_state.specs.Meaning.{Meaning}
use Rattle.store_state.specs.declared.rounds.Round.{Round}
use Rattle.flusher.specs.Rounds.{Leads}
use Rattle.flusher.specs.Rounds.{Stage as stage}
use Rattle.flusher.specs.Tasks.{Fits, Task, stage_of}
use Rattle.flusher.specs.Tasks.Task.{Fresh, Begun, Writing, Failing, Ended}
use Rattle.flusher.specs.declared.task.Phase.{Phase}
use Rattle.flusher.specs.declared.task.Phase.TheVariants as phase

abbrev pub task_of : Phase → Task
task_of phase.Fresh = Fresh
task_of (phase.Begun job) = Begun job
task_of (phase.Writing job block) = Writing job block.bytes block.info
task_of (phase.Failing job why) = Failing job why
task_of (phase.Ended round) = Ended round

-- A round came so far: these calls were made, and whatever leads on from where the task is leads, after them, from the begin.
pub record IsUnderWay {P : Type 0} (meaning : Meaning P) (start : P) (task : Task) (now : P) : Type 0 where
  pub fits : Fits meaning task now
  pub calls : List Call
  pub made : AreMade meaning start calls now
  pub leads : (more : List Call) (round : Round) → Leads (stage_of task) more round → Leads stage.Fresh (calls ++ more) round
