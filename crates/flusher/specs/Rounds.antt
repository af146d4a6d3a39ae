-- What a flush does from its begin to its end.
use Rattle.std.specs.Prelude.{◌≡◌, ℕ, ◌≤◌, List, [], ◌∷◌, length, take, drop}
use Rattle.span_types.specs.First.{IsFirstOf}
use Rattle.span_types.specs.declared.spans.Row.{Row}
use Rattle.block_info.specs.InfoParts.{InfoParts}
use Rattle.block_format.specs.Blocks.{BlockHasInfo}
use Rattle.store_model.specs.Event.Event.{BeginFlush, WritePiece, CommitFlush, DropFlush}
use Rattle.store_model.specs.Event.{Reply as reply}
use Rattle.store_model.specs.Event.Reply.{Fine, Flushing}
use Rattle.store_state.specs.Made.{Call, call}
use Rattle.store_state.specs.Replies.{begin_refusal, write_refusal}
use Rattle.store_state.specs.Rounds.{begin_cause, write_cause}
use Rattle.store_state.specs.declared.errors.BeginError.{BeginError}
use Rattle.store_state.specs.declared.errors.WriteError.{WriteError}
use Rattle.store_state.specs.declared.rounds.Refusal.{Refusal}
use Rattle.store_state.specs.declared.rounds.Refusal.TheVariants.{Memory}
use Rattle.store_state.specs.declared.rounds.Round.{Round}
use Rattle.store_state.specs.declared.rounds.Round.TheVariants.{Did, Nothing, Refused}

-- The bytes are a block of the rows' first occurrences, and the information describes it, in this file and at level 0.
pub record IsFlushBlock (file : ℕ) (rows : List Row) (bytes : List ℕ) (info : InfoParts) : Type 0 where
  pub firsts : List Row
  pub are_first : IsFirstOf rows firsts
  pub describes : BlockHasInfo info bytes firsts
  pub counted : info.rows ≡ length firsts
  pub its_file : info.file ≡ file
  pub its_level : info.level ≡ 0

-- How far a flush is.
pub data Stage : Type 0 where
  Fresh : Stage
  -- a job's number, its file and its rows
  Begun : ℕ → ℕ → List Row → Stage
  -- a job's number, its file, the bytes that are still to be written, and how many rows the block has
  Writing : ℕ → ℕ → List ℕ → ℕ → Stage
  -- a job's number, and why it is given up
  Failing : ℕ → Refusal → Stage
  Ended : Round → Stage

-- From the stage on these calls are made, and the round ends so.
pub data Leads : Stage → List Call → Round → Type 0 where
  -- there is nothing to flush, or no job is begun
  nothing : Leads Fresh (call BeginFlush reply.Nothing ∷ []) Nothing
  no_job : (why : BeginError) → Leads Fresh (call BeginFlush (reply.Refused (begin_refusal why)) ∷ []) (Refused (begin_cause why))
  job : {calls : List Call} {round : Round} (number file : ℕ) (rows : List Row) → Leads (Begun number file rows) calls round
      → Leads Fresh (call BeginFlush (Flushing (record { number = number; file = file; rows = rows })) ∷ calls) round
  -- the block is built of the job's rows, or there is no memory for it
  starved : (number file : ℕ) (rows : List Row) → Leads (Begun number file rows) (call (DropFlush number) Fine ∷ []) (Refused Memory)
  built : {calls : List Call} {round : Round} (number file : ℕ) (rows : List Row) (bytes : List ℕ) (info : InfoParts)
      → IsFlushBlock file rows bytes info → Leads (Writing number file bytes info.rows) calls round → Leads (Begun number file rows) calls round
  -- the next piece is written, as long as bytes are left
  written : {calls : List Call} {round : Round} (number file : ℕ) (bytes : List ℕ) (size : ℕ) → 1 ≤ length bytes
      → Leads (Writing number file (drop 65536 bytes) size) calls round
      → Leads (Writing number file bytes size) (call (WritePiece number file (take 65536 bytes)) Fine ∷ calls) round
  unwritten : {calls : List Call} {round : Round} (number file : ℕ) (bytes : List ℕ) (size : ℕ) (why : WriteError) → 1 ≤ length bytes
      → Leads (Failing number (write_cause why)) calls round
      → Leads (Writing number file bytes size) (call (WritePiece number file (take 65536 bytes)) (reply.Refused (write_refusal why)) ∷ calls) round
  -- then the block is listed
  listed : (number file size : ℕ) → Leads (Writing number file [] size) (call (CommitFlush number size) Fine ∷ []) (Did 1 size)
  unlisted : (number file size : ℕ) (why : WriteError)
      → Leads (Writing number file [] size) (call (CommitFlush number size) (reply.Refused (write_refusal why)) ∷ []) (Refused (write_cause why))
  -- a job is given up
  dropped : (number : ℕ) (why : Refusal) → Leads (Failing number why) (call (DropFlush number) Fine ∷ []) (Refused why)
  over : (round : Round) → Leads (Ended round) [] round

-- A whole flush makes these calls, and ends so.
abbrev pub IsFlushRound : List Call → Round → Type 0
IsFlushRound calls round = Leads Fresh calls round
