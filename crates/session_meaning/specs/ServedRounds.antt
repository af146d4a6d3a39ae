-- Flushes and compactions of several clients: what the store is at one of a round's calls, and how that decides the reply.
use Rattle.std.specs.Prelude.{◌≡◌, ⊤, ℕ, ◌<◌, ◌≤◌, Bool, List, [], Option, None, Some, Ok, length}
use Rattle.std.specs.Option.{option_map}
use Rattle.client_run.specs.Answers.{compact_reply, flush_reply}
use Rattle.compactor.specs.Rounds.{IsCompactRound}
use Rattle.flusher.specs.Rounds.{IsFlushRound}
use Rattle.port_history.specs.Entries.{Entry}
use Rattle.session_text.specs.declared.reply.Reply.{Reply}
use Rattle.session_text.specs.declared.request.Request.{Request}
use Rattle.session_text.specs.declared.request.Request.TheVariants as request
use Rattle.session_text.specs.Items.{Item}
use Rattle.span_types.specs.Faults.{Rose}
use Rattle.store_model.specs.Choice.{choice}
use Rattle.store_model.specs.Event.{Event as event, Reply as reply, Refusal as refusal}
use Rattle.store_model.specs.Event.Event.{BeginCompact, BeginFlush, ReadPage}
use Rattle.store_model.specs.Event.Reply.{Refused as IsRefused}
use Rattle.store_model.specs.State.{Compaction, Flush, State}
use Rattle.store_model.specs.Step.{Machine, broken}
use Rattle.store_state.specs.Made.{Call}
use Rattle.store_state.specs.declared.rounds.Refusal.{Refusal as Cause}
use Rattle.store_state.specs.declared.rounds.Refusal.TheVariants as cause
use Rattle.store_state.specs.declared.rounds.Round.{Round}
use Rattle.store_state.specs.declared.rounds.Round.TheVariants.{Nothing, Refused}
use Rattle.session_meaning.specs.At.{At}
use Rattle.session_meaning.specs.Causes.{HasCompactCause, HasFlushCause}
use Rattle.session_meaning.specs.ServedReplies.{CallPlace, HasItsPart}

-- ---- a kind of round

-- Whether it flushes rows or joins blocks.
pub data Kind : Type 0 where
  Flushes : Kind
  Joins : Kind

-- what asks for it
abbrev pub asked_for : Kind → Request
asked_for Flushes = request.Flush
asked_for Joins = request.Compact

-- its first call
abbrev pub begin_of : Kind → event
begin_of Flushes = BeginFlush
begin_of Joins = BeginCompact

-- what is told of one that ended so
abbrev pub told_as : Kind → Round → Reply
told_as Flushes round = flush_reply round
told_as Joins round = compact_reply round

-- These calls are a whole one, and it ended so.
abbrev pub IsRoundOf : Kind → List Call → Round → Type 0
IsRoundOf Flushes calls round = IsFlushRound calls round
IsRoundOf Joins calls round = IsCompactRound calls round

-- what there is to do, as a number: rows that wait in the head, or blocks that fit together
abbrev pub work_for : Kind → State → ℕ
work_for Flushes u = length u.head
work_for Joins u = length (choice u.blocks)

-- the number of the job of this kind that is open
abbrev pub job_open : Kind → State → Option ℕ
job_open Flushes u = option_map (λ (job : Flush). job.number) u.flush
job_open Joins u = option_map (λ (job : Compaction). job.number) u.compaction

-- ---- why it is refused

-- The call at which it is refused for this is answered so. For memory, and for a block that is none, any of its calls will do.
abbrev pub IsTurnedDown : Cause → reply → Type 0
IsTurnedDown (cause.ReadOnly faults) r = r ≡ IsRefused (refusal.ReadOnly faults)
IsTurnedDown (cause.Busy number) r = r ≡ IsRefused (refusal.Busy number)
IsTurnedDown (cause.FilesSpent next) r = r ≡ IsRefused (refusal.FilesSpent next)
IsTurnedDown cause.Fault r = r ≡ IsRefused refusal.Fault
IsTurnedDown _ r = ⊤

-- The disk failed in this call of a round. A page read leaves the store as it was. Any other call that fails so writes, and leaves all
-- else of the store as it was, but it writes no more, and tells the disk's count of faults after this call.
abbrev pub FailsAt : event → At → At → Type 0
FailsAt (ReadPage pin file page) before after = Rose before.faults after.faults × (after.machine ≡ before.machine)
FailsAt _ before after = Rose before.faults after.faults × (after.machine ≡ broken after.faults before.machine)

-- It is refused for this only where that holds just before and just after one of its calls, which is this one: in a store that writes a
-- job of its kind is open, whose number is told; the disk failed in it; or the cause is one that a session has too. `told` says that what
-- the blocks hold is told.
abbrev pub HasCauseThere : Kind → Bool → Cause → event → At → At → Type 0
HasCauseThere kind told (cause.Busy number) e before after =
    (before.machine.read_only ≡ None) × (job_open kind before.machine.state ≡ Some number)
HasCauseThere kind told cause.Fault e before after = FailsAt e before after
HasCauseThere Flushes told why e before after = HasFlushCause why before after
HasCauseThere Joins told why e before after = HasCompactCause told why before after

-- ---- what decides

-- A store that writes and has no job of this kind open.
pub record IsFreeFor (kind : Kind) (m : Machine) : Type 0 where
  pub writes : m.read_only ≡ None
  pub closed : job_open kind m.state ≡ None

-- A round that begins in this machine ends so for sure: one of four tests, in their order, holds of it.
pub data IsDecided (kind : Kind) (m : Machine) : Round → Type 0 where
  -- the store writes no more
  stopped : (faults : ℕ) → m.read_only ≡ Some faults → IsDecided kind m (Refused (cause.ReadOnly faults))
  -- a job of its kind is open
  busy : (number : ℕ) → m.read_only ≡ None → job_open kind m.state ≡ Some number → IsDecided kind m (Refused (cause.Busy number))
  -- there is nothing to do
  idle : IsFreeFor kind m → work_for kind m.state ≡ 0 → IsDecided kind m Nothing
  -- too few file numbers are left
  spent : IsFreeFor kind m → 1 ≤ work_for kind m.state → 4294967294 ≤ m.state.next_file
      → IsDecided kind m (Refused (cause.FilesSpent m.state.next_file))

-- ---- room

-- No job of this kind is open, and two file numbers are left.
abbrev pub HasRoomForRound : Kind → State → Type 0
HasRoomForRound kind u = (job_open kind u ≡ None) × (u.next_file < 4294967294)

-- What is asked has its part of what keeps a run from being refused: as `HasItsPart` says, but that a flush or a compaction isn't refused
-- isn't supposed. It has room at its begin.
abbrev pub HasItsRoom : Bool → At → List Entry → At → (client : ℕ) → (asked : List Item) → (got : List Reply) → Item → Reply → Type 0
HasItsRoom told first entries last client asked got (Ok request.Flush) reply =
    (place : CallPlace told first entries last client asked got []) → HasRoomForRound Flushes place.before.machine.state
HasItsRoom told first entries last client asked got (Ok request.Compact) reply =
    (place : CallPlace told first entries last client asked got []) → HasRoomForRound Joins place.before.machine.state
HasItsRoom told first entries last client asked got item reply = HasItsPart told first entries last client asked got item reply
