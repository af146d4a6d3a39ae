-- What a flush does, and why it is refused.
use Rattle.std.proofs.Common.{◌≡◌, inl, inr, ℕ, ◌<◌, List, Some, None, sym, ◌∙◌, ap, subst, take}
use Rattle.span_types.specs.Faults.{Rose}
use Rattle.span_types.specs.First.{IsFirstOf}
use Rattle.span_types.specs.declared.spans.Row.{Row}
use Rattle.store_model.specs.After.{after_begin_flush, after_commit_flush, taken}
use Rattle.store_model.specs.Choice.{most_rows}
use Rattle.store_model.specs.Event.{Reply as reply, FlushParts}
use Rattle.store_model.specs.Event.Event.{BeginFlush}
use Rattle.store_model.specs.Event.Reply.{Fine}
use Rattle.store_model.specs.History.{count_of}
use Rattle.store_model.specs.State.{Flush}
use Rattle.store_model.specs.Step.{IsCommittedFlush, Machine, with_state}
use Rattle.store_state.specs.Rounds.{begin_cause}
use Rattle.store_state.specs.declared.rounds.Refusal.{Refusal}
use Rattle.store_state.specs.declared.rounds.Refusal.TheVariants.{Busy, Fault, FilesSpent, Memory, NotBlock, ReadOnly}
use Rattle.store_state.specs.declared.rounds.Round.{Round}
use Rattle.store_state.specs.declared.rounds.Round.TheVariants.{Did, Refused}
use Rattle.session_meaning.specs.At.{At}
use Rattle.session_meaning.specs.Causes.{HasFlushCause, StoppedWriting}
use Rattle.session_meaning.specs.Rounds.{HasListed, IsDoneOrStarved, IsFlushed, Job}
use Rattle.session_meaning.specs.Rounds.{IsRound as round_of}
use Rattle.session_meaning.specs.Upkeep.{IsClosed}
use Rattle.session_meaning.proofs.RoundLaws.{Ending, HasBegun, HasFailed, IsRefusedFor, OfKind, has_begun, not_did, round_caused}
use Rattle.session_meaning.proofs.RoundLaws.Ending.{Breaks, GivesUp, Lists, Misreads}
use Rattle.session_meaning.proofs.RoundLaws.OfKind.{Rows}
use Rattle.session_meaning.proofs.RoundRoom.{FoundNone, KeepsRoom, round_without_faults}
use Rattle.session_meaning.proofs.RoundSteps.IsBegin.{OfFlush}

-- ---- why it is refused

failed : (before after : At) → HasFailed BeginFlush before after → StoppedWriting before after
failed before after (inl writes) = writes
failed before after (inr (joins, rose, dropped)) = let bad : ⊥ = cc in absurd bad

caused_by : (before after : At) (w : Refusal) → IsRefusedFor BeginFlush w before after → HasFlushCause w before after
caused_by before after Fault so = failed before after so
caused_by before after (NotBlock file at) so = let bad : ⊥ = (let joins = so.0 in cc) in absurd bad
caused_by before after (ReadOnly faults) so = so
caused_by before after (Busy number) so = so
caused_by before after (FilesSpent next) so = so
caused_by before after Memory so = so

-- A refused flush has its cause.
pub flush_caused : (before after : At) (w : Refusal) → IsFlushed before (Refused w) after → IsClosed before.machine → HasFlushCause w before after
flush_caused before after w is closed = caused_by before after w (round_caused BeginFlush OfFlush before after w is closed)

-- ---- a block is listed

same_did : (a b c d : ℕ) → Did a b ≡ Did c d → (a ≡ c) × (b ≡ d)
same_did a b c d e = (cc, cc)

some_job : (a b : Flush) → Some a ≡ Some b → a ≡ b
some_job a b e = cc

same_rows : (one other : FlushParts) → reply.Flushing one ≡ reply.Flushing other → one.rows ≡ other.rows
same_rows one other e = let same : one ≡ other = cc in ap (λ (job : FlushParts). job.rows) same

listed_at : (number size : ℕ) (m at m' : Machine) → at ≡ with_state (after_begin_flush m.state) m → IsCommittedFlush number size at Fine m'
    → (rows : List Row) × IsFirstOf (take most_rows m.state.head) rows
    × (m' ≡ with_state (after_commit_flush (count_of m.history) (taken m.state) size rows (after_begin_flush m.state)) m)
listed_at number size m at m' begun_is done =
    let d : IsCommittedFlush number size (with_state (after_begin_flush m.state) m) Fine m' = subst (λ (x : Machine). IsCommittedFlush number size x Fine m') begun_is done in
    let job : taken m.state ≡ d.0 = some_job (taken m.state) d.0 d.2 in (
      d.1,
      subst (λ (j : Flush). IsFirstOf j.rows d.1) (sym job) d.4,
      d.6 ∙ ap (λ (j : Flush). with_state (after_commit_flush (count_of m.history) j size d.1 (after_begin_flush m.state)) m) (sym job),
    )

ended_listed : (before : At) (job : Job) (blocks count : ℕ) (after : At) → (has : HasBegun BeginFlush before job (Did blocks count) after) → OfKind BeginFlush job
    → Ending job has.begun_at (Did blocks count) after → HasListed before.machine blocks count after.machine
ended_listed before job blocks count after has (Rows its) (Lists size (firsts, are, counted) done is) =
    let m = before.machine in
    let same = same_did blocks count 1 size is in
    let now = listed_at its.number size m has.begun_at.machine after.machine has.happened.1 done in record {
      some = has.is_free.some;
      firsts = firsts;
      are_first = subst (λ (rs : List Row). IsFirstOf rs firsts) (same_rows its _ has.happened.0) are;
      counted = same.1 ∙ counted;
      one = same.0;
      rows = now.0;
      of_head = now.1;
      leaves = now.2 ∙ ap (λ (n : ℕ). with_state (after_commit_flush (count_of m.history) (taken m.state) n now.0 (after_begin_flush m.state)) m) (sym same.1);
    }
ended_listed before job blocks count after has kind (Breaks n rose within broke is) = absurd (not_did Fault blocks count is)
ended_listed before job blocks count after has kind (Misreads joins rose gone is) = absurd (not_did Fault blocks count is)
ended_listed before job blocks count after has kind (GivesUp w for gone is) = absurd (not_did w blocks count is)

pub flush_listed : (before after : At) (blocks count : ℕ) → IsFlushed before (Did blocks count) after → HasListed before.machine blocks count after.machine
flush_listed before after blocks count (round_of.nothing step is) = let bad : ⊥ = cc in absurd bad
flush_listed before after blocks count (round_of.no_job b step is) = absurd (not_did (begin_cause b) blocks count is)
flush_listed before after blocks count (round_of.job job at step ends) =
    let has = has_begun BeginFlush OfFlush before at job (Did blocks count) after step ends in ended_listed before job blocks count after has has.kind has.ended

-- ---- without faults

-- it reads no block
found_none : (before : At) (round : Round) (after : At) → IsFlushed before round after → IsClosed before.machine → FoundNone round → ⊥
found_none before round after is closed (file, at, told) = flush_caused before after (NotBlock file at) (subst (λ (r : Round). IsFlushed before r after) told is) closed

-- A flush in which no call failed, of a store that writes and has file numbers left, is done or memory ran out.
pub flush_without_faults : (before : At) (round : Round) (after : At) → IsFlushed before round after → (Rose before.faults after.faults → ⊥) → before.machine.read_only ≡ None
    → IsClosed before.machine → before.machine.state.next_file < 4294967294 → IsDoneOrStarved round × KeepsRoom 2 before.machine after.machine
flush_without_faults before round after is well writes closed files =
    round_without_faults BeginFlush OfFlush before round after is well (λ found. found_none before round after is closed found) writes closed files
