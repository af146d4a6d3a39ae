-- What a round in which no call failed leaves.
use Rattle.std.proofs.Common.{◌≡◌, ℕ, ◌+◌, ◌<◌, ◌≤◌, List, Option, Some, None, arith, drop, length, length-append, option_map, refl, sym, ◌∙◌, ap, subst, take}
use Rattle.std.proofs.lemmas.List.{length-drop, length-take}
use Rattle.span_types.specs.Faults.{Rose}
use Rattle.span_types.specs.declared.spans.Row.{Row}
use Rattle.store_model.specs.After.{after_begin_compact, after_begin_flush, after_drop_flush, taken}
use Rattle.store_model.specs.Choice.{most_rows}
use Rattle.store_model.specs.Event.{Event as event}
use Rattle.store_model.specs.Event.Reply.{Fine}
use Rattle.store_model.specs.State.{Flush, State, flush_rows, held_of}
use Rattle.store_model.specs.Step.{Happens, IsCommittedCompact, IsCommittedFlush, IsDroppedCompact, IsDroppedFlush, Machine, with_state}
use Rattle.store_state.specs.Replies.{begin_refusal}
use Rattle.store_state.specs.Rounds.{begin_cause}
use Rattle.store_state.specs.declared.errors.BeginError.{BeginError}
use Rattle.store_state.specs.declared.errors.BeginError.TheVariants as begin
use Rattle.store_state.specs.declared.rounds.Refusal.{Refusal}
use Rattle.store_state.specs.declared.rounds.Refusal.TheVariants.{Busy, Fault, FilesSpent, Memory, NotBlock, ReadOnly}
use Rattle.store_state.specs.declared.rounds.Round.{Round}
use Rattle.store_state.specs.declared.rounds.Round.TheVariants.{Refused}
use Rattle.session_meaning.specs.At.{At}
use Rattle.session_meaning.specs.Rounds.{IsDoneOrStarved, IsGivenUpFor, IsRound, Job, commit_of, drop_of, given}
use Rattle.session_meaning.specs.Rounds.{IsRound as round_of}
use Rattle.session_meaning.specs.Rounds.Job.{OfBlocks, OfRows}
use Rattle.session_meaning.specs.Upkeep.{HasNoJob, IsClosed}
use Rattle.session_meaning.proofs.RoundLaws.{Ending, HasBegun, OfKind, busy_not, has_begun, none_open}
use Rattle.session_meaning.proofs.RoundLaws.Ending.{Breaks, GivesUp, Lists, Misreads}
use Rattle.session_meaning.proofs.RoundLaws.OfKind.{Blocks, Rows}
use Rattle.session_meaning.proofs.RoundSteps.{BeginCause, IsBegin, idle, not_begun, open_job}
use Rattle.session_meaning.proofs.Steps.{rose_from, rose_to}

-- Nothing more waits, and at most so many file numbers were given out.
pub record KeepsRoom (count : ℕ) (m m' : Machine) : Type 0 where
  pub writes : m'.read_only ≡ m.read_only
  pub history : m'.history ≡ m.history
  pub held : held_of m'.state ≤ held_of m.state
  pub files : m'.state.next_file ≤ m.state.next_file + count
  pub closed : HasNoJob m → HasNoJob m'

pub room_itself : (count : ℕ) (m m' : Machine) → m' ≡ m → KeepsRoom count m m'
room_itself count m m' is = subst (KeepsRoom count m) (sym is) (record { writes = refl; history = refl; held = omega arith; files = omega arith; closed = λ none. none })

-- ---- a flush

some_flush : (a b : Flush) → Some a ≡ Some b → a ≡ b
some_flush a b e = cc

split : (n : ℕ) (rows : List Row) → length (take n rows) + length (drop n rows) ≡ length rows
split n rows = let a = length-take n rows in let b = length-drop n rows in omega (arith, a, b)

no_flush_held : (u : State) → u.flush ≡ None → held_of u ≡ 0 + length u.head + length u.live
no_flush_held u none = ap (λ (o : Option Flush). length (flush_rows o) + length u.head + length u.live) none

flush_listed_room : (number size : ℕ) (m at m' : Machine) → at ≡ with_state (after_begin_flush m.state) m → IsCommittedFlush number size at Fine m' → m.state.flush ≡ None → KeepsRoom 2 m m'
flush_listed_room number size m at m' begun_is done none =
    let d : IsCommittedFlush number size (with_state (after_begin_flush m.state) m) Fine m' = subst (λ (x : Machine). IsCommittedFlush number size x Fine m') begun_is done in
    subst (KeepsRoom 2 m) (sym d.6) (record {
      writes = refl;
      history = refl;
      held = let parts = split most_rows m.state.head in let before = no_flush_held m.state none in omega (arith, parts, before);
      files = omega arith;
      closed = λ closed. record { flush = refl; compaction = closed.compaction };
    })

flush_dropped_room : (number : ℕ) (m at m' : Machine) → at ≡ with_state (after_begin_flush m.state) m → IsDroppedFlush number at Fine m' → m.state.flush ≡ None → KeepsRoom 2 m m'
flush_dropped_room number m at m' begun_is done none =
    let d : IsDroppedFlush number (with_state (after_begin_flush m.state) m) Fine m' = subst (λ (x : Machine). IsDroppedFlush number x Fine m') begun_is done in
    let job : taken m.state ≡ d.0 = some_flush (taken m.state) d.0 d.1 in
    let is : m' ≡ with_state (after_drop_flush (taken m.state) (after_begin_flush m.state)) m =
    d.4 ∙ ap (λ (j : Flush). with_state (after_drop_flush j (after_begin_flush m.state)) m) (sym job) in
    subst (KeepsRoom 2 m) (sym is) (record {
      writes = refl;
      history = refl;
      held =
          let parts = split most_rows m.state.head in
          let joined = length-append (take most_rows m.state.head) (drop most_rows m.state.head) in
          let before = no_flush_held m.state none in omega (arith, parts, joined, before);
      files = omega arith;
      closed = λ closed. record { flush = refl; compaction = closed.compaction };
    })

-- ---- a compaction

joined_room : (number size pin : ℕ) (m at m' : Machine) → at ≡ with_state (after_begin_compact pin m.state) m → IsCommittedCompact number size at Fine m' → KeepsRoom 2 m m'
joined_room number size pin m at m' begun_is done =
    let d : IsCommittedCompact number size (with_state (after_begin_compact pin m.state) m) Fine m' = subst (λ (x : Machine). IsCommittedCompact number size x Fine m') begun_is done in
    subst (KeepsRoom 2 m) (sym d.6) (record {
      writes = refl;
      history = refl;
      held = omega arith;
      files = omega arith;
      closed = λ closed. record { flush = closed.flush; compaction = refl };
    })

not_joined_room : (number pin : ℕ) (m at m' : Machine) → at ≡ with_state (after_begin_compact pin m.state) m → IsDroppedCompact number at Fine m' → KeepsRoom 2 m m'
not_joined_room number pin m at m' begun_is done =
    let d : IsDroppedCompact number (with_state (after_begin_compact pin m.state) m) Fine m' = subst (λ (x : Machine). IsDroppedCompact number x Fine m') begun_is done in
    subst (KeepsRoom 2 m) (sym d.4) (record {
      writes = refl;
      history = refl;
      held = omega arith;
      files = omega arith;
      closed = λ closed. record { flush = closed.flush; compaction = refl };
    })

-- ---- a round

none_held : (o : Option Flush) → option_map (λ (job : Flush). job.number) o ≡ None → o ≡ None
none_held None e = refl
none_held (Some job) e = let bad : ⊥ = cc in absurd bad

commit_room : (begins : event) (job : Job) (size : ℕ) (m at m' : Machine) → OfKind begins job → open_job begins m.state ≡ None → Happens m begins (given job) at → Happens at (commit_of job size) Fine m'
    → KeepsRoom 2 m m'
commit_room begins job size m at m' (Rows its) none begun_is done = flush_listed_room its.number size m at m' begun_is.1 done (none_held m.state.flush none)
commit_room begins job size m at m' (Blocks its) none begun_is done = joined_room its.number size begun_is.0 m at m' begun_is.3 done

drop_room : (begins : event) (job : Job) (m at m' : Machine) → OfKind begins job → open_job begins m.state ≡ None → Happens m begins (given job) at → Happens at (drop_of job) Fine m' → KeepsRoom 2 m m'
drop_room begins job m at m' (Rows its) none begun_is done = flush_dropped_room its.number m at m' begun_is.1 done (none_held m.state.flush none)
drop_room begins job m at m' (Blocks its) none begun_is done = not_joined_room its.number begun_is.0 m at m' begun_is.3 done

begin_without : (begins : event) (is : IsBegin begins) (f g : ℕ) (m m' : Machine) (b : BeginError) → (Rose f g → ⊥) → m.read_only ≡ None → IsClosed m → m.state.next_file < 4294967294
    → BeginCause begins is f g m m' (begin_refusal b) → IsDoneOrStarved (Refused (begin_cause b)) × KeepsRoom 2 m m'
begin_without begins is f g m m' (begin.ReadOnly faults) well writes closed files c = let bad : ⊥ = (let some = c.0 in cc) in absurd bad
begin_without begins is f g m m' (begin.Busy job) well writes closed files c = busy_not job (open_job begins m.state) _ (none_open begins is m (closed writes)) c.1
begin_without begins is f g m m' (begin.FilesSpent next) well writes closed files c =
    let same = c.1 in let high = c.2 in absurd (let bad : ⊥ = omega (arith, same, high, files) in bad)
begin_without begins is f g m m' begin.Fault well writes closed files c = absurd (well c.1)
begin_without begins is f g m m' begin.Memory well writes closed files c = (tt, room_itself 2 m m' c.1)

-- it found that a block is none
abbrev pub FoundNone : Round → Type 0
FoundNone round = (file at : ℕ) × (round ≡ Refused (NotBlock file at))

given_up_well : (job : Job) (w : Refusal) → IsGivenUpFor job w → (FoundNone (Refused w) → ⊥) → IsDoneOrStarved (Refused w)
given_up_well job Memory for found = tt
given_up_well job (NotBlock file at) for found = absurd (found (file, at, refl))
given_up_well (OfRows job) (ReadOnly faults) for found = absurd for
given_up_well (OfBlocks job) (ReadOnly faults) for found = absurd for
given_up_well (OfRows job) (Busy n) for found = absurd for
given_up_well (OfBlocks job) (Busy n) for found = absurd for
given_up_well (OfRows job) (FilesSpent n) for found = absurd for
given_up_well (OfBlocks job) (FilesSpent n) for found = absurd for
given_up_well (OfRows job) Fault for found = absurd for
given_up_well (OfBlocks job) Fault for found = absurd for

ended_without : (begins : event) (before : At) (job : Job) (round : Round) (after : At) → (Rose before.faults after.faults → ⊥) → (FoundNone round → ⊥) → (has : HasBegun begins before job round after)
    → Ending job has.begun_at round after → IsDoneOrStarved round × KeepsRoom 2 before.machine after.machine
ended_without begins before job round after well found has (Lists size sized done is) =
    (subst IsDoneOrStarved (sym is) tt, commit_room begins job size before.machine has.begun_at.machine after.machine has.kind has.is_free.closed has.happened done)
ended_without begins before job round after well found has (Breaks n rose within broke is) =
    absurd (well (rose_from before.faults has.begun_at.faults after.faults has.earlier (rose_to has.begun_at.faults n after.faults rose within)))
ended_without begins before job round after well found has (Misreads joins rose gone is) = absurd (well (rose_from before.faults has.begun_at.faults after.faults has.earlier rose))
ended_without begins before job round after well found has (GivesUp w for gone is) = (
  subst IsDoneOrStarved (sym is) (given_up_well job w for (λ none. found (none.0, none.1, is ∙ none.2))),
  drop_room begins job before.machine has.begun_at.machine after.machine has.kind has.is_free.closed has.happened gone,
)

-- A round in which no call failed and no block was found to be none, of a store that writes and has file numbers left, is done or memory
-- was wanted.
pub round_without_faults : (begins : event) → IsBegin begins → (before : At) (round : Round) (after : At) → IsRound begins before round after → (Rose before.faults after.faults → ⊥) → (FoundNone round → ⊥)
    → before.machine.read_only ≡ None → IsClosed before.machine → before.machine.state.next_file < 4294967294 → IsDoneOrStarved round × KeepsRoom 2 before.machine after.machine
round_without_faults begins is before round after (round_of.nothing step told) well found writes closed files =
    (subst IsDoneOrStarved (sym told) tt, room_itself 2 before.machine after.machine (idle begins is before.faults after.faults before.machine after.machine step.1).2)
round_without_faults begins is before round after (round_of.no_job b step told) well found writes closed files =
    let so = begin_without begins is before.faults after.faults before.machine after.machine b well writes closed files
    (not_begun begins is before.faults after.faults before.machine after.machine (begin_refusal b) step.1) in
    (subst IsDoneOrStarved (sym told) so.0, so.1)
round_without_faults begins is before round after (round_of.job job at step ends) well found writes closed files =
    let has = has_begun begins is before at job round after step ends in ended_without begins before job round after well found has has.ended
