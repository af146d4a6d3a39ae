-- What a round keeps of the store, and how it ends.
use Rattle.std.proofs.Common.{◌≡◌, ◌⊎◌, inl, inr, ℕ, ◌≤◌, List, Option, Some, None, arith, option_map, refl, sym, ◌∙◌, ap, subst}
use Rattle.std.specs.Prelude.{⊤, true}
use Rattle.span_types.specs.Faults.{Rose}
use Rattle.store_entries.specs.declared.entry.Entry.{Entry}
use Rattle.store_model.specs.Choice.{choice}
use Rattle.store_model.specs.Event.{Event as event, Reply as reply, Refusal as why, FlushParts, CompactParts}
use Rattle.store_model.specs.Event.Event.{BeginCompact, BeginFlush, Push, ReadPage, WritePiece}
use Rattle.store_model.specs.Event.Reply.{Fine}
use Rattle.store_model.specs.History.{History, with_entry}
use Rattle.store_model.specs.State.{Compaction, Flush, block_files, is_among}
use Rattle.store_model.specs.Step.{Happens, Machine, Step}
use Rattle.store_model.specs.Told.{history_after, asked_entry}
use Rattle.store_model.proofs.Chosen.{choice_part, part_within}
use Rattle.store_model.proofs.Numbers.{among, named}
use Rattle.store_model.proofs.TellsHistory.{step_tells}
use Rattle.store_state.specs.Replies.{begin_refusal}
use Rattle.store_state.specs.Rounds.{begin_cause}
use Rattle.store_state.specs.declared.errors.BeginError.{BeginError}
use Rattle.store_state.specs.declared.errors.BeginError.TheVariants as begin
use Rattle.store_state.specs.declared.rounds.Refusal.{Refusal}
use Rattle.store_state.specs.declared.rounds.Refusal.TheVariants.{Busy, Fault, FilesSpent, Memory, NotBlock, ReadOnly}
use Rattle.store_state.specs.declared.rounds.Round.{Round}
use Rattle.store_state.specs.declared.rounds.Round.TheVariants.{Did, Nothing, Refused}
use Rattle.session_meaning.specs.At.{At, IsStep, IsStill, history_of}
use Rattle.session_meaning.specs.Causes.{HasRoundCause, StoppedWriting}
use Rattle.session_meaning.specs.Rounds.{HasDropped, IsEnded, IsGivenUpFor, IsRound, IsSized, IsWorkOf, Job, blocks_of, commit_of, drop_of, given}
use Rattle.session_meaning.specs.Rounds.{IsEnded as ended, IsRound as round_of}
use Rattle.session_meaning.specs.Rounds.Job.{OfBlocks, OfRows}
use Rattle.session_meaning.specs.Upkeep.{HasNoJob, IsClosed}
use Rattle.session_meaning.proofs.Dropped.{dropped_after}
use Rattle.session_meaning.proofs.Rounds.{Writes, begun_writes, still_writes}
use Rattle.session_meaning.proofs.RoundSteps.{BeginCause, IsBegin, IsFree, begun, commits, dropped, drops, idle, not_begun, open_job, work, write_broke, write_done}
use Rattle.session_meaning.proofs.RoundSteps.IsBegin.{OfCompaction, OfFlush}
use Rattle.session_meaning.proofs.RoundSteps.IsWrite.{OfPiece}
use Rattle.session_meaning.proofs.Steps.{happens_writes, read_rose, read_still, rose_from, rose_to, two}

-- ---- counts of faults

ended_later : (job : Job) (at : At) (round : Round) (after : At) → IsEnded job at round after → at.faults ≤ after.faults
ended_later job at round after (ended.listed size written sized still step is) = two at.faults written.faults after.faults still.1 step.0
ended_later job at round after (ended.unlisted size written sized still step is) = two at.faults written.faults after.faults still.1 step.0
ended_later job at round after (ended.failed e made broke works still step gone is) =
    two at.faults broke.faults after.faults (two at.faults made.faults broke.faults still.1 step.0) gone.0
ended_later job at round after (ended.given_up w made for still gone is) = two at.faults made.faults after.faults still.1 gone.0

pub round_later : (begins : event) (before : At) (round : Round) (after : At) → IsRound begins before round after → before.faults ≤ after.faults
round_later begins before round after (round_of.nothing step is) = step.0
round_later begins before round after (round_of.no_job w step is) = step.0
round_later begins before round after (round_of.job job at step ends) = two before.faults at.faults after.faults step.0 (ended_later job at round after ends)

-- ---- what each event keeps that pushes nothing

abbrev pub PushesNothing : event → Type 0
PushesNothing (Push spans moment) = ⊥
PushesNothing _ = ⊤

abbrev pub IsKept : (Machine → Type 0) → Type 0
IsKept P = (f g : ℕ) (m m' : Machine) (e : event) (r : reply) → PushesNothing e → Step f g m e r m' → P m → P m'

begin_pushes : (begins : event) → IsBegin begins → PushesNothing begins
begin_pushes begins OfFlush = tt
begin_pushes begins OfCompaction = tt

commit_pushes : (job : Job) (size : ℕ) → PushesNothing (commit_of job size)
commit_pushes (OfRows job) size = tt
commit_pushes (OfBlocks job) size = tt

drop_pushes : (job : Job) → PushesNothing (drop_of job)
drop_pushes (OfRows job) = tt
drop_pushes (OfBlocks job) = tt

work_pushes : (job : Job) (e : event) → IsWorkOf job e → PushesNothing e
work_pushes (OfRows job) (Push spans moment) works = works
work_pushes (OfBlocks job) (Push spans moment) works = works
work_pushes job _ works = tt

-- What each of its events carries on a round carries on.
module _ (P : At → Type 0) (by_step : (before after : At) (e : event) (r : reply) → PushesNothing e → IsStep before e r after → P before → P after)
    (by_still : (before after : At) → IsStill before after → P before → P after) where
  ended_carries : (job : Job) (at : At) (round : Round) (after : At) → IsEnded job at round after → P at → P after
  ended_carries job at round after (ended.listed size written sized still step is) has =
      by_step written after (commit_of job size) Fine (commit_pushes job size) step (by_still at written still has)
  ended_carries job at round after (ended.unlisted size written sized still step is) has =
      by_step written after (commit_of job size) (reply.Refused why.Fault) (commit_pushes job size) step (by_still at written still has)
  ended_carries job at round after (ended.failed e made broke works still step gone is) has =
      by_step broke after (drop_of job) Fine (drop_pushes job) gone
      (by_step made broke e (reply.Refused why.Fault) (work_pushes job e works) step (by_still at made still has))
  ended_carries job at round after (ended.given_up w made for still gone is) has =
      by_step made after (drop_of job) Fine (drop_pushes job) gone (by_still at made still has)

  pub round_carries : (begins : event) → IsBegin begins → (before : At) (round : Round) (after : At) → IsRound begins before round after → P before → P after
  round_carries begins is before round after (round_of.nothing step told) has = by_step before after begins reply.Nothing (begin_pushes begins is) step has
  round_carries begins is before round after (round_of.no_job w step told) has =
      by_step before after begins (reply.Refused (begin_refusal w)) (begin_pushes begins is) step has
  round_carries begins is before round after (round_of.job job at step ends) has =
      ended_carries job at round after ends (by_step before at begins (given job) (begin_pushes begins is) step has)

pub round_keeps : (P : Machine → Type 0) → IsKept P → (begins : event) → IsBegin begins → (before : At) (round : Round) (after : At) → IsRound begins before round after → P before.machine → P after.machine
round_keeps P keeps =
    round_carries (λ at. P at.machine) (λ before after e r none step has. keeps before.faults after.faults before.machine after.machine e r none step.1 has)
    (λ before after still has. subst P (sym still.0) has)

-- an event that pushes nothing is to add no entry
pub asks_none : (e : event) → PushesNothing e → asked_entry e ≡ None
asks_none (Push spans moment) none = absurd none
asks_none _ none = refl

pub no_push : (e : event) (r : reply) (h : History) → PushesNothing e → history_after e r h ≡ h
no_push e (reply.Count n) h none = ap (λ (added : Option Entry). with_entry added h) (asks_none e none)
no_push e _ h none = refl

-- Each event that pushes nothing keeps the history.
pub same_history : (h : History) → IsKept (λ m. m.history ≡ h)
same_history h f g m m' e r none step is = (step_tells f g m m' e r step).0 ∙ no_push e r m.history none ∙ is

pub round_history : (begins : event) → IsBegin begins → (before : At) (round : Round) (after : At) → IsRound begins before round after → history_of after ≡ history_of before
round_history begins is before round after so = round_keeps (λ m. m.history ≡ history_of before) (same_history (history_of before)) begins is before round after so refl

-- ---- how a job ends, by the machine that its begin left

abbrev IsJoining : Job → Type 0
IsJoining (OfRows job) = ⊥
IsJoining (OfBlocks job) = ⊤

pub data Ending (job : Job) (begun_at : At) (round : Round) (after : At) : Type 0 where
  Lists : (size : ℕ) → IsSized job size → Happens begun_at.machine (commit_of job size) Fine after.machine → round ≡ Did (blocks_of job) size → Ending job begun_at round after
  -- a write failed, and after it the job stays open or is given up
  Breaks : (n : ℕ) → Rose begun_at.faults n → n ≤ after.faults → after.machine.read_only ≡ Some n → round ≡ Refused Fault → Ending job begun_at round after
  -- a read failed
  Misreads : IsJoining job → Rose begun_at.faults after.faults → Happens begun_at.machine (drop_of job) Fine after.machine → round ≡ Refused Fault → Ending job begun_at round after
  GivesUp : (w : Refusal) → IsGivenUpFor job w → Happens begun_at.machine (drop_of job) Fine after.machine → round ≡ Refused w → Ending job begun_at round after

drop_done : (job : Job) (begun_at made after : At) → made.machine ≡ begun_at.machine → IsStep made (drop_of job) Fine after → Happens begun_at.machine (drop_of job) Fine after.machine
drop_done job begun_at made after same gone =
    subst (λ (m : Machine). Happens m (drop_of job) Fine after.machine) same
    (dropped (drop_of job) (drops job) made.faults after.faults made.machine after.machine gone.1)

broke_then : (job : Job) (number file : ℕ) (bytes : List ℕ) (begun_at made broke after : At) (round : Round) → Writes begun_at → IsStill begun_at made
    → IsStep made (WritePiece number file bytes) (reply.Refused why.Fault) broke → IsStep broke (drop_of job) Fine after → round ≡ Refused Fault → Ending job begun_at round after
broke_then job number file bytes begun_at made broke after round writes still step gone is =
    let fails = write_broke (WritePiece number file bytes) (OfPiece number file bytes) made.faults broke.faults made.machine broke.machine (still_writes begun_at made still writes) step.1 in
    let out = dropped (drop_of job) (drops job) broke.faults after.faults broke.machine after.machine gone.1 in
    Breaks broke.faults (rose_from begun_at.faults made.faults broke.faults still.1 fails.0) gone.0
    (happens_writes broke.machine after.machine (drop_of job) Fine out ∙ ap (λ (m : Machine). m.read_only) fails.1) is

misread_then : (job : Job) (pin block page : ℕ) (begun_at made broke after : At) (round : Round) → IsJoining job → IsStill begun_at made
    → IsStep made (ReadPage pin block page) (reply.Refused why.Fault) broke → IsStep broke (drop_of job) Fine after → round ≡ Refused Fault → Ending job begun_at round after
misread_then job pin block page begun_at made broke after round joins still step gone is =
    let rose = read_rose made.faults broke.faults made.machine broke.machine pin block page step.1 in
    let same = read_still made.faults broke.faults made.machine broke.machine pin block page (reply.Refused why.Fault) step.1 in
    Misreads joins
    (rose_to begun_at.faults broke.faults after.faults (rose_from begun_at.faults made.faults broke.faults still.1 rose) gone.0)
    (drop_done job begun_at broke after (same ∙ still.0) gone) is

failed_then : (job : Job) (e : event) (begun_at made broke after : At) (round : Round) → Writes begun_at → IsWorkOf job e → IsStill begun_at made
    → IsStep made e (reply.Refused why.Fault) broke → IsStep broke (drop_of job) Fine after → round ≡ Refused Fault → Ending job begun_at round after
failed_then (OfRows job) (WritePiece its own bytes) begun_at made broke after round writes works still step gone is =
    broke_then (OfRows job) its own bytes begun_at made broke after round writes still step gone is
failed_then (OfBlocks job) (WritePiece its own bytes) begun_at made broke after round writes works still step gone is =
    broke_then (OfBlocks job) its own bytes begun_at made broke after round writes still step gone is
failed_then (OfBlocks job) (ReadPage its block page) begun_at made broke after round writes works still step gone is =
    misread_then (OfBlocks job) its block page begun_at made broke after round tt still step gone is
failed_then (OfRows job) _ begun_at made broke after round writes works still step gone is = absurd works
failed_then (OfBlocks job) _ begun_at made broke after round writes works still step gone is = absurd works

pub ending : (job : Job) (begun_at : At) (round : Round) (after : At) → Writes begun_at → IsEnded job begun_at round after → Ending job begun_at round after
ending job begun_at round after writes (ended.listed size written sized still step is) =
    Lists size sized
    (subst (λ (m : Machine). Happens m (commit_of job size) Fine after.machine) still.0
    (write_done (commit_of job size) (commits job size) written.faults after.faults written.machine after.machine step.1)) is
ending job begun_at round after writes (ended.unlisted size written sized still step is) =
    let fails = write_broke (commit_of job size) (commits job size) written.faults after.faults written.machine after.machine (still_writes begun_at written still writes) step.1 in
    Breaks after.faults (rose_from begun_at.faults written.faults after.faults still.1 fails.0) (omega arith) (ap (λ (m : Machine). m.read_only) fails.1) is
ending job begun_at round after writes (ended.failed e made broke works still step gone is) = failed_then job e begun_at made broke after round writes works still step gone is
ending job begun_at round after writes (ended.given_up w made for still gone is) = GivesUp w for (drop_done job begun_at made after still.0 gone) is

-- ---- jobs of a kind

pub data OfKind : event → Job → Type 0 where
  Rows : (job : FlushParts) → OfKind BeginFlush (OfRows job)
  Blocks : (job : CompactParts) → OfKind BeginCompact (OfBlocks job)

pub kind_of : (begins : event) → IsBegin begins → (m m' : Machine) (job : Job) → Happens m begins (given job) m' → OfKind begins job
kind_of begins OfFlush m m' (OfRows job) done = Rows job
kind_of begins OfFlush m m' (OfBlocks job) done = let bad : ⊥ = (let is = done.0 in cc) in absurd bad
kind_of begins OfCompaction m m' (OfRows job) done = let bad : ⊥ = (let is = done.2 in cc) in absurd bad
kind_of begins OfCompaction m m' (OfBlocks job) done = Blocks job

-- What a round that begun a job came to.
pub record HasBegun (begins : event) (before : At) (job : Job) (round : Round) (after : At) : Type 0 where
  pub begun_at : At
  pub earlier : before.faults ≤ begun_at.faults
  pub is_free : IsFree begins before.machine
  pub happened : Happens before.machine begins (given job) begun_at.machine
  pub kind : OfKind begins job
  pub ended : Ending job begun_at round after

pub has_begun : (begins : event) → IsBegin begins → (before at : At) (job : Job) (round : Round) (after : At) → IsStep before begins (given job) at → IsEnded job at round after
    → HasBegun begins before job round after
has_begun begins is before at job round after step ends =
    let found = begun begins is before.faults at.faults before.machine at.machine job step.1 in record {
      begun_at = at;
      earlier = step.0;
      is_free = found.0;
      happened = found.1;
      kind = kind_of begins is before.machine at.machine job found.1;
      ended = ending job at round after (begun_writes begins is before at job step) ends;
    }

-- ---- no job stays open while the store writes

-- no job of the other kind is open
abbrev Other : event → Machine → Type 0
Other BeginFlush m = m.state.compaction ≡ None
Other BeginCompact m = m.state.flush ≡ None
Other _ m = ⊤

other_of : (begins : event) → IsBegin begins → (m : Machine) → HasNoJob m → Other begins m
other_of begins OfFlush m none = none.compaction
other_of begins OfCompaction m none = none.flush

other_begun : (begins : event) → IsBegin begins → (m m' : Machine) (r : reply) → Happens m begins r m' → Other begins m → Other begins m'
other_begun begins OfFlush m m' r done none = ap (λ (n : Machine). n.state.compaction) done.1 ∙ none
other_begun begins OfCompaction m m' r done none = ap (λ (n : Machine). n.state.flush) done.3 ∙ none

commit_closes : (begins : event) (job : Job) (size : ℕ) (m m' : Machine) → OfKind begins job → Happens m (commit_of job size) Fine m' → Other begins m → HasNoJob m'
commit_closes begins job size m m' (Rows its) done none =
    record { flush = ap (λ (n : Machine). n.state.flush) done.6; compaction = ap (λ (n : Machine). n.state.compaction) done.6 ∙ none }
commit_closes begins job size m m' (Blocks its) done none =
    record { flush = ap (λ (n : Machine). n.state.flush) done.6 ∙ none; compaction = ap (λ (n : Machine). n.state.compaction) done.6 }

drop_closes : (begins : event) (job : Job) (m m' : Machine) → OfKind begins job → Happens m (drop_of job) Fine m' → Other begins m → HasNoJob m'
drop_closes begins job m m' (Rows its) done none =
    record { flush = ap (λ (n : Machine). n.state.flush) done.4; compaction = ap (λ (n : Machine). n.state.compaction) done.4 ∙ none }
drop_closes begins job m m' (Blocks its) done none =
    record { flush = ap (λ (n : Machine). n.state.flush) done.4 ∙ none; compaction = ap (λ (n : Machine). n.state.compaction) done.4 }

broken_closed : (n : ℕ) (m' : Machine) → m'.read_only ≡ Some n → IsClosed m'
broken_closed n m' is = λ writes. let bad : ⊥ = (let same = sym is ∙ writes in cc) in absurd bad

same_closed : (m m' : Machine) → m' ≡ m → IsClosed m → IsClosed m'
same_closed m m' is closed = subst IsClosed (sym is) closed

refused_closed : (begins : event) (is : IsBegin begins) (f g : ℕ) (m m' : Machine) (w : BeginError) → BeginCause begins is f g m m' (begin_refusal w) → IsClosed m → IsClosed m'
refused_closed begins is f g m m' (begin.ReadOnly faults) c closed = same_closed m m' c.1 closed
refused_closed begins is f g m m' (begin.Busy job) c closed = same_closed m m' c.2 closed
refused_closed begins is f g m m' (begin.FilesSpent next) c closed = same_closed m m' c.3 closed
refused_closed begins is f g m m' begin.Fault c closed = broken_closed g m' (ap (λ (n : Machine). n.read_only) c.2)
refused_closed begins is f g m m' begin.Memory c closed = same_closed m m' c.1 closed

ended_closed : (begins : event) (job : Job) (at : At) (round : Round) (after : At) → OfKind begins job → Other begins at.machine → Ending job at round after → IsClosed after.machine
ended_closed begins job at round after kind none (Lists size sized done is) = λ writes. commit_closes begins job size at.machine after.machine kind done none
ended_closed begins job at round after kind none (Breaks n rose within broke is) = broken_closed n after.machine broke
ended_closed begins job at round after kind none (Misreads joins rose gone is) = λ writes. drop_closes begins job at.machine after.machine kind gone none
ended_closed begins job at round after kind none (GivesUp w for gone is) = λ writes. drop_closes begins job at.machine after.machine kind gone none

pub round_closes : (begins : event) → IsBegin begins → (before : At) (round : Round) (after : At) → IsRound begins before round after → IsClosed before.machine → IsClosed after.machine
round_closes begins is before round after (round_of.nothing step told) closed =
    same_closed before.machine after.machine (idle begins is before.faults after.faults before.machine after.machine step.1).2 closed
round_closes begins is before round after (round_of.no_job w step told) closed =
    refused_closed begins is before.faults after.faults before.machine after.machine w (not_begun begins is before.faults after.faults before.machine after.machine (begin_refusal w) step.1) closed
round_closes begins is before round after (round_of.job job at step ends) closed =
    let has = has_begun begins is before at job round after step ends in
    ended_closed begins job has.begun_at round after has.kind
    (other_begun begins is before.machine has.begun_at.machine (given job) has.happened (other_of begins is before.machine (closed has.is_free.writes))) has.ended

-- ---- why it is refused

same_why : (a b : Refusal) → Refused a ≡ Refused b → a ≡ b
same_why a b e = cc

pub none_open : (begins : event) → IsBegin begins → (m : Machine) → HasNoJob m → open_job begins m.state ≡ None
none_open begins OfFlush m none = ap (option_map (λ (job : Flush). job.number)) none.flush
none_open begins OfCompaction m none = ap (option_map (λ (job : Compaction). job.number)) none.compaction

-- a write failed in it, so that the store writes no more, or in a compaction a read, and the job was dropped
abbrev pub HasFailed : event → At → At → Type 0
HasFailed begins before after = StoppedWriting before after ⊎ ((begins ≡ BeginCompact) × Rose before.faults after.faults × HasDropped before.machine after.machine)

abbrev pub IsRefusedFor : event → Refusal → At → At → Type 0
IsRefusedFor begins Fault before after = HasFailed begins before after
IsRefusedFor begins (NotBlock file at) before after = (begins ≡ BeginCompact) × (is_among file (block_files before.machine.state.blocks) ≡ true)
IsRefusedFor begins w before after = HasRoundCause (work begins before.machine.state) w before

pub busy_not : (number : ℕ) (o : Option ℕ) (G : Type 0) → o ≡ None → o ≡ Some number → G
busy_not number o G none some = let bad : ⊥ = cc in absurd bad

begin_caused : (begins : event) (is : IsBegin begins) (before after : At) (w : BeginError) → BeginCause begins is before.faults after.faults before.machine after.machine (begin_refusal w)
    → IsClosed before.machine → IsRefusedFor begins (begin_cause w) before after
begin_caused begins is before after (begin.ReadOnly faults) c closed = c.0
begin_caused begins is before after (begin.Busy job) c closed = busy_not job (open_job begins before.machine.state) _ (none_open begins is before.machine (closed c.0)) c.1
begin_caused begins is before after (begin.FilesSpent next) c closed = (c.0, c.1, c.2)
begin_caused begins is before after begin.Fault c closed = inl (after.faults, c.1, omega arith, ap (λ (m : Machine). m.read_only) c.2)
begin_caused begins is before after begin.Memory c closed = tt

pub same_files : (one other : CompactParts) → reply.Compacting one ≡ reply.Compacting other → (one.pin ≡ other.pin) × (one.files ≡ other.files)
same_files one other is =
    let same : one ≡ other = cc in (ap (λ (job : CompactParts). job.pin) same, ap (λ (job : CompactParts). job.files) same)

-- the files of a compaction's job are those of listed blocks
pub chosen_listed : (m m' : Machine) (job : CompactParts) → Happens m BeginCompact (given (OfBlocks job)) m' → (block : ℕ) → is_among block job.files ≡ true
    → is_among block (block_files m.state.blocks) ≡ true
chosen_listed m m' job done block inside =
    let theirs : job.files ≡ block_files (choice m.state.blocks) = (same_files job _ done.2).1 in
    let some = named block (block_files (choice m.state.blocks)) (subst (λ (fs : List ℕ). is_among block fs ≡ true) theirs inside) in
    let within = part_within block (choice m.state.blocks) m.state.blocks (choice_part m.state.blocks) in
    among block (block_files m.state.blocks) (omega (arith, some, within))

given_up_for : (begins : event) (job : Job) (m m' : Machine) (before after : At) (w : Refusal) → before.machine ≡ m → OfKind begins job → Happens m begins (given job) m' → IsGivenUpFor job w
    → IsRefusedFor begins w before after
given_up_for begins job m m' before after Memory same kind done for = tt
given_up_for begins job m m' before after (NotBlock block at) same (Blocks its) done for =
    (refl, subst (λ (n : Machine). is_among block (block_files n.state.blocks) ≡ true) (sym same) (chosen_listed m m' its done block for))
given_up_for begins job m m' before after (NotBlock block at) same (Rows its) done for = absurd for
given_up_for begins job m m' before after (ReadOnly faults) same (Rows its) done for = absurd for
given_up_for begins job m m' before after (ReadOnly faults) same (Blocks its) done for = absurd for
given_up_for begins job m m' before after (Busy number) same (Rows its) done for = absurd for
given_up_for begins job m m' before after (Busy number) same (Blocks its) done for = absurd for
given_up_for begins job m m' before after (FilesSpent next) same (Rows its) done for = absurd for
given_up_for begins job m m' before after (FilesSpent next) same (Blocks its) done for = absurd for
given_up_for begins job m m' before after Fault same (Rows its) done for = absurd for
given_up_for begins job m m' before after Fault same (Blocks its) done for = absurd for

pub not_did : (w : Refusal) (a b : ℕ) → Did a b ≡ Refused w → ⊥
not_did w a b e = cc

misread : (begins : event) (job : Job) (m at m' : Machine) → OfKind begins job → IsJoining job → IsFree begins m → Happens m begins (given job) at → Happens at (drop_of job) Fine m'
    → (begins ≡ BeginCompact) × HasDropped m m'
misread begins job m at m' (Rows its) joins free done gone = absurd joins
misread begins job m at m' (Blocks its) joins free done gone = (refl, dropped_after its.number done.0 m at m' free done.1 done.3 gone)

job_caused : (begins : event) (before : At) (job : Job) (after : At) (w : Refusal) → (has : HasBegun begins before job (Refused w) after) → Ending job has.begun_at (Refused w) after
    → IsRefusedFor begins w before after
job_caused begins before job after w has (Lists size sized done is) = absurd (not_did w (blocks_of job) size (sym is))
job_caused begins before job after w has (Breaks n rose within broke is) =
    subst (λ (x : Refusal). IsRefusedFor begins x before after) (sym (same_why w Fault is))
    (inl (n, rose_from before.faults has.begun_at.faults n has.earlier rose, within, broke))
job_caused begins before job after w has (Misreads joins rose gone is) =
    let left = misread begins job before.machine has.begun_at.machine after.machine has.kind joins has.is_free has.happened gone in
    subst (λ (x : Refusal). IsRefusedFor begins x before after) (sym (same_why w Fault is))
    (inr (left.0, rose_from before.faults has.begun_at.faults after.faults has.earlier rose, left.1))
job_caused begins before job after w has (GivesUp v for gone is) =
    subst (λ (x : Refusal). IsRefusedFor begins x before after) (sym (same_why w v is))
    (given_up_for begins job before.machine has.begun_at.machine before after v refl has.kind has.happened for)

-- A refused round has its cause.
pub round_caused : (begins : event) → IsBegin begins → (before after : At) (w : Refusal) → IsRound begins before (Refused w) after → IsClosed before.machine → IsRefusedFor begins w before after
round_caused begins is before after w (round_of.nothing step told) closed = let bad : ⊥ = cc in absurd bad
round_caused begins is before after w (round_of.no_job b step told) closed =
    subst (λ (x : Refusal). IsRefusedFor begins x before after) (sym (same_why w (begin_cause b) told))
    (begin_caused begins is before after b (not_begun begins is before.faults after.faults before.machine after.machine (begin_refusal b) step.1) closed)
round_caused begins is before after w (round_of.job job at step ends) closed =
    let has = has_begun begins is before at job (Refused w) after step ends in job_caused begins before job after w has has.ended

-- ---- nothing to do

not_nothing : (blocks rows : ℕ) → Nothing ≡ Did blocks rows → ⊥
not_nothing blocks rows e = cc

not_refused : (w : Refusal) → Nothing ≡ Refused w → ⊥
not_refused w e = cc

ended_not_nothing : (job : Job) (at after : At) (G : Type 0) → IsEnded job at Nothing after → G
ended_not_nothing job at after G (ended.listed size written sized still step is) = absurd (not_nothing (blocks_of job) size is)
ended_not_nothing job at after G (ended.unlisted size written sized still step is) = absurd (not_refused Fault is)
ended_not_nothing job at after G (ended.failed e made broke works still step gone is) = absurd (not_refused Fault is)
ended_not_nothing job at after G (ended.given_up w made for still gone is) = absurd (not_refused w is)

-- What is told that there is nothing to do has nothing, and nothing changes.
pub nothing_done : (begins : event) → IsBegin begins → (before after : At) → IsRound begins before Nothing after → (work begins before.machine.state ≡ 0) × IsStill before after
nothing_done begins is before after (round_of.nothing step told) =
    let found = idle begins is before.faults after.faults before.machine after.machine step.1 in (found.1, (found.2, step.0, step.2))
nothing_done begins is before after (round_of.no_job b step told) = absurd (not_refused (begin_cause b) told)
nothing_done begins is before after (round_of.job job at step ends) = ended_not_nothing job at after _ ends

no_work : (n : ℕ) (G : Type 0) → n ≡ 0 → 1 ≤ n → G
no_work n G none some = absurd (let bad : ⊥ = omega (arith, none, some) in bad)

idle_refused : (begins : event) (is : IsBegin begins) (f g : ℕ) (m m' : Machine) (b : BeginError) (G : Type 0) → m.read_only ≡ None → IsClosed m → work begins m.state ≡ 0
    → BeginCause begins is f g m m' (begin_refusal b) → G
idle_refused begins is f g m m' (begin.ReadOnly faults) G writes closed none c = let bad : ⊥ = (let some = c.0 in cc) in absurd bad
idle_refused begins is f g m m' (begin.Busy job) G writes closed none c = busy_not job (open_job begins m.state) G (none_open begins is m (closed writes)) c.1
idle_refused begins is f g m m' (begin.FilesSpent next) G writes closed none c = no_work (work begins m.state) G none c.0
idle_refused begins is f g m m' begin.Fault G writes closed none c = no_work (work begins m.state) G none c.0
idle_refused begins is f g m m' begin.Memory G writes closed none c = no_work (work begins m.state) G none c.0

-- A round that has nothing to do, in a store that writes, is answered just that.
pub idle_nothing : (begins : event) → IsBegin begins → (before : At) (round : Round) (after : At) → IsRound begins before round after → before.machine.read_only ≡ None → IsClosed before.machine
    → work begins before.machine.state ≡ 0 → round ≡ Nothing
idle_nothing begins is before round after (round_of.nothing step told) writes closed none = told
idle_nothing begins is before round after (round_of.no_job b step told) writes closed none =
    idle_refused begins is before.faults after.faults before.machine after.machine b _ writes closed none
    (not_begun begins is before.faults after.faults before.machine after.machine (begin_refusal b) step.1)
idle_nothing begins is before round after (round_of.job job at step ends) writes closed none =
    no_work (work begins before.machine.state) _ none (has_begun begins is before at job round after step ends).is_free.some
