-- A store that writes no more names the line at which it stopped, by the count of faults that it tells.
use Rattle.std.proofs.Common.{◌≡◌, ◌⊎◌, inl, inr, ◌∙◌, Bool, true, false, ℕ, ◌≤◌, List, [], ◌∷◌, Option, None, Some, Result, Ok, Err, ap, arith, refl, sym, subst}
use Rattle.span_types.specs.Faults.{Rose}
use Rattle.span_types.specs.declared.errors.Memory.{Memory}
use Rattle.otlp_spans.specs.declared.read.Reading.{Reading}
use Rattle.session_text.specs.declared.refusal.Refusal.{Refusal}
use Rattle.session_text.specs.declared.refusal.Refusal.TheVariants as told_as
use Rattle.session_text.specs.declared.reply.Reply.{Reply}
use Rattle.session_text.specs.declared.reply.Reply.TheVariants.{Compacted, Flushed, NothingCompacted, NothingFlushed, Refused, Reopened}
use Rattle.session_text.specs.declared.request.Request.TheVariants as request
use Rattle.session_text.specs.Items.{Item}
use Rattle.store_model.specs.Event.{Event as event, Reply as reply, Refusal as cause}
use Rattle.store_model.specs.Event.Event.{BeginCompact, BeginFlush, CommitCompact, CommitFlush, Cut, CutAll, Push, Reclaim, WritePiece}
use Rattle.store_model.specs.Step.{Machine, Step, early, if_read_only, writes}
use Rattle.store_model.specs.Step.Step.{Sure, Succeeds, Lacks, Unread as Misread, Breaks, Halts}
use Rattle.store_state.specs.Replies.{begin_refusal, count_reply, push_reply, reclaim_reply}
use Rattle.store_state.specs.Rounds.{begin_cause}
use Rattle.store_state.specs.declared.errors.BeginError.{BeginError}
use Rattle.store_state.specs.declared.errors.BeginError.TheVariants as begin
use Rattle.store_state.specs.declared.errors.PushError.{PushError}
use Rattle.store_state.specs.declared.errors.PushError.TheVariants as push
use Rattle.store_state.specs.declared.errors.ReclaimError.{ReclaimError}
use Rattle.store_state.specs.declared.errors.ReclaimError.TheVariants as reclaim
use Rattle.store_state.specs.declared.rounds.Refusal.{Refusal as Cause}
use Rattle.store_state.specs.declared.rounds.Refusal.TheVariants as round_cause
use Rattle.store_state.specs.declared.rounds.Round.{Round}
use Rattle.store_state.specs.declared.rounds.Round.TheVariants as round_is
use Rattle.client_run.specs.Answers.{pushed_reply, reclaimed_reply, round_reply}
use Rattle.client_run.specs.CoreRuns.{is_fault}
use Rattle.session_meaning.specs.Act.{Act}
use Rattle.session_meaning.specs.Act.Act.{Ask, Reopen, Unread}
use Rattle.session_meaning.specs.At.{At, IsStep}
use Rattle.session_meaning.specs.Causes.{is_disk_fault}
use Rattle.session_meaning.specs.Done.{AreDone, IsDone}
use Rattle.session_meaning.specs.LinePlaces.{FaultPlace, OpensNone, StoppedWriting}
use Rattle.session_meaning.specs.Place.{Place}
use Rattle.session_meaning.specs.Rounds.{IsEnded, IsRound, Job, commit_of, drop_of, given}
use Rattle.session_meaning.specs.Rounds.{IsEnded as ended, IsRound as round_of}
use Rattle.session_meaning.specs.Rounds.Job.{OfBlocks, OfRows}
use Rattle.session_meaning.specs.Session.{IsAnsweredOrRefused}
use Rattle.session_meaning.proofs.Steps.{happens_writes, read_only, rose_from, two}

-- ---- one event

if_writes : (o : Option ℕ) (later : Option reply) → if_read_only o later ≡ None → o ≡ None
if_writes None later e = refl
if_writes (Some n) later e = let bad : ⊥ = cc in absurd bad

-- An event that writes, and whose reply isn't sure, is one of a store that writes.
first_writes : (m : Machine) (e : event) → early m e ≡ None → writes m.state e ≡ true → m.read_only ≡ None
first_writes m (Push spans moment) none does = if_writes m.read_only _ none
first_writes m BeginFlush none does = if_writes m.read_only _ none
first_writes m BeginCompact none does = if_writes m.read_only _ none
first_writes m (WritePiece job file bytes) none does = if_writes m.read_only _ none
first_writes m (CommitFlush job size) none does = if_writes m.read_only _ none
first_writes m (CommitCompact job size) none does = if_writes m.read_only _ none
first_writes m Reclaim none does = if_writes m.read_only _ none
first_writes m _ none does = let bad : ⊥ = cc in absurd bad

-- What an event did that was refused since a write failed: the store wrote until then, and tells the count from then on.
record Broke (before : At) (r : reply) (after : At) : Type 0 where
  is : r ≡ reply.Refused cause.Fault
  wrote : before.machine.read_only ≡ None
  rose : Rose before.faults after.faults
  tells : after.machine.read_only ≡ Some after.faults

step_breaks : (before after : At) (e : event) (r : reply) → Step before.faults after.faults before.machine e r after.machine
    → (after.machine.read_only ≡ before.machine.read_only) ⊎ Broke before r after
step_breaks before after e r (Sure told same) = inl (ap read_only same)
step_breaks before after e r (Succeeds none done) = inl (happens_writes before.machine after.machine e r done)
step_breaks before after e r (Lacks none takes told same) = inl (ap read_only same)
step_breaks before after e r (Misread reads told rose same) = inl (ap read_only same)
step_breaks before after e r (Breaks none does told rose same) =
    inr (record { is = told; wrote = first_writes before.machine e none does; rose = rose; tells = ap read_only same })
step_breaks before after e r (Halts none reclaims does told rose emptied fewer same) =
    inr (record { is = told; wrote = first_writes before.machine e none does; rose = rose; tells = ap read_only same })

-- one that isn't refused so leaves it
quiet_step : (before after : At) (e : event) (r : reply) → is_fault r ≡ false → IsStep before e r after → after.machine.read_only ≡ before.machine.read_only
quiet_step before after e r none step = elim (step_breaks before after e r step.1) [
  | inl same ↦ same
  | inr broke ↦ (let is : is_fault r ≡ true = ap is_fault broke.is in let bad : ⊥ = cc in absurd bad)
]

-- ---- a round

given_quiet : (job : Job) → is_fault (given job) ≡ false
given_quiet (OfRows job) = refl
given_quiet (OfBlocks job) = refl

begin_blames : (w : BeginError) → reply.Refused (begin_refusal w) ≡ reply.Refused cause.Fault → begin_cause w ≡ round_cause.Fault
begin_blames (begin.ReadOnly faults) e = let bad : ⊥ = cc in absurd bad
begin_blames (begin.Busy job) e = let bad : ⊥ = cc in absurd bad
begin_blames (begin.FilesSpent next) e = let bad : ⊥ = cc in absurd bad
begin_blames begin.Fault e = refl
begin_blames begin.Memory e = let bad : ⊥ = cc in absurd bad

-- the refusal of a round in which a call of the disk failed
abbrev round_fault : Refusal
round_fault = told_as.Round round_cause.Fault

module _ (before : At) (round : Round) (after : At) where
  abbrev RoundStops : Type 0
  RoundStops = (after.machine.read_only ≡ before.machine.read_only)
      ⊎ ((round ≡ round_is.Refused round_cause.Fault) × StoppedWriting before round_fault after.faults after)

  -- by a write that failed, and what came after it
  broke_there : (made broken : At) (r : reply) → made.machine.read_only ≡ before.machine.read_only → before.faults ≤ made.faults → Broke made r broken
      → after.machine.read_only ≡ broken.machine.read_only → after.faults ≡ broken.faults → StoppedWriting before round_fault after.faults after
  broke_there made broken r same earlier broke kept count = record {
    wrote = sym same ∙ broke.wrote;
    fault = refl;
    rose = subst (λ (n : ℕ). Rose before.faults n) (sym count) (rose_from before.faults made.faults broken.faults earlier broke.rose);
    count = refl;
    tells = kept ∙ broke.tells ∙ ap (λ (n : ℕ). Some n) (sym count);
  }

  by_ended : (job : Job) (at : At) → at.machine.read_only ≡ before.machine.read_only → before.faults ≤ at.faults → IsEnded job at round after → RoundStops
  by_ended job at same earlier (ended.listed size written sized still step is) =
      inl (quiet_step written after (commit_of job size) reply.Fine refl step ∙ ap read_only still.0 ∙ same)
  by_ended job at same earlier (ended.unlisted size written sized still step is) = elim (step_breaks written after (commit_of job size) (reply.Refused cause.Fault) step.1) [
    | inl kept ↦ inl (kept ∙ ap read_only still.0 ∙ same)
    | inr broke ↦ inr (
      is,
      broke_there written after (reply.Refused cause.Fault) (ap read_only still.0 ∙ same) (two before.faults at.faults written.faults earlier still.1) broke refl refl,
    )
  ]
  by_ended job at same earlier (ended.failed e made broken works still step gone is) = elim (step_breaks made broken e (reply.Refused cause.Fault) step.1) [
    | inl kept ↦ inl (quiet_step broken after (drop_of job) reply.Fine refl gone ∙ kept ∙ ap read_only still.0 ∙ same)
    | inr broke ↦ inr (
      is,
      broke_there made broken (reply.Refused cause.Fault) (ap read_only still.0 ∙ same) (two before.faults at.faults made.faults earlier still.1) broke
          (quiet_step broken after (drop_of job) reply.Fine refl gone) gone.2,
    )
  ]
  by_ended job at same earlier (ended.given_up w made for still gone is) =
      inl (quiet_step made after (drop_of job) reply.Fine refl gone ∙ ap read_only still.0 ∙ same)

  by_round : (begins : event) → IsRound begins before round after → RoundStops
  by_round begins (round_of.nothing step is) = inl (quiet_step before after begins reply.Nothing refl step)
  by_round begins (round_of.no_job w step is) = elim (step_breaks before after begins (reply.Refused (begin_refusal w)) step.1) [
    | inl same ↦ inl same
    | inr broke ↦ inr (
      is ∙ ap (λ (c : Cause). round_is.Refused c) (begin_blames w broke.is),
      broke_there before after (reply.Refused (begin_refusal w)) refl (omega arith) broke refl refl,
    )
  ]
  by_round begins (round_of.job job at step ends) = by_ended job at (quiet_step before at begins (given job) (given_quiet job) step) step.0 ends

-- ---- one line

-- It left whether the store writes; or it stopped it, and was told so.
abbrev LineStops : At → Reply → At → Type 0
LineStops before r after =
    (after.machine.read_only ≡ before.machine.read_only) ⊎ ((why : Refusal) × (r ≡ Refused why) × StoppedWriting before why after.faults after)

-- a reply that tells of a fault
abbrev Blames : Reply → Type 0
Blames r = (why : Refusal) × (r ≡ Refused why) × (is_disk_fault why ≡ true)

of_step : (before after : At) (e : event) (x : reply) (r : Reply) → (x ≡ reply.Refused cause.Fault → Blames r) → IsStep before e x after → LineStops before r after
of_step before after e x r blames step = go (step_breaks before after e x step.1)
  where
    told_so : Broke before x after → Blames r → LineStops before r after
    told_so broke (why, is, fault) = inr (why, is, record { wrote = broke.wrote; fault = fault; rose = broke.rose; count = refl; tells = broke.tells })

    go : (after.machine.read_only ≡ before.machine.read_only) ⊎ Broke before x after → LineStops before r after
    go (inl same) = inl same
    go (inr broke) = told_so broke (blames broke.is)

of_round : (did : ℕ → ℕ → Reply) (nothing : Reply) (before after : At) (round : Round) (r : Reply) → r ≡ round_reply did nothing round → RoundStops before round after
    → LineStops before r after
of_round did nothing before after round r is (inl same) = inl same
of_round did nothing before after round r is (inr (fault, stopped)) = inr (round_fault, is ∙ ap (round_reply did nothing) fault, stopped)

push_blames : (reading : Reading) (answer : Result ℕ PushError) (r : Reply) → r ≡ pushed_reply reading answer → push_reply answer ≡ reply.Refused cause.Fault → Blames r
push_blames reading (Ok n) r is e = let bad : ⊥ = cc in absurd bad
push_blames reading (Err (push.LiveFull held)) r is e = let bad : ⊥ = cc in absurd bad
push_blames reading (Err (push.StoreFull pushes)) r is e = let bad : ⊥ = cc in absurd bad
push_blames reading (Err (push.ReadOnly faults)) r is e = let bad : ⊥ = cc in absurd bad
push_blames reading (Err push.Fault) r is e = (told_as.DiskFault, is, refl)
push_blames reading (Err push.Memory) r is e = let bad : ⊥ = cc in absurd bad

reclaim_blames : (answer : Result ℕ ReclaimError) (r : Reply) → r ≡ reclaimed_reply answer → reclaim_reply answer ≡ reply.Refused cause.Fault → Blames r
reclaim_blames (Ok n) r is e = let bad : ⊥ = cc in absurd bad
reclaim_blames (Err (reclaim.ReadOnly faults)) r is e = let bad : ⊥ = cc in absurd bad
reclaim_blames (Err reclaim.Fault) r is e = (told_as.DiskFault, is, refl)
reclaim_blames (Err reclaim.Memory) r is e = let bad : ⊥ = cc in absurd bad

count_quiet : (answer : Result ℕ Memory) → is_fault (count_reply answer) ≡ false
count_quiet (Ok n) = refl
count_quiet (Err e) = refl

line_stops : (told : Bool) (item : Item) (before after : At) (r : Reply) → IsAnsweredOrRefused told item before r after → LineStops before r after
line_stops told (Ok (request.Push reading moment)) before after r (inl (answer, is, step)) =
    of_step before after (Push reading.batch.spans moment) (push_reply answer) r (push_blames reading answer r is) step
line_stops told (Ok (request.Push reading moment)) before after r (inr bad) = absurd bad
line_stops told (Ok (request.Trace id)) before after r (inl (rows, found, is, still)) = inl (ap read_only still.0)
line_stops told (Ok (request.Trace id)) before after r (inr (why, is, holds, still)) = inl (ap read_only still.0)
line_stops told (Ok (request.Search s)) before after r (inl (results, found, is, still)) = inl (ap read_only still.0)
line_stops told (Ok (request.Search s)) before after r (inr (why, is, holds, still)) = inl (ap read_only still.0)
line_stops told (Ok (request.Metrics m)) before after r (inl (results, series, found, are, is, still)) = inl (ap read_only still.0)
line_stops told (Ok (request.Metrics m)) before after r (inr (why, is, holds, still)) = inl (ap read_only still.0)
line_stops told (Ok (request.Cut moment)) before after r (inl (answer, is, step)) = inl (quiet_step before after (Cut moment) (count_reply answer) (count_quiet answer) step)
line_stops told (Ok (request.Cut moment)) before after r (inr bad) = absurd bad
line_stops told (Ok request.CutAll) before after r (inl (answer, is, step)) = inl (quiet_step before after CutAll (count_reply answer) (count_quiet answer) step)
line_stops told (Ok request.CutAll) before after r (inr bad) = absurd bad
line_stops told (Ok request.Flush) before after r (inl (round, is, flushed)) =
    of_round (λ blocks rows. Flushed rows) NothingFlushed before after round r is (by_round before round after BeginFlush flushed)
line_stops told (Ok request.Flush) before after r (inr bad) = absurd bad
line_stops told (Ok request.Compact) before after r (inl (round, is, compacted)) =
    of_round Compacted NothingCompacted before after round r is (by_round before round after BeginCompact compacted.0)
line_stops told (Ok request.Compact) before after r (inr bad) = absurd bad
line_stops told (Ok request.Reclaim) before after r (inl (answer, is, step)) =
    of_step before after Reclaim (reclaim_reply answer) r (reclaim_blames answer r is) step
line_stops told (Ok request.Reclaim) before after r (inr bad) = absurd bad
line_stops told (Err why) before after r (inl (is, same)) = inl (ap (λ (at : At). at.machine.read_only) same)
line_stops told (Err why) before after r (inr bad) = absurd bad

-- ---- lines one after another

same_count : (a b : ℕ) → Some a ≡ Some b → a ≡ b
same_count a b e = cc

-- It told this count at first, and none was opened since; or one of these lines stopped it.
abbrev Since : Bool → Place → List Act → List Reply → Place → ℕ → Type 0
Since told first acts replies last faults =
    ((first.store.machine.read_only ≡ Some faults) × OpensNone acts replies) ⊎ FaultPlace told first acts replies last faults

stopped_here : (told : Bool) (item : Item) (first mid : Place) (r : Reply) (more : List Act) (rs : List Reply) (last : Place) (faults : ℕ) (why : Refusal) → r ≡ Refused why
    → IsDone told (Ask item) first r mid → AreDone told mid more rs last → mid.store.machine.read_only ≡ Some faults → OpensNone more rs
    → StoppedWriting first.store why mid.store.faults mid.store → FaultPlace told first (Ask item ∷ more) (r ∷ rs) last faults
stopped_here told item first mid r more rs last faults why is done on tells none stopped = record {
  front = [];
  earlier = [];
  item = item;
  why = why;
  back = more;
  later = rs;
  acts_are = refl;
  replies_are = ap (λ (x : Reply). x ∷ rs) is;
  place = record { before = first; after = mid; led = (refl, refl); done = subst (λ (x : Reply). IsDone told (Ask item) first x mid) is done; goes_on = on };
  stopped = subst (λ (n : ℕ). StoppedWriting first.store why n mid.store) (same_count mid.store.faults faults (sym stopped.tells ∙ tells)) stopped;
  none_opened = none;
}

here : (told : Bool) (act : Act) (first mid : Place) (r : Reply) (more : List Act) (rs : List Reply) (last : Place) (faults : ℕ) → IsDone told act first r mid
    → AreDone told mid more rs last → mid.store.machine.read_only ≡ Some faults → OpensNone more rs → Since told first (act ∷ more) (r ∷ rs) last faults
here told (Ask item) first mid r more rs last faults done on tells none = by_line (line_stops told item first.store mid.store r done.1)
  where
    by_line : LineStops first.store r mid.store → Since told first (Ask item ∷ more) (r ∷ rs) last faults
    by_line (inl same) = inl (sym same ∙ tells, none)
    by_line (inr (why, is, stopped)) = inr (stopped_here told item first mid r more rs last faults why is done on tells none stopped)
here told (Reopen moment) first mid (Reopened entries) more rs last faults done on tells none =
    let writes = done.0.begins.writes in let bad : ⊥ = cc in absurd bad
here told (Reopen moment) first mid (Refused why) more rs last faults done on tells none = inl (sym (ap read_only done.1.0) ∙ tells, none)
here told (Reopen moment) first mid _ more rs last faults done on tells none = absurd done
here told Unread first mid r more rs last faults done on tells none = inl (sym (ap (λ (p : Place). p.store.machine.read_only) done.2) ∙ tells, none)

-- a line before all others stays before that one
after_one : (told : Bool) (act : Act) (first mid : Place) (r : Reply) (more : List Act) (rs : List Reply) (last : Place) (faults : ℕ) → IsDone told act first r mid
    → FaultPlace told mid more rs last faults → FaultPlace told first (act ∷ more) (r ∷ rs) last faults
after_one told act first mid r more rs last faults done there = record {
  front = act ∷ there.front;
  earlier = r ∷ there.earlier;
  item = there.item;
  why = there.why;
  back = there.back;
  later = there.later;
  acts_are = ap (λ (xs : List Act). act ∷ xs) there.acts_are;
  replies_are = ap (λ (xs : List Reply). r ∷ xs) there.replies_are;
  place = record {
    before = there.place.before;
    after = there.place.after;
    led = (mid, done, there.place.led);
    done = there.place.done;
    goes_on = there.place.goes_on;
  };
  stopped = there.stopped;
  none_opened = there.none_opened;
}

since : (told : Bool) (acts : List Act) (replies : List Reply) (first last : Place) (faults : ℕ) → AreDone told first acts replies last
    → last.store.machine.read_only ≡ Some faults → Since told first acts replies last faults
since told [] replies first last faults h tells = inl (sym (ap (λ (p : Place). p.store.machine.read_only) h.1) ∙ tells, tt)
since told (a ∷ more) [] first last faults h tells = absurd h
since told (a ∷ more) (r ∷ rs) first last faults h tells = go (since told more rs h.0 last faults h.2 tells)
  where
    go : Since told h.0 more rs last faults → Since told first (a ∷ more) (r ∷ rs) last faults
    go (inl (is, none)) = here told a first h.0 r more rs last faults h.1 h.2 is none
    go (inr there) = inr (after_one told a first h.0 r more rs last faults h.1 there)

pub fault_placed : (told : Bool) (acts : List Act) (replies : List Reply) (first last : Place) (faults : ℕ) → AreDone told first acts replies last
    → first.store.machine.read_only ≡ None → last.store.machine.read_only ≡ Some faults → FaultPlace told first acts replies last faults
fault_placed told acts replies first last faults h writes tells = go (since told acts replies first last faults h tells)
  where
    go : Since told first acts replies last faults → FaultPlace told first acts replies last faults
    go (inl (is, none)) = let bad : ⊥ = cc in absurd bad
    go (inr there) = there
