-- As many replies of a session tell of a fault of the disk as calls of it failed.
use Rattle.std.proofs.Common.{◌≡◌, inl, inr, ◌∙◌, ℕ, ◌+◌, Bool, true, false, ◌||◌, List, [], ◌∷◌, Result, Ok, Err, arith, if◌then◌else◌, refl, sym, ap, subst}
use Rattle.std.specs.List.{list_any}
use Rattle.span_types.specs.declared.errors.Memory.{Memory}
use Rattle.disk_model.specs.Counts.{RoseBy}
use Rattle.disk_model.proofs.CallRuns.{raised_by}
use Rattle.otlp_spans.specs.declared.read.Reading.{Reading}
use Rattle.session_text.specs.declared.refusal.Refusal.TheVariants as told
use Rattle.session_text.specs.declared.reply.Reply.{Reply}
use Rattle.session_text.specs.declared.reply.Reply.TheVariants.{Cut, CutAll, Refused}
use Rattle.session_text.specs.declared.request.Request.TheVariants as request
use Rattle.session_text.specs.Items.{Item}
use Rattle.store_model.specs.Event.{Event as event, Reply as reply}
use Rattle.store_model.specs.Event.Event.{BeginCompact, BeginFlush}
use Rattle.store_state.specs.Replies.{begin_refusal, count_reply, push_reply, reclaim_reply}
use Rattle.store_state.specs.Rounds.{begin_cause}
use Rattle.store_state.specs.declared.errors.BeginError.{BeginError}
use Rattle.store_state.specs.declared.errors.BeginError.TheVariants as begin
use Rattle.store_state.specs.declared.errors.PushError.{PushError}
use Rattle.store_state.specs.declared.errors.PushError.TheVariants as push
use Rattle.store_state.specs.declared.errors.ReclaimError.{ReclaimError}
use Rattle.store_state.specs.declared.errors.ReclaimError.TheVariants as reclaim
use Rattle.store_state.specs.declared.rounds.Refusal.{Refusal}
use Rattle.store_state.specs.declared.rounds.Refusal.TheVariants as cause
use Rattle.store_state.specs.declared.rounds.Round.{Round}
use Rattle.store_state.specs.declared.rounds.Round.TheVariants as round_is
use Rattle.client_run.specs.Answers.{compact_reply, cut_reply, flush_reply, pushed_reply, reclaimed_reply}
use Rattle.client_run.specs.CoreRuns.{IsCounted, is_fault}
use Rattle.session_meaning.specs.At.{At, IsStep, IsUnchanged}
use Rattle.session_meaning.specs.Causes.{blames_disk, disk_faults, faults_in, is_disk_fault}
use Rattle.session_meaning.specs.Rounds.{IsEnded, IsGivenUpFor, IsRound, Job, given}
use Rattle.session_meaning.specs.Rounds.{IsEnded as ended, IsRound as round_of}
use Rattle.session_meaning.specs.Rounds.Job.{OfBlocks, OfRows}
use Rattle.session_meaning.specs.Session.{IsAnsweredOrRefused, Session}

-- ---- counts

pub rose_none : (a b : ℕ) → b ≡ a → RoseBy 0 a b
rose_none a b same = record { later = omega (arith, same); at_most = omega (arith, same); exact = λ room. omega (arith, same) }

pub rose_then : (m n a b c : ℕ) → RoseBy m a b → RoseBy n b c → RoseBy (m + n) a c
rose_then m n a b c first second =
    let one = first.later in
    let two = second.later in
    let most = first.at_most in
    let more = second.at_most in record {
      later = omega (arith, one, two);
      at_most = omega (arith, most, more);
      exact = λ room. let is = first.exact (omega (arith, room)) in let also = second.exact (omega (arith, room, is)) in omega (arith, is, also);
    }

abbrev number : Bool → ℕ
number failed = if failed then 1 else 0

pub flagged : (failed : Bool) (a b : ℕ) → IsCounted failed a b → RoseBy (number failed) a b
flagged true a b rose = raised_by a b rose
flagged false a b same = rose_none a b same

-- after what leaves the count, and before it
after_still : (n a b c : ℕ) → b ≡ a → RoseBy n b c → RoseBy n a c
after_still n a b c same rose = subst (λ (x : ℕ). RoseBy n x c) same rose

before_still : (n a b c : ℕ) → c ≡ b → RoseBy n a b → RoseBy n a c
before_still n a b c same rose = subst (λ (x : ℕ). RoseBy n a x) (sym same) rose

-- ---- a round

abbrev pub round_faults : Round → ℕ
round_faults (round_is.Did blocks rows) = 0
round_faults round_is.Nothing = 0
round_faults (round_is.Refused w) = number (is_disk_fault (told.Round w))

pub begin_fault : (w : BeginError) → round_faults (round_is.Refused (begin_cause w)) ≡ number (is_fault (reply.Refused (begin_refusal w)))
begin_fault (begin.ReadOnly faults) = refl
begin_fault (begin.Busy job) = refl
begin_fault (begin.FilesSpent next) = refl
begin_fault begin.Fault = refl
begin_fault begin.Memory = refl

given_fault : (job : Job) → is_fault (given job) ≡ false
given_fault (OfRows job) = refl
given_fault (OfBlocks job) = refl

-- no job is given up for a fault but as a call failed
given_up_fault : (job : Job) (w : Refusal) → IsGivenUpFor job w → round_faults (round_is.Refused w) ≡ 0
given_up_fault job (cause.ReadOnly faults) for = refl
given_up_fault job (cause.Busy number) for = refl
given_up_fault job (cause.FilesSpent next) for = refl
given_up_fault job cause.Memory for = refl
given_up_fault job (cause.NotBlock file at) for = refl
given_up_fault (OfRows job) cause.Fault for = absurd for
given_up_fault (OfBlocks job) cause.Fault for = absurd for

module _ (round : Round) where
  abbrev RoundCounts : At → At → Type 0
  RoundCounts before after = RoseBy (round_faults round) before.faults after.faults

  told_so : (n a b : ℕ) (other : Round) → round ≡ other → round_faults other ≡ n → RoseBy n a b → RoseBy (round_faults round) a b
  told_so n a b other is so rose = subst (λ (k : ℕ). RoseBy k a b) (sym (ap round_faults is ∙ so)) rose

  of_ended : (job : Job) (at after : At) → IsEnded job at round after → RoundCounts at after
  of_ended job at after (ended.listed size written sized still step is) =
      told_so 0 at.faults after.faults _ is refl (rose_none at.faults after.faults (step.2 ∙ still.2))
  of_ended job at after (ended.unlisted size written sized still step is) =
      told_so 1 at.faults after.faults _ is refl
      (after_still 1 at.faults written.faults after.faults still.2 (raised_by written.faults after.faults step.2))
  of_ended job at after (ended.failed e made broke works still step gone is) =
      told_so 1 at.faults after.faults _ is refl
      (before_still 1 at.faults broke.faults after.faults gone.2
      (after_still 1 at.faults made.faults broke.faults still.2 (raised_by made.faults broke.faults step.2)))
  of_ended job at after (ended.given_up w made for still gone is) =
      told_so 0 at.faults after.faults _ is (given_up_fault job w for) (rose_none at.faults after.faults (gone.2 ∙ still.2))

  of_round : (begins : event) (before after : At) → IsRound begins before round after → RoundCounts before after
  of_round begins before after (round_of.nothing step is) =
      told_so 0 before.faults after.faults _ is refl (rose_none before.faults after.faults step.2)
  of_round begins before after (round_of.no_job w step is) =
      told_so (number (is_fault (reply.Refused (begin_refusal w)))) before.faults after.faults _ is (begin_fault w)
      (flagged (is_fault (reply.Refused (begin_refusal w))) before.faults after.faults step.2)
  of_round begins before after (round_of.job job at step ends) =
      let same : at.faults ≡ before.faults = subst (λ (failed : Bool). IsCounted failed before.faults at.faults) (given_fault job) step.2 in
      after_still (round_faults round) before.faults at.faults after.faults same (of_ended job at after ends)

pub flush_fault : (round : Round) → faults_in (flush_reply round) ≡ round_faults round
flush_fault (round_is.Did blocks rows) = refl
flush_fault round_is.Nothing = refl
flush_fault (round_is.Refused w) = refl

pub compact_fault : (round : Round) → faults_in (compact_reply round) ≡ round_faults round
compact_fault (round_is.Did blocks rows) = refl
compact_fault round_is.Nothing = refl
compact_fault (round_is.Refused w) = refl

-- ---- other lines

pub push_fault : (reading : Reading) (answer : Result ℕ PushError) → faults_in (pushed_reply reading answer) ≡ number (is_fault (push_reply answer))
push_fault reading (Ok n) = refl
push_fault reading (Err (push.LiveFull held)) = refl
push_fault reading (Err (push.StoreFull pushes)) = refl
push_fault reading (Err (push.ReadOnly faults)) = refl
push_fault reading (Err push.Fault) = refl
push_fault reading (Err push.Memory) = refl

pub reclaim_fault : (answer : Result ℕ ReclaimError) → faults_in (reclaimed_reply answer) ≡ number (is_fault (reclaim_reply answer))
reclaim_fault (Ok n) = refl
reclaim_fault (Err (reclaim.ReadOnly faults)) = refl
reclaim_fault (Err reclaim.Fault) = refl
reclaim_fault (Err reclaim.Memory) = refl

pub cut_fault : (answer : Result ℕ Memory) → faults_in (cut_reply Cut answer) ≡ number (is_fault (count_reply answer))
cut_fault (Ok n) = refl
cut_fault (Err e) = refl

pub cut_all_fault : (answer : Result ℕ Memory) → faults_in (cut_reply CutAll answer) ≡ number (is_fault (count_reply answer))
cut_all_fault (Ok n) = refl
cut_all_fault (Err e) = refl

module _ (r : Reply) (before after : At) where
  abbrev Counted : Type 0
  Counted = RoseBy (faults_in r) before.faults after.faults

  as_told : (n : ℕ) (other : Reply) → r ≡ other → faults_in other ≡ n → RoseBy n before.faults after.faults → Counted
  as_told n other is so rose = subst (λ (k : ℕ). RoseBy k before.faults after.faults) (sym (ap faults_in is ∙ so)) rose

  by_step : (e : event) (x : reply) (other : Reply) → r ≡ other → faults_in other ≡ number (is_fault x) → IsStep before e x after → Counted
  by_step e x other is so step = as_told (number (is_fault x)) other is so (flagged (is_fault x) before.faults after.faults step.2)

  -- a reply that tells of a fault or of none, where nothing else changes
  by_still : (failed : Bool) (other : Reply) → r ≡ other → faults_in other ≡ number failed → IsUnchanged failed before after → Counted
  by_still failed other is so still = as_told (number failed) other is so (flagged failed before.faults after.faults still.2)

  pub item_counts : (sure : Bool) (item : Item) → IsAnsweredOrRefused sure item before r after → blames_disk item ≡ false → Counted
  item_counts sure (Ok (request.Push reading moment)) (inl (answer, is, step)) none =
      by_step (event.Push reading.batch.spans moment) (push_reply answer) (pushed_reply reading answer) is (push_fault reading answer) step
  item_counts sure (Ok (request.Push reading moment)) (inr bad) none = absurd bad
  item_counts sure (Ok (request.Trace id)) (inl (rows, found, is, still)) none = by_still false _ is refl still
  item_counts sure (Ok (request.Trace id)) (inr (w, is, holds, still)) none = by_still (is_disk_fault w) (Refused w) is refl still
  item_counts sure (Ok (request.Search s)) (inl (results, found, is, still)) none = by_still false _ is refl still
  item_counts sure (Ok (request.Search s)) (inr (w, is, holds, still)) none = by_still (is_disk_fault w) (Refused w) is refl still
  item_counts sure (Ok (request.Metrics m)) (inl (results, series, found, are, is, still)) none = by_still false _ is refl still
  item_counts sure (Ok (request.Metrics m)) (inr (w, is, holds, still)) none = by_still (is_disk_fault w) (Refused w) is refl still
  item_counts sure (Ok (request.Cut moment)) (inl (answer, is, step)) none =
      by_step (event.Cut moment) (count_reply answer) (cut_reply Cut answer) is (cut_fault answer) step
  item_counts sure (Ok (request.Cut moment)) (inr bad) none = absurd bad
  item_counts sure (Ok request.CutAll) (inl (answer, is, step)) none =
      by_step event.CutAll (count_reply answer) (cut_reply CutAll answer) is (cut_all_fault answer) step
  item_counts sure (Ok request.CutAll) (inr bad) none = absurd bad
  item_counts sure (Ok request.Flush) (inl (round, is, flushed)) none =
      as_told (round_faults round) (flush_reply round) is (flush_fault round) (of_round round BeginFlush before after flushed)
  item_counts sure (Ok request.Flush) (inr bad) none = absurd bad
  item_counts sure (Ok request.Compact) (inl (round, is, compacted)) none =
      as_told (round_faults round) (compact_reply round) is (compact_fault round) (of_round round BeginCompact before after compacted.0)
  item_counts sure (Ok request.Compact) (inr bad) none = absurd bad
  item_counts sure (Ok request.Reclaim) (inl (answer, is, step)) none =
      by_step event.Reclaim (reclaim_reply answer) (reclaimed_reply answer) is (reclaim_fault answer) step
  item_counts sure (Ok request.Reclaim) (inr bad) none = absurd bad
  item_counts sure (Err w) (inl (is, same)) none =
      as_told 0 (Refused w) is (ap number none) (rose_none before.faults after.faults (ap (λ (at : At). at.faults) same))
  item_counts sure (Err w) (inr bad) none = absurd bad

-- ---- a session

pub both_none : (a b : Bool) → (a || b) ≡ false → (a ≡ false) × (b ≡ false)
both_none true b e = let bad : ⊥ = cc in absurd bad
both_none false b e = (refl, e)

pub session_counts : (sure : Bool) (items : List Item) (replies : List Reply) (first last : At) → Session sure first items replies last
    → list_any blames_disk items ≡ false → RoseBy (disk_faults replies) first.faults last.faults
session_counts sure [] replies first last h none =
    subst (λ (rs : List Reply). RoseBy (disk_faults rs) first.faults last.faults) (sym h.0)
    (rose_none first.faults last.faults (ap (λ (at : At). at.faults) h.1))
session_counts sure (i ∷ is) [] first last h none = absurd h
session_counts sure (i ∷ is) (r ∷ rs) first last h none =
    let parts = both_none (blames_disk i) (list_any blames_disk is) none in
    rose_then (faults_in r) (disk_faults rs) first.faults h.0.faults last.faults
    (item_counts r first h.0 sure i h.1 parts.0)
    (session_counts sure is rs h.0 last h.2 parts.1)
