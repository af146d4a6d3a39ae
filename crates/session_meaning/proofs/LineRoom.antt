-- A line for which a store has room is refused for no cause but memory, or its own words, as long as the disk doesn't fail.
use Rattle.std.proofs.Common.{◌≡◌, inl, inr, ◌∙◌, true, false, ℕ, ◌≤◌, List, [], ◌∷◌, ◌++◌, None, Result, Ok, Err, ap, arith, length, refl, sym, subst}
use Rattle.span_types.specs.Faults.{Rose}
use Rattle.disk_model.proofs.CallRuns.{raised_rose}
use Rattle.otlp_spans.specs.declared.read.Reading.{Reading}
use Rattle.command_words.specs.Commands.{Alone, Command, Drill as drill, Ingest as ingest, Serve as serve, Session as session, Spells}
use Rattle.session_text.specs.declared.refusal.Refusal.{Refusal}
use Rattle.session_text.specs.declared.refusal.Refusal.TheVariants.{DiskFault, Memory, NotStore}
use Rattle.session_text.specs.declared.reply.Reply.{Reply}
use Rattle.session_text.specs.declared.reply.Reply.TheVariants.{Compacted, Cut, CutAll, Flushed, NothingCompacted, NothingFlushed, Refused, Reopened}
use Rattle.session_text.specs.declared.request.Request.TheVariants as request
use Rattle.session_text.specs.Items.{Item}
use Rattle.store_model.specs.History.{count_of}
use Rattle.store_model.specs.Step.{Machine}
use Rattle.store_state.specs.Replies.{push_reply, reclaim_reply}
use Rattle.store_state.specs.declared.errors.PushError.{PushError}
use Rattle.client_run.specs.Answers.{pushed_reply}
use Rattle.session_meaning.specs.Act.{Act}
use Rattle.session_meaning.specs.Act.Act.{Ask, Reopen, Unread}
use Rattle.session_meaning.specs.At.{At}
use Rattle.session_meaning.specs.Done.{AreDone, IsDone}
use Rattle.session_meaning.specs.Place.{Place, opened_at}
use Rattle.session_meaning.specs.Pushes.{HasRoomNow, NeedsNoWrite}
use Rattle.session_meaning.specs.Runs.{Edges, GoesWell, HasItsStore, IsRunOf, Outcome}
use Rattle.session_meaning.specs.Session.{IsAnsweredOrRefused, Session, is_refusal, is_refused}
use Rattle.session_meaning.specs.Upkeep.{HasFailedSince, HasNoJob}
use Rattle.session_meaning.proofs.AnswerLaws.{session_closes}
use Rattle.session_meaning.proofs.CompactLaws.{compaction_without_faults}
use Rattle.session_meaning.proofs.FlushLaws.{flush_without_faults}
use Rattle.session_meaning.proofs.ReadOnly.{session_fails}
use Rattle.session_meaning.proofs.ReclaimLaws.{reclaim_room}
use Rattle.session_meaning.proofs.Room.{IsPlain, Taken, count_plain, cut_plain, query_plain, reclaim_plain, round_plain, session_later, starved_plain, taken, unsure}
use Rattle.session_meaning.proofs.Room.Taken.{kept, starved}
use Rattle.session_meaning.proofs.Steps.{rose_from, rose_to}

-- ---- one line

-- It writes, and no job is open.
pub record IsIdle (m : Machine) : Type 0 where
  pub writes : m.read_only ≡ None
  pub closed : HasNoJob m

pub push_plain : (reading : Reading) (moment : ℕ) (answer : Result ℕ PushError) (m m' : Machine) → Taken reading.batch.spans moment m (push_reply answer) m' → IsPlain (pushed_reply reading answer)
push_plain reading moment answer m m' (kept told history writes rows files closed) = count_plain reading answer (count_of m.history) told
push_plain reading moment answer m m' (starved told same) = starved_plain reading answer told

-- A query and a cut, and a line that asks nothing, need no store that writes.
pub line_without_write : (item : Item) (before after : At) (r : Reply) → IsAnsweredOrRefused true item before r after → (Rose before.faults after.faults → ⊥)
    → NeedsNoWrite item → is_refusal r ≡ is_refused item
line_without_write (Ok (request.Trace id)) before after r (inl (rows, found, is, still)) well needs = ap is_refusal is
line_without_write (Ok (request.Trace id)) before after r (inr (why, is, cause, still)) well needs = ap is_refusal is ∙ query_plain why before after cause well
line_without_write (Ok (request.Search s)) before after r (inl (results, found, is, still)) well needs = ap is_refusal is
line_without_write (Ok (request.Search s)) before after r (inr (why, is, cause, still)) well needs = ap is_refusal is ∙ query_plain why before after cause well
line_without_write (Ok (request.Metrics m)) before after r (inl (results, series, found, are, is, still)) well needs = ap is_refusal is
line_without_write (Ok (request.Metrics m)) before after r (inr (why, is, cause, still)) well needs = ap is_refusal is ∙ query_plain why before after cause well
line_without_write (Ok (request.Cut moment)) before after r (inl (answer, is, step)) well needs = ap is_refusal is ∙ cut_plain Cut answer (λ moved. refl)
line_without_write (Ok (request.Cut moment)) before after r (inr bad) well needs = absurd bad
line_without_write (Ok request.CutAll) before after r (inl (answer, is, step)) well needs = ap is_refusal is ∙ cut_plain CutAll answer (λ moved. refl)
line_without_write (Ok request.CutAll) before after r (inr bad) well needs = absurd bad
line_without_write (Err why) before after r (inl (is, same)) well needs = ap is_refusal is
line_without_write (Err why) before after r (inr bad) well needs = absurd bad
line_without_write (Ok (request.Push reading moment)) before after r is well bad = absurd bad
line_without_write (Ok request.Flush) before after r is well bad = absurd bad
line_without_write (Ok request.Compact) before after r is well bad = absurd bad
line_without_write (Ok request.Reclaim) before after r is well bad = absurd bad

pub line_with_room : (item : Item) (before after : At) (r : Reply) → IsAnsweredOrRefused true item before r after → (Rose before.faults after.faults → ⊥) → before.machine.read_only ≡ None
    → HasNoJob before.machine → HasRoomNow item before.machine → is_refusal r ≡ is_refused item
line_with_room (Ok (request.Push reading moment)) before after r (inl (answer, is, step)) well writes closed room =
    let spans = reading.batch.spans in
    let early = unsure before.machine spans moment writes (let count = room.0 in omega (arith, count)) room.1 in
    subst IsPlain (sym is) (push_plain reading moment answer before.machine after.machine
    (taken before.faults after.faults before.machine after.machine spans moment (push_reply answer) early well step.1))
line_with_room (Ok (request.Push reading moment)) before after r (inr bad) well writes closed room = absurd bad
line_with_room (Ok request.Flush) before after r (inl (round, is, flushed)) well writes closed room =
    let on = flush_without_faults before round after flushed well writes (λ again. closed) room in
    subst IsPlain (sym is) (round_plain (λ blocks rows. Flushed rows) NothingFlushed round (λ blocks rows. refl) refl on.0)
line_with_room (Ok request.Flush) before after r (inr bad) well writes closed room = absurd bad
line_with_room (Ok request.Compact) before after r (inl (round, is, compacted)) well writes closed room =
    let on = compaction_without_faults before round after compacted well writes (λ again. closed) room in
    subst IsPlain (sym is) (round_plain Compacted NothingCompacted round (λ blocks rows. refl) refl on.0)
line_with_room (Ok request.Compact) before after r (inr bad) well writes closed room = absurd bad
line_with_room (Ok request.Reclaim) before after r (inl (answer, is, step)) well writes closed room =
    let on = reclaim_room before.faults after.faults before.machine after.machine (reclaim_reply answer) well writes step.1 in
    subst IsPlain (sym is) (reclaim_plain answer on.0)
line_with_room (Ok request.Reclaim) before after r (inr bad) well writes closed room = absurd bad
line_with_room (Ok (request.Trace id)) before after r is well writes closed room = line_without_write (Ok (request.Trace id)) before after r is well tt
line_with_room (Ok (request.Search s)) before after r is well writes closed room = line_without_write (Ok (request.Search s)) before after r is well tt
line_with_room (Ok (request.Metrics m)) before after r is well writes closed room = line_without_write (Ok (request.Metrics m)) before after r is well tt
line_with_room (Ok (request.Cut moment)) before after r is well writes closed room = line_without_write (Ok (request.Cut moment)) before after r is well tt
line_with_room (Ok request.CutAll) before after r is well writes closed room = line_without_write (Ok request.CutAll) before after r is well tt
line_with_room (Err why) before after r is well writes closed room = line_without_write (Err why) before after r is well tt

-- ---- lines one after another

one_session : (item : Item) (before after : Place) (r : Reply) → IsDone true (Ask item) before r after → Session true before.store (item ∷ []) (r ∷ []) after.store
one_session item before after r h = (after.store, h.1, (refl, refl))

pub one_later : (act : Act) (before after : Place) (r : Reply) → IsDone true act before r after → before.store.faults ≤ after.store.faults
one_later (Ask item) before after r h = session_later true (item ∷ []) (r ∷ []) before.store after.store (one_session item before after r h)
one_later (Reopen moment) before after (Reopened entries) h = let same = h.0.faults in omega (arith, same)
one_later (Reopen moment) before after (Refused why) h = h.1.1
one_later (Reopen moment) before after _ h = absurd h
one_later Unread before after r h = let same = ap (λ (p : Place). p.store.faults) h.2 in omega (arith, same)

pub acts_later : (acts : List Act) (replies : List Reply) (first last : Place) → AreDone true first acts replies last → first.store.faults ≤ last.store.faults
acts_later [] replies first last h = let same = ap (λ (p : Place). p.store.faults) h.1 in omega (arith, same)
acts_later (a ∷ more) [] first last h = absurd h
acts_later (a ∷ more) (r ∷ rs) first last h =
    let here = one_later a first h.0 r h.1 in
    let rest = acts_later more rs h.0 last h.2 in omega (arith, here, rest)

-- It goes on to write, with no job open, where no call fails.
pub one_idle : (act : Act) (before after : Place) (r : Reply) → IsDone true act before r after → (Rose before.store.faults after.store.faults → ⊥) → IsIdle before.store.machine
    → IsIdle after.store.machine
one_idle (Ask item) before after r h well idle = of_writing (by_since (session_fails true (item ∷ []) (r ∷ []) before.store after.store (one_session item before after r h) idle.writes))
  where
    by_since : HasFailedSince before.store.faults after.store → after.store.machine.read_only ≡ None
    by_since (inl writes) = writes
    by_since (inr (n, is, rose, within)) = absurd (well (rose_to before.store.faults n after.store.faults rose within))

    of_writing : after.store.machine.read_only ≡ None → IsIdle after.store.machine
    of_writing writes = record {
      writes = writes;
      closed = session_closes true (item ∷ []) (r ∷ []) before.store after.store (one_session item before after r h) (λ again. idle.closed) writes;
    }
one_idle (Reopen moment) before after (Reopened entries) h well idle =
    let begins = h.0.begins in
    record { writes = begins.writes; closed = record { flush = begins.flush; compaction = begins.compaction } }
one_idle (Reopen moment) before after (Refused why) h well idle = subst IsIdle (sym h.1.0) idle
one_idle (Reopen moment) before after _ h well idle = absurd h
one_idle Unread before after r h well idle = subst (λ (p : Place). IsIdle p.store.machine) (sym h.2) idle

lines_with_room : (front back : List Act) (item : Item) (earlier later : List Reply) (reply : Reply) (first last : Place) → length front ≡ length earlier
    → AreDone true first (front ++ Ask item ∷ back) (earlier ++ reply ∷ later) last → (Rose first.store.faults last.store.faults → ⊥) → IsIdle first.store.machine
    → (at : Place) × AreDone true first front earlier at × (at.is_open ≡ true)
    × (HasRoomNow item at.store.machine → is_refusal reply ≡ is_refused item)
lines_with_room [] back item [] later reply first last as_many h well idle = (
  first,
  (refl, refl),
  h.1.0,
  λ room. line_with_room item first.store h.0.store reply h.1.1
      (λ rose. well (rose_to first.store.faults h.0.store.faults last.store.faults rose (acts_later back later h.0 last h.2)))
      idle.writes idle.closed room,
)
lines_with_room [] back item (r ∷ earlier) later reply first last as_many h well idle = let bad : ⊥ = omega (arith, as_many) in absurd bad
lines_with_room (a ∷ front) back item [] later reply first last as_many h well idle = let bad : ⊥ = omega (arith, as_many) in absurd bad
lines_with_room (a ∷ front) back item (r ∷ earlier) later reply first last as_many h well idle =
    let mid = h.0 in
    let rest = acts_later (front ++ Ask item ∷ back) (earlier ++ reply ∷ later) mid last h.2 in
    let on = one_idle a first mid r h.1 (λ rose. well (rose_to first.store.faults mid.store.faults last.store.faults rose rest)) idle in
    let so = lines_with_room front back item earlier later reply mid last (omega (arith, as_many)) h.2
    (λ rose. well (rose_from first.store.faults mid.store.faults last.store.faults (one_later a first mid r h.1) rose)) on in
    (so.0, (mid, h.1, so.1), so.2, so.3)

pub each_with_room : (front back : List Act) (item : Item) (earlier later : List Reply) (reply : Reply) (first last : Place) → length front ≡ length earlier
    → AreDone true first (front ++ Ask item ∷ back) (earlier ++ reply ∷ later) last → (Rose first.store.faults last.store.faults → ⊥)
    → first.store.machine.read_only ≡ None → HasNoJob first.store.machine
    → (at : Place) × AreDone true first front earlier at × (at.is_open ≡ true)
    × (HasRoomNow item at.store.machine → is_refusal reply ≡ is_refused item)
each_with_room front back item earlier later reply first last as_many h well writes closed =
    lines_with_room front back item earlier later reply first last as_many h well (record { writes = writes; closed = closed })

-- ---- a store that is opened again

pub reopening_without_faults : (moment : ℕ) (before after : Place) (why : Refusal) → IsDone true (Reopen moment) before (Refused why) after
    → (Rose before.store.faults after.store.faults → ⊥) → why ≡ Memory
reopening_without_faults moment before after Memory h quiet = refl
reopening_without_faults moment before after DiskFault h quiet = absurd (quiet (raised_rose before.store.faults after.store.faults h.1.2))
reopening_without_faults moment before after (NotStore file at) h quiet = let bad : true ≡ false = h.0 in cc
reopening_without_faults moment before after _ h quiet = absurd h.0

-- ---- a run

pub its_store : (c : Command) (old new : Edges) → GoesWell c old new → HasItsStore old new
its_store session old new well = well.0
its_store ingest old new well = well.0
its_store (serve clients rounds) old new well = well.0
its_store (drill seed traces) old new well = well.0
its_store (Alone line) old new well = well.0

pub some_act : (front back : List Act) (act : Act) → front ++ act ∷ back ≡ [] → ⊥
some_act [] back act e = let bad : ⊥ = cc in absurd bad
some_act (a ∷ front) back act e = let bad : ⊥ = cc in absurd bad

pub run_with_room : (words : List (List ℕ)) (c : Command) (o : Outcome) (old new : Edges) → Spells words c → IsRunOf true words o old new → GoesWell c old new
    → (front back : List Act) (item : Item) (earlier later : List Reply) (reply : Reply) → o.acts ≡ front ++ Ask item ∷ back → o.replies ≡ earlier ++ reply ∷ later → length front ≡ length earlier
    → (at : Place) × AreDone true (opened_at o.first) front earlier at × (at.is_open ≡ true)
    × (HasRoomNow item at.store.machine → is_refusal reply ≡ is_refused item)
run_with_room words c o old new spells run well front back item earlier later reply acts replies as_many = elim (run.does c spells) [
  | inl did ↦
      (let has = did.1 in
      let begins = has.begins in
      let quiet : Rose o.first.faults o.last.store.faults → ⊥ = λ rose. (its_store c old new well).3
      (subst (λ (n : ℕ). Rose n new.disk_faults) has.first_faults (subst (λ (n : ℕ). Rose o.first.faults n) has.last_faults rose)) in
      each_with_room front back item earlier later reply (opened_at o.first) o.last as_many
      (subst (λ (as_done : List Act). AreDone true (opened_at o.first) as_done (earlier ++ reply ∷ later) o.last) acts
      (subst (λ (rs : List Reply). AreDone true (opened_at o.first) o.acts rs o.last) replies run.session))
      quiet begins.writes (record { flush = begins.flush; compaction = begins.compaction }))
  | inr not ↦ absurd (some_act front back (Ask item) (sym acts ∙ not.1.no_acts))
]
