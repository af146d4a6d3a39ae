-- A store that has room refuses nothing but for memory, as long as its disk doesn't fail.
use Rattle.std.proofs.Common.{rules, ◌≡◌, ◌⊎◌, inl, inr, ◌∙◌, ℕ, ◌+◌, ◌*◌, ◌<◌, ◌≤◌, ◌||◌, suc, nat_le, nat_lt, Bool, true, false, List, [], ◌∷◌, ◌++◌, Option, None, Result, Ok, Err, ap, arith, length, length-append, refl, sym, subst}
use Rattle.std.specs.List.{list_any}
use Rattle.std.proofs.lemmas.List.{length-map}
use Rattle.span_types.specs.Faults.{Rose}
use Rattle.span_types.specs.declared.spans.Span.{Span}
use Rattle.span_types.specs.declared.spans.Row.{Row}
use Rattle.otlp_spans.specs.declared.read.Reading.{Reading}
use Rattle.session_text.specs.declared.refusal.Refusal.{Refusal}
use Rattle.session_text.specs.declared.refusal.Refusal.TheVariants as refusal
use Rattle.session_text.specs.declared.reply.Reply.{Reply}
use Rattle.session_text.specs.declared.reply.Reply.TheVariants.{Compacted, Cut, CutAll, Flushed, NothingCompacted, NothingFlushed}
use Rattle.session_text.specs.declared.request.Request.TheVariants as request
use Rattle.session_text.specs.Items.{Item}
use Rattle.store_model.specs.After.{arrived}
use Rattle.store_model.specs.Event.{Reply as reply, Refusal as cause}
use Rattle.store_model.specs.Event.Event.{BeginCompact, BeginFlush, Push}
use Rattle.store_model.specs.Event.Reply.{Count, Refused}
use Rattle.store_model.specs.History.{batch_rows, count_of, pushed, rows_at}
use Rattle.store_model.specs.State.{State, flush_rows, held_of}
use Rattle.store_model.specs.Step.{Machine, Step, early, if_full, if_read_only, if_test}
use Rattle.store_model.specs.Step.Step.{Sure, Succeeds, Lacks, Unread, Breaks, Halts}
use Rattle.store_images.proofs.Growing.{count_of-pushed}
use Rattle.store_state.specs.Replies.{count_reply, push_refusal, push_reply, reclaim_refusal, reclaim_reply}
use Rattle.store_state.specs.declared.errors.PushError.{PushError}
use Rattle.store_state.specs.declared.errors.PushError.TheVariants as push
use Rattle.store_state.specs.declared.errors.ReclaimError.{ReclaimError}
use Rattle.store_state.specs.declared.errors.ReclaimError.TheVariants as reclaim
use Rattle.span_types.specs.declared.errors.Memory.{Memory}
use Rattle.store_model.specs.Cut.{is_idle}
use Rattle.store_state.specs.declared.rounds.Refusal.TheVariants as round_refusal
use Rattle.store_state.specs.declared.rounds.Round.{Round}
use Rattle.store_state.specs.declared.rounds.Round.TheVariants.{Did, Nothing, Refused as RoundRefused}
use Rattle.client_run.specs.Answers.{compact_reply, cut_reply, flush_reply, pushed_reply, reclaimed_reply, round_reply}
use Rattle.session_meaning.specs.Causes.{HasQueryCause}
use Rattle.session_meaning.specs.Rounds.{IsCompacted, IsDoneOrStarved, IsFlushed}
use Rattle.session_meaning.specs.Upkeep.{HasNoJob}
use Rattle.session_meaning.specs.Pushes.{HasRoomFor, rounds_in}
use Rattle.session_meaning.specs.At.{At}
use Rattle.session_meaning.specs.Session.{IsAnsweredOrRefused, Session, is_for_other, is_refusal, is_refused}
use Rattle.session_meaning.proofs.CutLaws.{cut_room, cuts_all, cuts_idle}
use Rattle.session_meaning.proofs.CompactLaws.{compaction_without_faults}
use Rattle.session_meaning.proofs.FlushLaws.{flush_without_faults}
use Rattle.session_meaning.proofs.ReclaimLaws.{reclaim_room}
use Rattle.session_meaning.proofs.RoundLaws.{round_later}
use Rattle.session_meaning.proofs.RoundRoom.{KeepsRoom, room_itself}
use Rattle.session_meaning.proofs.Steps.{rose_from, rose_to}

-- ---- counts of faults

item_later : (told : Bool) (item : Item) (before after : At) (r : Reply) → IsAnsweredOrRefused told item before r after → before.faults ≤ after.faults
item_later told (Ok (request.Push reading moment)) before after r (inl (answer, is, step)) = step.0
item_later told (Ok (request.Push reading moment)) before after r (inr bad) = absurd bad
item_later told (Ok (request.Trace id)) before after r (inl (rows, found, is, still)) = still.1
item_later told (Ok (request.Trace id)) before after r (inr (why, is, cause, still)) = still.1
item_later told (Ok (request.Search s)) before after r (inl (results, found, is, still)) = still.1
item_later told (Ok (request.Search s)) before after r (inr (why, is, cause, still)) = still.1
item_later told (Ok (request.Metrics m)) before after r (inl (results, series, found, are, is, still)) = still.1
item_later told (Ok (request.Metrics m)) before after r (inr (why, is, cause, still)) = still.1
item_later told (Ok (request.Cut moment)) before after r (inl (answer, is, step)) = step.0
item_later told (Ok (request.Cut moment)) before after r (inr bad) = absurd bad
item_later told (Ok request.CutAll) before after r (inl (answer, is, step)) = step.0
item_later told (Ok request.CutAll) before after r (inr bad) = absurd bad
item_later told (Ok request.Flush) before after r (inl (round, is, flushed)) = round_later BeginFlush before round after flushed
item_later told (Ok request.Flush) before after r (inr bad) = absurd bad
item_later told (Ok request.Compact) before after r (inl (round, is, compacted)) = round_later BeginCompact before round after compacted.0
item_later told (Ok request.Compact) before after r (inr bad) = absurd bad
item_later told (Ok request.Reclaim) before after r (inl (answer, is, step)) = step.0
item_later told (Ok request.Reclaim) before after r (inr bad) = absurd bad
item_later told (Err why) before after r (inl (is, same)) = let e = ap (λ (at : At). at.faults) same in omega (arith, e)
item_later told (Err why) before after r (inr bad) = absurd bad

pub session_later : (told : Bool) (items : List Item) (replies : List Reply) (first last : At) → Session told first items replies last → first.faults ≤ last.faults
session_later told [] replies first last h = let e = ap (λ (at : At). at.faults) h.1 in omega (arith, e)
session_later told (i ∷ is) [] first last h = absurd h
session_later told (i ∷ is) (r ∷ rs) first last h =
    let here = item_later told i first h.0 r h.1 in
    let rest = session_later told is rs h.0 last h.2 in omega (arith, here, rest)

-- ---- a push that has room

test_no : (t : Bool) (r : reply) (later : Option reply) → t ≡ false → if_test t r later ≡ later
test_no true r later e = let bad : ⊥ = cc in absurd bad
test_no false r later e = refl

not_above : (a b : ℕ) → b < a → nat_le a b ≡ false
not_above a b h = search rules

not_below : (a b : ℕ) → b ≤ a → nat_lt a b ≡ false
not_below a b h = search rules

-- its reply isn't sure
pub unsure : (m : Machine) (spans : List Span) (moment : ℕ) → m.read_only ≡ None → count_of m.history + 1 ≤ 4294967295 → held_of m.state + length spans ≤ 262144
    → early m (Push spans moment) ≡ None
unsure m spans moment writes pushes rows =
    ap (λ (o : Option ℕ). if_read_only o (if_full (count_of m.history) (held_of m.state) (length spans))) writes
    ∙ test_no (nat_le 4294967295 (count_of m.history)) _ _ (not_above 4294967295 (count_of m.history) (omega (arith, pushes)))
    ∙ test_no (nat_lt 262144 (held_of m.state + length spans)) _ _ (not_below 262144 (held_of m.state + length spans) rows)

-- it is accepted, or memory runs out
pub data Taken (spans : List Span) (moment : ℕ) (m : Machine) (r : reply) (m' : Machine) : Type 0 where
  kept : r ≡ Count (count_of m.history) → m'.history ≡ pushed m.history spans → m'.read_only ≡ m.read_only
      → held_of m'.state ≡ held_of m.state + length spans → m'.state.next_file ≡ m.state.next_file → (HasNoJob m → HasNoJob m') → Taken spans moment m r m'
  starved : r ≡ Refused cause.Memory → m' ≡ m → Taken spans moment m r m'

length_rows_at : (n p : ℕ) (spans : List Span) → length (rows_at n p spans) ≡ length spans
length_rows_at n p [] = refl
length_rows_at n p (s ∷ ss) = ap (λ (k : ℕ). suc k) (length_rows_at n (p + 1) ss)

more_held : (u : State) (n moment : ℕ) (spans : List Span)
    → length (flush_rows u.flush) + length u.head + length (u.live ++ arrived moment (batch_rows n spans)) ≡ held_of u + length spans
more_held u n moment spans =
    let a = length-append u.live (arrived moment (batch_rows n spans)) in
    let b : length (arrived moment (batch_rows n spans)) ≡ length (batch_rows n spans) = length-map (batch_rows n spans) (λ (row : Row). record { row = row; moment = moment }) in
    let c = length_rows_at n 0 spans in omega (arith, a, b, c)

pub taken : (f g : ℕ) (m m' : Machine) (spans : List Span) (moment : ℕ) (r : reply) → early m (Push spans moment) ≡ None → (Rose f g → ⊥)
    → Step f g m (Push spans moment) r m' → Taken spans moment m r m'
taken f g m m' spans moment r early well (Sure told same) = let bad : ⊥ = cc in absurd bad
taken f g m m' spans moment r early well (Succeeds none done) =
    kept done.0 (ap (λ (n : Machine). n.history) done.1) (ap (λ (n : Machine). n.read_only) done.1)
    (ap (λ (n : Machine). held_of n.state) done.1 ∙ more_held m.state (count_of m.history) moment spans)
    (ap (λ (n : Machine). n.state.next_file) done.1)
    (λ no. record { flush = ap (λ (n : Machine). n.state.flush) done.1 ∙ no.flush; compaction = ap (λ (n : Machine). n.state.compaction) done.1 ∙ no.compaction })
taken f g m m' spans moment r early well (Lacks none takes told same) = starved told same
taken f g m m' spans moment r early well (Unread reads told rose same) = absurd (well rose)
taken f g m m' spans moment r early well (Breaks none writes told rose same) = absurd (well rose)
taken f g m m' spans moment r early well (Halts none reclaims writes told rose emptied fewer same) = absurd (well rose)

-- ---- an item that has room

abbrev pub IsPlain : Reply → Type 0
IsPlain r = is_refusal r ≡ false

pub count_plain : (reading : Reading) (answer : Result ℕ PushError) (n : ℕ) → push_reply answer ≡ Count n → IsPlain (pushed_reply reading answer)
count_plain reading (Ok number) n e = refl
count_plain reading (Err why) n e = let bad : ⊥ = cc in absurd bad

same_cause : (a b : cause) → Refused a ≡ Refused b → a ≡ b
same_cause a b e = cc

memory_plain : (reading : Reading) (why : PushError) → push_refusal why ≡ cause.Memory → IsPlain (pushed_reply reading (Err why))
memory_plain reading (push.LiveFull held) e = let bad : ⊥ = cc in absurd bad
memory_plain reading (push.StoreFull pushes) e = let bad : ⊥ = cc in absurd bad
memory_plain reading (push.ReadOnly faults) e = let bad : ⊥ = cc in absurd bad
memory_plain reading push.Fault e = let bad : ⊥ = cc in absurd bad
memory_plain reading push.Memory e = refl

pub starved_plain : (reading : Reading) (answer : Result ℕ PushError) → push_reply answer ≡ Refused cause.Memory → IsPlain (pushed_reply reading answer)
starved_plain reading (Ok number) e = let bad : ⊥ = cc in absurd bad
starved_plain reading (Err why) e = memory_plain reading why (same_cause (push_refusal why) cause.Memory e)

-- it is answered or memory ran out, and leaves room for the others
abbrev GoesOn : Reply → List Item → Machine → Type 0
GoesOn r items m = IsPlain r × HasRoomFor items m

still_room : (item : Item) (items : List Item) (m m' : Machine) → KeepsRoom (2 * rounds_in item) m m' → HasRoomFor (item ∷ items) m → HasRoomFor items m'
still_room item items m m' keeps room = record {
  writes = keeps.writes ∙ room.writes;
  pushes = let all = room.pushes in let count = ap count_of keeps.history in omega (arith, all, count);
  rows = let all = room.rows in let held = keeps.held in omega (arith, all, held);
  files = let all = room.files in let given = keeps.files in omega (arith, all, given);
  closed = keeps.closed room.closed;
}

same_room : (item : Item) (items : List Item) (m m' : Machine) → m' ≡ m → HasRoomFor (item ∷ items) m → HasRoomFor items m'
same_room item items m m' same room = still_room item items m m' (room_itself (2 * rounds_in item) m m' same) room

push_goes_on : (reading : Reading) (moment : ℕ) (items : List Item) (m m' : Machine) (answer : Result ℕ PushError) → HasRoomFor (Ok (request.Push reading moment) ∷ items) m
    → Taken reading.batch.spans moment m (push_reply answer) m' → GoesOn (pushed_reply reading answer) items m'
push_goes_on reading moment items m m' answer room (kept told history writes rows files closed) = (
  count_plain reading answer (count_of m.history) told,
  record {
    writes = writes ∙ room.writes;
    pushes = let all = room.pushes in let count = ap count_of history ∙ count_of-pushed m.history reading.batch.spans in omega (arith, all, count);
    rows = let all = room.rows in omega (arith, all, rows);
    files = let all = room.files in omega (arith, all, files);
    closed = closed room.closed;
  },
)
push_goes_on reading moment items m m' answer room (starved told same) =
    (starved_plain reading answer told, same_room (Ok (request.Push reading moment)) items m m' same room)

pub cut_plain : (tells : ℕ → Reply) (answer : Result ℕ Memory) → ((moved : ℕ) → IsPlain (tells moved)) → IsPlain (cut_reply tells answer)
cut_plain tells (Ok moved) plain = plain moved
cut_plain tells (Err e) plain = refl

pub round_plain : (did : ℕ → ℕ → Reply) (nothing : Reply) (round : Round) → ((blocks rows : ℕ) → IsPlain (did blocks rows)) → IsPlain nothing → IsDoneOrStarved round
    → IsPlain (round_reply did nothing round)
round_plain did nothing (Did blocks rows) plain idle done = plain blocks rows
round_plain did nothing Nothing plain idle done = idle
round_plain did nothing (RoundRefused round_refusal.Memory) plain idle done = refl
round_plain did nothing (RoundRefused (round_refusal.ReadOnly faults)) plain idle done = absurd done
round_plain did nothing (RoundRefused (round_refusal.Busy job)) plain idle done = absurd done
round_plain did nothing (RoundRefused (round_refusal.FilesSpent next)) plain idle done = absurd done
round_plain did nothing (RoundRefused round_refusal.Fault) plain idle done = absurd done
round_plain did nothing (RoundRefused (round_refusal.NotBlock file at)) plain idle done = absurd done

flush_goes_on : (round : Round) (items : List Item) (before after : At) → IsFlushed before round after → (Rose before.faults after.faults → ⊥)
    → HasRoomFor (Ok request.Flush ∷ items) before.machine → GoesOn (flush_reply round) items after.machine
flush_goes_on round items before after flushed well room =
    let on = flush_without_faults before round after flushed well room.writes (λ writes. room.closed) (let most = room.files in omega (arith, most)) in
    (round_plain (λ blocks rows. Flushed rows) NothingFlushed round (λ blocks rows. refl) refl on.0, still_room (Ok request.Flush) items before.machine after.machine on.1 room)

compaction_goes_on : (round : Round) (items : List Item) (before after : At) → IsCompacted true before round after → (Rose before.faults after.faults → ⊥)
    → HasRoomFor (Ok request.Compact ∷ items) before.machine → GoesOn (compact_reply round) items after.machine
compaction_goes_on round items before after compacted well room =
    let on = compaction_without_faults before round after compacted well room.writes (λ writes. room.closed) (let most = room.files in omega (arith, most)) in
    (round_plain Compacted NothingCompacted round (λ blocks rows. refl) refl on.0, still_room (Ok request.Compact) items before.machine after.machine on.1 room)

reclaim_memory : (why : ReclaimError) → reclaim_refusal why ≡ cause.Memory → IsPlain (reclaimed_reply (Err why))
reclaim_memory (reclaim.ReadOnly faults) e = let bad : ⊥ = cc in absurd bad
reclaim_memory reclaim.Fault e = let bad : ⊥ = cc in absurd bad
reclaim_memory reclaim.Memory e = refl

pub reclaim_plain : (answer : Result ℕ ReclaimError) → ((n : ℕ) × (reclaim_reply answer ≡ Count n)) ⊎ (reclaim_reply answer ≡ Refused cause.Memory) → IsPlain (reclaimed_reply answer)
reclaim_plain (Ok files) so = refl
reclaim_plain (Err why) (inl (n, e)) = let bad : ⊥ = cc in absurd bad
reclaim_plain (Err why) (inr e) = reclaim_memory why (same_cause (reclaim_refusal why) cause.Memory e)

pub query_plain : (why : Refusal) (before after : At) → HasQueryCause true why before after → (Rose before.faults after.faults → ⊥) → is_for_other why ≡ false
query_plain refusal.Memory before after cause well = refl
query_plain refusal.DiskFault before after cause well = absurd (well cause)
query_plain (refusal.TooLong n) before after cause well = absurd cause
query_plain (refusal.BadRequest n) before after cause well = absurd cause
query_plain refusal.BadJson before after cause well = absurd cause
query_plain (refusal.BadOtlp path) before after cause well = absurd cause
query_plain (refusal.TooMany n) before after cause well = absurd cause
query_plain (refusal.BadQuery fault) before after cause well = absurd cause
query_plain (refusal.BadType fault) before after cause well = absurd cause
query_plain (refusal.BadPattern n) before after cause well = absurd cause
query_plain (refusal.PatternTooBig n) before after cause well = absurd cause
query_plain (refusal.TooManyBuckets n) before after cause well = absurd cause
query_plain (refusal.LiveFull n) before after cause well = absurd cause
query_plain (refusal.StoreFull n) before after cause well = absurd cause
query_plain (refusal.ReadOnly n) before after cause well = absurd cause
query_plain (refusal.Round (round_refusal.NotBlock file at)) before after cause well = let bad : ⊥ = (let untold = cause.0 in cc) in absurd bad
query_plain (refusal.Round (round_refusal.ReadOnly faults)) before after cause well = absurd cause
query_plain (refusal.Round (round_refusal.Busy job)) before after cause well = absurd cause
query_plain (refusal.Round (round_refusal.FilesSpent next)) before after cause well = absurd cause
query_plain (refusal.Round round_refusal.Fault) before after cause well = absurd cause
query_plain (refusal.Round round_refusal.Memory) before after cause well = absurd cause
query_plain refusal.Closed before after cause well = absurd cause
query_plain (refusal.NotStore file at) before after cause well = absurd cause

item_goes_on : (item : Item) (items : List Item) (before after : At) (r : Reply) → IsAnsweredOrRefused true item before r after
    → (Rose before.faults after.faults → ⊥) → is_refused item ≡ false → HasRoomFor (item ∷ items) before.machine → GoesOn r items after.machine
item_goes_on (Ok (request.Push reading moment)) items before after r (inl (answer, is, step)) well none room =
    let spans = reading.batch.spans in
    let early = unsure before.machine spans moment room.writes (let all = room.pushes in omega (arith, all)) (let all = room.rows in omega (arith, all)) in
    let on = push_goes_on reading moment items before.machine after.machine answer room
    (taken before.faults after.faults before.machine after.machine spans moment (push_reply answer) early well step.1) in
    (subst IsPlain (sym is) on.0, on.1)
item_goes_on (Ok (request.Push reading moment)) items before after r (inr bad) well none room = absurd bad
item_goes_on (Ok (request.Trace id)) items before after r (inl (rows, found, is, still)) well none room =
    (ap is_refusal is, same_room (Ok (request.Trace id)) items before.machine after.machine still.0 room)
item_goes_on (Ok (request.Trace id)) items before after r (inr (why, is, cause, still)) well none room =
    (ap is_refusal is ∙ query_plain why before after cause well, same_room (Ok (request.Trace id)) items before.machine after.machine still.0 room)
item_goes_on (Ok (request.Search s)) items before after r (inl (results, found, is, still)) well none room =
    (ap is_refusal is, same_room (Ok (request.Search s)) items before.machine after.machine still.0 room)
item_goes_on (Ok (request.Search s)) items before after r (inr (why, is, cause, still)) well none room =
    (ap is_refusal is ∙ query_plain why before after cause well, same_room (Ok (request.Search s)) items before.machine after.machine still.0 room)
item_goes_on (Ok (request.Metrics m)) items before after r (inl (results, series, found, are, is, still)) well none room =
    (ap is_refusal is, same_room (Ok (request.Metrics m)) items before.machine after.machine still.0 room)
item_goes_on (Ok (request.Metrics m)) items before after r (inr (why, is, cause, still)) well none room =
    (ap is_refusal is ∙ query_plain why before after cause well, same_room (Ok (request.Metrics m)) items before.machine after.machine still.0 room)
item_goes_on (Ok (request.Cut moment)) items before after r (inl (answer, is, step)) well none room =
    let m = before.machine in
    let cuts = cuts_idle before.faults after.faults m after.machine moment (count_reply answer) step.1 in (
      ap is_refusal is ∙ cut_plain Cut answer (λ moved. refl),
      still_room (Ok (request.Cut moment)) items m after.machine (cut_room (is_idle moment m.state.live) m (count_reply answer) after.machine cuts) room,
    )
item_goes_on (Ok (request.Cut moment)) items before after r (inr bad) well none room = absurd bad
item_goes_on (Ok request.CutAll) items before after r (inl (answer, is, step)) well none room =
    let m = before.machine in
    let cuts = cuts_all before.faults after.faults m after.machine (count_reply answer) step.1 in (
      ap is_refusal is ∙ cut_plain CutAll answer (λ moved. refl),
      still_room (Ok request.CutAll) items m after.machine (cut_room (λ entry. true) m (count_reply answer) after.machine cuts) room,
    )
item_goes_on (Ok request.CutAll) items before after r (inr bad) well none room = absurd bad
item_goes_on (Ok request.Flush) items before after r (inl (round, is, flushed)) well none room =
    let on = flush_goes_on round items before after flushed well room in (subst IsPlain (sym is) on.0, on.1)
item_goes_on (Ok request.Flush) items before after r (inr bad) well none room = absurd bad
item_goes_on (Ok request.Compact) items before after r (inl (round, is, compacted)) well none room =
    let on = compaction_goes_on round items before after compacted well room in (subst IsPlain (sym is) on.0, on.1)
item_goes_on (Ok request.Compact) items before after r (inr bad) well none room = absurd bad
item_goes_on (Ok request.Reclaim) items before after r (inl (answer, is, step)) well none room =
    let on = reclaim_room before.faults after.faults before.machine after.machine (reclaim_reply answer) well room.writes step.1 in
    (subst IsPlain (sym is) (reclaim_plain answer on.0), still_room (Ok request.Reclaim) items before.machine after.machine on.1 room)
item_goes_on (Ok request.Reclaim) items before after r (inr bad) well none room = absurd bad
item_goes_on (Err why) items before after r (inl (is, same)) well none room =
    (ap is_refusal is ∙ none, same_room (Err why) items before.machine after.machine (ap (λ (at : At). at.machine) same) room)
item_goes_on (Err why) items before after r (inr bad) well none room = absurd bad

or_none : (a b : Bool) → (a || b) ≡ false → (a ≡ false) × (b ≡ false)
or_none true b e = let bad : ⊥ = cc in absurd bad
or_none false b e = (refl, e)

plain_with_room : (first last : At) (items : List Item) (replies : List Reply) → Session true first items replies last → (Rose first.faults last.faults → ⊥)
    → HasRoomFor items first.machine → list_any is_refused items ≡ false → list_any is_refusal replies ≡ false
plain_with_room first last [] replies h well room none = ap (list_any is_refusal) h.0
plain_with_room first last (i ∷ is) [] h well room none = absurd h
plain_with_room first last (i ∷ is) (r ∷ rs) h well room none =
    let parts = or_none (is_refused i) (list_any is_refused is) none in
    let here = item_later true i first h.0 r h.1 in
    let rest = session_later true is rs h.0 last h.2 in
    let on = item_goes_on i is first h.0 r h.1 (λ rose. well (rose_to first.faults h.0.faults last.faults rose rest)) parts.0 room in
    let later : list_any is_refusal rs ≡ false = plain_with_room h.0 last is rs h.2 (λ rose. well (rose_from first.faults h.0.faults last.faults here rose)) on.1 parts.1 in
    let plain : is_refusal r ≡ false = on.0 in
    rw (plain, later) refl

pub replies_plain : (first last : At) (items : List Item) (replies : List Reply) (old new : ℕ) → Session true first items replies last → old ≤ first.faults
    → last.faults ≡ new → (Rose old new → ⊥) → HasRoomFor items first.machine → list_any is_refused items ≡ false → list_any is_refusal replies ≡ false
replies_plain first last items replies old new h earlier now well room none =
    plain_with_room first last items replies h
    (λ rose. well (rose_from old first.faults new earlier (subst (λ (n : ℕ). Rose first.faults n) now rose))) room none
