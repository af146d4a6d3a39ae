-- What is refused for no cause but memory, where several clients are answered at once and no call failed.
use Rattle.std.proofs.Common.{◌≡◌, ◌⊎◌, inl, inr, ◌∙◌, ℕ, zero, suc, ◌+◌, ◌≤◌, ◌||◌, Bool, true, false, max, List, [], ◌∷◌, ◌++◌, map, take, length, None, Result, Ok, Err, ap, append_assoc, arith, refl, sym, subst, if◌then◌else◌}
use Rattle.std.specs.Prelude.{⊤}
use Rattle.std.specs.List.{list_any}
use Rattle.client_run.specs.Answers.{AreSeriesTold, IsSearchTold, asked_of, counted_of, query_refusal, trace_reply}
use Rattle.client_run.specs.CoreRuns.{IsCounted, is_fault}
use Rattle.client_scripts.specs.Scripts as by_script
use Rattle.client_scripts.specs.Served.{AllTold, AreServed}
use Rattle.client_scripts.specs.Told.{AreTold, IsToldOf, TellsFrom, told_length}
use Rattle.client_scripts.specs.declared.script.Answered.{Answered}
use Rattle.disk_model.proofs.CallRuns.{raised_rose}
use Rattle.port_history.specs.Entries.{Entry, call_of, own}
use Rattle.query_fanout.specs.Queries.{IsAsked, Sound, look_call}
use Rattle.query_fanout.specs.SearchAnswers.{IsSearchAnswer}
use Rattle.query_fanout.specs.TraceAnswers.{IsTraceAnswer}
use Rattle.query_fanout.specs.declared.error.QueryError.{QueryError}
use Rattle.query_fanout.specs.declared.error.QueryError.TheVariants as error
use Rattle.query_fanout.specs.declared.searching.Asked.{Asked}
use Rattle.query_fanout.specs.declared.searching.SearchAnswer.{SearchAnswer}
use Rattle.query_fanout.specs.declared.trace.TraceAnswer.{TraceAnswer}
use Rattle.session_text.specs.declared.reply.Reply.{Reply}
use Rattle.session_text.specs.declared.reply.Reply.TheVariants.{Cut, CutAll, Refused}
use Rattle.session_text.specs.declared.request.Request.TheVariants as request
use Rattle.session_text.specs.Items.{Item}
use Rattle.span_types.specs.Faults.{Rose}
use Rattle.span_types.specs.declared.spans.Row.{Row}
use Rattle.store_model.specs.Event.{Event as event, Reply as reply_of, Refusal as cause}
use Rattle.store_model.specs.History.{History, count_of}
use Rattle.store_state.specs.Made.{Call, call}
use Rattle.store_state.specs.Replies.{push_reply, reclaim_reply}
use Rattle.session_meaning.specs.declared.ending.Ending.{Ending}
use Rattle.session_meaning.specs.declared.ending.Ending.TheVariants as ending
use Rattle.session_meaning.specs.Answering.{IsItemAnswered}
use Rattle.session_meaning.specs.At.{At, history_of}
use Rattle.session_meaning.specs.Pushes.{HasRoomNow, NeedsNoWrite}
use Rattle.session_meaning.specs.Runs.{Edges, ReadsWell}
use Rattle.session_meaning.specs.ServedReplies.{CallPlace, HasItsPart, IsReplyTo, TakesOneCall, WasReplied}
use Rattle.session_meaning.specs.ServedRuns.{EndsServing, IsServedRun, Served, all_replies}
use Rattle.session_meaning.specs.Serving.{EntriesLead, Ran}
use Rattle.session_meaning.specs.Session.{IsAnswered, end_of, is_for_memory, is_refusal, is_refused}
use Rattle.session_meaning.specs.Upkeep.{HasFailedSince}
use Rattle.session_meaning.proofs.LineRoom.{push_plain}
use Rattle.session_meaning.proofs.ReadOnly.{Since, by_step}
use Rattle.session_meaning.proofs.ReclaimLaws.{reclaim_room}
use Rattle.session_meaning.proofs.Room.{IsPlain, cut_plain, reclaim_plain, taken, unsure}
use Rattle.session_meaning.proofs.ServedCauses.{answered_there}
use Rattle.session_meaning.proofs.ServedLaws.{serving_ends}
use Rattle.session_meaning.proofs.ServedPlaces.{is_answered, mine, place_of}
use Rattle.session_meaning.proofs.Steps.{rose_from, rose_to, two}

-- ---- along all calls

led_later : (told : Bool) (first last : At) (es : List Entry) → EntriesLead told first es last → first.faults ≤ last.faults
led_later told first last [] same = let is = ap (λ (at : At). at.faults) same in omega (arith, is)
led_later told first last (e ∷ es) (between, made, rest) = two first.faults between.faults last.faults made.step.0 (led_later told between last es rest)

led_since : (start : ℕ) (told : Bool) (first last : At) (es : List Entry) → EntriesLead told first es last → Since start first → Since start last
led_since start told first last [] same since = subst (Since start) (sym same) since
led_since start told first last (e ∷ es) (between, made, rest) since =
    led_since start told between last es rest (by_step start first between e.event e.reply made.step since)

module _ (told : Bool) (first last : At) (entries : List Entry) (client : ℕ) (asked : List Item) (got : List Reply) (front : List Call) (place : CallPlace told first entries last client asked got front) where
  -- A call that rose the count of faults did so for all.
  pub rose_there : Rose place.before.faults place.after.faults → Rose first.faults last.faults
  rose_there rose =
      rose_from first.faults place.before.faults last.faults (led_later told first place.before place.earlier place.to)
      (rose_to place.before.faults place.after.faults last.faults rose (led_later told place.after last place.later place.from))

  -- The store writes at each place, where no call failed.
  pub writes_there : first.machine.read_only ≡ None → (Rose first.faults last.faults → ⊥) → place.before.machine.read_only ≡ None
  writes_there writes well = go (led_since first.faults told first place.before place.earlier place.to (omega arith, inl writes)).1
    where
      go : HasFailedSince first.faults place.before → place.before.machine.read_only ≡ None
      go (inl none) = none
      go (inr (n, is, rose, within)) =
          absurd (well (rose_to first.faults n last.faults rose
          (two n place.before.faults last.faults within
          (two place.before.faults place.after.faults last.faults place.made.step.0 (led_later told place.after last place.later place.from)))))

-- ---- one call

pub call_plain : (told : Bool) (item : Item) (before after : At) (r : Reply) → TakesOneCall item → IsAnswered told item before r after → (Rose before.faults after.faults → ⊥)
    → before.machine.read_only ≡ None → HasRoomNow item before.machine → is_refusal r ≡ is_refused item
call_plain told (Ok (request.Push reading moment)) before after r takes (answer, is, step) well writes room =
    let spans = reading.batch.spans in
    let early = unsure before.machine spans moment writes (let count = room.0 in omega (arith, count)) room.1 in
    subst IsPlain (sym is) (push_plain reading moment answer before.machine after.machine
    (taken before.faults after.faults before.machine after.machine spans moment (push_reply answer) early well step.1))
call_plain told (Ok (request.Cut moment)) before after r takes (answer, is, step) well writes room = ap is_refusal is ∙ cut_plain Cut answer (λ moved. refl)
call_plain told (Ok request.CutAll) before after r takes (answer, is, step) well writes room = ap is_refusal is ∙ cut_plain CutAll answer (λ moved. refl)
call_plain told (Ok request.Reclaim) before after r takes (answer, is, step) well writes room =
    let on = reclaim_room before.faults after.faults before.machine after.machine (reclaim_reply answer) well writes step.1 in
    subst IsPlain (sym is) (reclaim_plain answer on.0)
call_plain told (Ok (request.Trace id)) before after r takes is well writes room = absurd takes
call_plain told (Ok (request.Search s)) before after r takes is well writes room = absurd takes
call_plain told (Ok (request.Metrics m)) before after r takes is well writes room = absurd takes
call_plain told (Ok request.Flush) before after r takes is well writes room = absurd takes
call_plain told (Ok request.Compact) before after r takes is well writes room = absurd takes
call_plain told (Err why) before after r takes is well writes room = absurd takes

pub room_there : (told : Bool) (first last : At) (scripts : List (List Item)) (answers : List Answered) (entries : List Entry) (client : ℕ) (asked : List Item) (got : List Reply) (item : Item) (reply : Reply)
    → Ran told first scripts answers entries last → WasReplied scripts answers client asked got item reply → TakesOneCall item → first.machine.read_only ≡ None → (Rose first.faults last.faults → ⊥)
    → (place : CallPlace told first entries last client asked got []) × IsItemAnswered item reply (call_of place.entry ∷ [])
    × (HasRoomNow item place.before.machine → is_refusal reply ≡ is_refused item)
room_there told first last scripts answers entries client asked got item reply ran this takes writes well =
    let at = answered_there told first last scripts answers entries client asked got item reply ran this takes in (
      at.0,
      at.1,
      call_plain told item at.0.before at.0.after reply takes at.2 (λ rose. well (rose_there told first last entries client asked got [] at.0 rose))
          (writes_there told first last entries client asked got [] at.0 writes well),
    )

-- ---- a query

-- What is told of an answer: that it is a refusal only where the answer is none.
abbrev pub Tells : {A : Type 0} → Result A QueryError → Reply → Type 0
Tells (Ok x) r = is_refusal r ≡ false
Tells (Err e) r = r ≡ Refused (query_refusal e)

pub trace_tells : (answer : Result TraceAnswer QueryError) (r : Reply) → r ≡ trace_reply answer → Tells answer r
trace_tells (Ok x) r is = ap is_refusal is
trace_tells (Err e) r is = is

pub search_tells : (asked : Asked) (answer : Result SearchAnswer QueryError) (r : Reply) → IsSearchTold asked answer r → Tells answer r
search_tells asked (Ok x) r (inl is) = ap is_refusal is
search_tells asked (Ok x) r (inr is) = ap is_refusal is
search_tells asked (Err e) r is = is

pub metrics_tells : (start end step : ℕ) (rate : Bool) (answer : Result SearchAnswer QueryError) (r : Reply) → AreSeriesTold start end step rate answer r → Tells answer r
metrics_tells start end step rate (Ok x) r (inl (series, are, is)) = ap is_refusal is
metrics_tells start end step rate (Ok x) r (inr is) = ap is_refusal is
metrics_tells start end step rate (Err e) r is = is

pub both_tell : {A B : Type 0} (fits : B → Type 0) (one : Result A QueryError) (other : Result B QueryError) (r : Reply) → Tells one r → Tells other r → Sound fits other → (one ≡ Err error.Fault → ⊥) → is_refusal r ≡ false
both_tell fits (Ok x) other r tells also sound none = tells
both_tell fits (Err error.Fault) other r tells also sound none = absurd (none refl)
both_tell fits (Err error.Memory) other r tells also sound none = ap is_refusal tells
both_tell fits (Err (error.NotBlock file at)) (Ok y) r tells also sound none = also
both_tell fits (Err (error.NotBlock file at)) (Err error.Fault) r tells also sound none = let bad : ⊥ = (let e = sym tells ∙ also in cc) in absurd bad
both_tell fits (Err (error.NotBlock file at)) (Err (error.NotBlock f a)) r tells also sound none = absurd sound
both_tell fits (Err (error.NotBlock file at)) (Err error.Memory) r tells also sound none = ap is_refusal also

-- A query that a fault ended made a call that failed.
pub record FailsIn (calls : List Call) : Type 0 where
  pub front : List Call
  pub c : Call
  pub back : List Call
  pub are : calls ≡ front ++ c ∷ back
  pub fault : is_fault c.reply ≡ true

pub query_fails : {A : Type 0} (tells : ℕ → List Row → A → Type 0) (r : Result A QueryError) (calls : List Call) → IsAsked tells r calls → r ≡ Err error.Fault → FailsIn calls
query_fails tells (Ok x) calls is fault = let bad : ⊥ = cc in absurd bad
query_fails tells (Err error.Memory) calls is fault = let bad : ⊥ = cc in absurd bad
query_fails tells (Err (error.NotBlock file at)) calls is fault = let bad : ⊥ = cc in absurd bad
query_fails tells (Err error.Fault) calls (inl (are, memory)) fault = let bad : ⊥ = cc in absurd bad
query_fails tells (Err error.Fault) calls (inr (look, reads, are, (given, file, page, all, among, reads_are), comes)) fault = record {
  front = look_call look ∷ given;
  c = call (event.ReadPage look.pin file page) (reply_of.Refused cause.Fault);
  back = call (event.Done look.pin) reply_of.Fine ∷ [];
  are = are ∙ ap (λ (rs : List Call). look_call look ∷ (rs ++ call (event.Done look.pin) reply_of.Fine ∷ [])) reads_are
      ∙ ap (λ (cs : List Call). look_call look ∷ cs) (append_assoc given (call (event.ReadPage look.pin file page) (reply_of.Refused cause.Fault) ∷ []) (call (event.Done look.pin) reply_of.Fine ∷ []));
  fault = refl;
}

-- what is told of the history by the reply to an item
abbrev pub ToldOf : History → ℕ → Item → Reply → Type 0
ToldOf h least (Ok asked) r = IsToldOf h least asked r
ToldOf h least (Err why) r = ⊤

in_told : (h : History) (least : ℕ) (items : List Item) (replies : List Reply) (asked : List Item) (got : List Reply) (item : Item) (reply : Reply) → AreTold h least items replies
    → IsReplyTo items replies asked got item reply → (n : ℕ) × ToldOf h n item reply
in_told h least [] replies asked got item reply are this = absurd this
in_told h least (i ∷ items) [] asked got item reply are this = absurd this
in_told h least (Ok q ∷ items) (r ∷ replies) [] [] item reply are (same, also) =
    (least, subst (λ (x : Item). ToldOf h least x reply) same (subst (λ (x : Reply). IsToldOf h least q x) also are.0))
in_told h least (Err why ∷ items) (r ∷ replies) [] [] item reply are (same, also) = (least, subst (λ (x : Item). ToldOf h least x reply) same tt)
in_told h least (i ∷ items) (r ∷ replies) [] (g ∷ got) item reply are this = absurd this
in_told h least (i ∷ items) (r ∷ replies) (a ∷ asked) [] item reply are this = absurd this
in_told h least (Ok q ∷ items) (r ∷ replies) (a ∷ asked) (g ∷ got) item reply are (same, also, later) =
    in_told h (max least (told_length r)) items replies asked got item reply are.1 later
in_told h least (Err why ∷ items) (r ∷ replies) (a ∷ asked) (g ∷ got) item reply are (same, also, later) = in_told h least items replies asked got item reply are later

pub in_all : (h : History) (least : ℕ) (scripts : List (List Item)) (answers : List Answered) (client : ℕ) (asked : List Item) (got : List Reply) (item : Item) (reply : Reply) → AllTold h least scripts answers
    → WasReplied scripts answers client asked got item reply → (n : ℕ) × ToldOf h n item reply
in_all h least [] answers client asked got item reply all this = absurd this
in_all h least (script ∷ scripts) [] client asked got item reply all this = absurd this
in_all h least (script ∷ scripts) (answered ∷ answers) zero asked got item reply all this = in_told h least script answered.replies.items asked got item reply all.0 this
in_all h least (script ∷ scripts) (answered ∷ answers) (suc client) asked got item reply all this = in_all h least scripts answers client asked got item reply all.1 this

module _ (first last : At) (scripts : List (List Item)) (answers : List Answered) (entries : List Entry) (client : ℕ) (asked : List Item) (got : List Reply) where
  fails_not : (item : Item) (reply : Reply) → (ran : Ran true first scripts answers entries last) → (this : WasReplied scripts answers client asked got item reply) → (Rose first.faults last.faults → ⊥)
      → FailsIn (mine true first last scripts answers entries client asked got item reply ran this) → ⊥
  fails_not item reply ran this well fails =
      let place = place_of true first last scripts answers entries client asked got item reply ran this fails.front fails.back fails.c fails.are in
      let at = place.0 in
      let counted : IsCounted true at.before.faults at.after.faults =
      subst (λ (b : Bool). IsCounted b at.before.faults at.after.faults) (ap (λ (c : Call). is_fault c.reply) place.1 ∙ fails.fault) at.made.step.2 in
      well (rose_there true first last entries client asked got fails.front at (raised_rose at.before.faults at.after.faults counted))

  pub no_write_there : (item : Item) (reply : Reply) → Ran true first scripts answers entries last → WasReplied scripts answers client asked got item reply → NeedsNoWrite item
      → (Rose first.faults last.faults → ⊥) → is_refusal reply ≡ is_refused item
  no_write_there (Ok (request.Trace id)) reply ran this needs well =
      let item : Item = Ok (request.Trace id) in
      let is = is_answered true first last scripts answers entries client asked got item reply ran this in
      let told = in_all (history_of last) (count_of (history_of first)) scripts answers client asked got item reply (ran.seen refl) this in
      both_tell (TellsFrom (IsTraceAnswer id) told.0 (history_of last)) is.0 told.1.0 reply (trace_tells is.0 reply is.1) (trace_tells told.1.0 reply told.1.1) told.1.2
      (λ fault. fails_not item reply ran this well (query_fails (IsTraceAnswer id) is.0 _ is.2 fault))
  no_write_there (Ok (request.Search s)) reply ran this needs well =
      let item : Item = Ok (request.Search s) in
      let is = is_answered true first last scripts answers entries client asked got item reply ran this in
      let told = in_all (history_of last) (count_of (history_of first)) scripts answers client asked got item reply (ran.seen refl) this in
      both_tell (TellsFrom (IsSearchAnswer (asked_of s)) told.0 (history_of last)) is.0 told.1.0 reply (search_tells (asked_of s) is.0 reply is.1) (search_tells (asked_of s) told.1.0 reply told.1.1) told.1.2
      (λ fault. fails_not item reply ran this well (query_fails (IsSearchAnswer (asked_of s)) is.0 _ is.2 fault))
  no_write_there (Ok (request.Metrics m)) reply ran this needs well =
      let item : Item = Ok (request.Metrics m) in
      let is = is_answered true first last scripts answers entries client asked got item reply ran this in
      let told = in_all (history_of last) (count_of (history_of first)) scripts answers client asked got item reply (ran.seen refl) this in
      both_tell (TellsFrom (IsSearchAnswer (counted_of m)) told.0 (history_of last)) is.0 told.1.0 reply (metrics_tells m.start m.end m.step m.rate is.0 reply is.1)
      (metrics_tells m.start m.end m.step m.rate told.1.0 reply told.1.1) told.1.2
      (λ fault. fails_not item reply ran this well (query_fails (IsSearchAnswer (counted_of m)) is.0 _ is.2 fault))
  no_write_there (Ok (request.Cut moment)) reply ran this needs well =
      let is = is_answered true first last scripts answers entries client asked got (Ok (request.Cut moment)) reply ran this in ap is_refusal is.1 ∙ cut_plain Cut is.0 (λ moved. refl)
  no_write_there (Ok request.CutAll) reply ran this needs well =
      let is = is_answered true first last scripts answers entries client asked got (Ok request.CutAll) reply ran this in ap is_refusal is.1 ∙ cut_plain CutAll is.0 (λ moved. refl)
  no_write_there (Err why) reply ran this needs well =
      let is = is_answered true first last scripts answers entries client asked got (Err why) reply ran this in ap is_refusal is.0
  no_write_there (Ok (request.Push reading moment)) reply ran this needs well = absurd needs
  no_write_there (Ok request.Flush) reply ran this needs well = absurd needs
  no_write_there (Ok request.Compact) reply ran this needs well = absurd needs
  no_write_there (Ok request.Reclaim) reply ran this needs well = absurd needs

-- ---- a run

or_none : (a b : Bool) → a ≡ false → b ≡ false → (a || b) ≡ false
or_none true b first second = let bad : ⊥ = cc in absurd bad
or_none false b first second = second

any_both : (xs ys : List Reply) → list_any is_refusal xs ≡ false → list_any is_refusal ys ≡ false → list_any is_refusal (xs ++ ys) ≡ false
any_both [] ys first second = second
any_both (x ∷ xs) ys first second = go (is_refusal x) first (λ rest. any_both xs ys rest second)
  where
    go : (b : Bool) → (b || list_any is_refusal xs) ≡ false → (list_any is_refusal xs ≡ false → list_any is_refusal (xs ++ ys) ≡ false) → (b || list_any is_refusal (xs ++ ys)) ≡ false
    go true e next = let bad : ⊥ = cc in absurd bad
    go false e next = next e

script_plain : (items : List Item) (replies : List Reply) (calls : List Call) → by_script.AreItemsAnswered (take (length replies) items) replies calls
    → ((asked : List Item) (got : List Reply) (item : Item) (reply : Reply) → IsReplyTo items replies asked got item reply → is_refusal reply ≡ false) → list_any is_refusal replies ≡ false
script_plain items [] calls are each = refl
script_plain [] (r ∷ replies) calls (none, made) each = let bad : ⊥ = cc in absurd bad
script_plain (i ∷ items) (r ∷ replies) calls (now, later, is, one, rest) each =
    or_none (is_refusal r) (list_any is_refusal replies) (each [] [] i r (refl, refl))
    (script_plain items replies later rest (λ asked got item reply this. each (i ∷ asked) (r ∷ got) item reply (refl, refl, this)))

scripts_plain : (number : ℕ) (scripts : List (List Item)) (answers : List Answered) (entries : List Entry) → AreServed number scripts answers entries
    → ((client : ℕ) (asked : List Item) (got : List Reply) (item : Item) (reply : Reply) → WasReplied scripts answers client asked got item reply → is_refusal reply ≡ false)
    → list_any is_refusal (all_replies answers) ≡ false
scripts_plain number [] answers entries none each = ap (λ (xs : List Answered). list_any is_refusal (all_replies xs)) none
scripts_plain number (script ∷ scripts) [] entries served each = absurd served
scripts_plain number (script ∷ scripts) (answered ∷ answers) entries served each =
    any_both answered.replies.items (all_replies answers)
    (script_plain script answered.replies.items (map call_of (own (number ∷ []) entries)) served.0.first (λ asked got item reply this. each 0 asked got item reply this))
    (scripts_plain (number + 1) scripts answers entries served.1 (λ client asked got item reply this. each (suc client) asked got item reply this))

not_refused : (rs : List Reply) → list_any is_refusal rs ≡ false → end_of rs ≡ ending.Refused → ⊥
not_refused rs none is = go (list_any is_refusal rs) (list_any is_for_memory rs) none is
  where
    go : (a b : Bool) → a ≡ false → (if a then ending.Refused else if b then ending.Starved else ending.Answered) ≡ ending.Refused → ⊥
    go true b e f = cc
    go false true e f = cc
    go false false e f = cc

pub serving_well : (clients rounds : ℕ) (s : Served) (old new : Edges) → IsServedRun true clients rounds s old new → ReadsWell old new
    → ((client : ℕ) (asked : List Item) (got : List Reply) (item : Item) (reply : Reply) → WasReplied s.scripts s.answers client asked got item reply
    → HasItsPart true s.first s.entries s.last client asked got item reply)
    → (s.ending ≡ ending.Answered) ⊎ (s.ending ≡ ending.Starved)
serving_well clients rounds s old new run well parts = elim (serving_ends true clients rounds s old new run well) [
  | inl is ↦ inl is
  | inr (inl is) ↦ inr is
  | inr (inr is) ↦ absurd (refused is)
]
  where
    quiet : Rose s.first.faults s.last.faults → ⊥
    quiet rose = well.0.3 (subst (λ (n : ℕ). Rose n new.disk_faults) run.opened.first_faults (subst (λ (n : ℕ). Rose s.first.faults n) run.opened.last_faults rose))

    plain : (client : ℕ) (asked : List Item) (got : List Reply) (item : Item) (reply : Reply) → WasReplied s.scripts s.answers client asked got item reply
        → HasItsPart true s.first s.entries s.last client asked got item reply → is_refusal reply ≡ false
    plain client asked got (Ok (request.Push reading moment)) reply this part =
        let there = room_there true s.first s.last s.scripts s.answers s.entries client asked got (Ok (request.Push reading moment)) reply run.ran this tt run.opened.begins.writes quiet in
        there.2 (part there.0)
    plain client asked got (Ok request.Reclaim) reply this part =
        (room_there true s.first s.last s.scripts s.answers s.entries client asked got (Ok request.Reclaim) reply run.ran this tt run.opened.begins.writes quiet).2 tt
    plain client asked got (Ok request.Flush) reply this part = part
    plain client asked got (Ok request.Compact) reply this part = part
    plain client asked got (Ok (request.Trace id)) reply this part = no_write_there s.first s.last s.scripts s.answers s.entries client asked got (Ok (request.Trace id)) reply run.ran this tt quiet
    plain client asked got (Ok (request.Search q)) reply this part = no_write_there s.first s.last s.scripts s.answers s.entries client asked got (Ok (request.Search q)) reply run.ran this tt quiet
    plain client asked got (Ok (request.Metrics m)) reply this part = no_write_there s.first s.last s.scripts s.answers s.entries client asked got (Ok (request.Metrics m)) reply run.ran this tt quiet
    plain client asked got (Ok (request.Cut moment)) reply this part = no_write_there s.first s.last s.scripts s.answers s.entries client asked got (Ok (request.Cut moment)) reply run.ran this tt quiet
    plain client asked got (Ok request.CutAll) reply this part = no_write_there s.first s.last s.scripts s.answers s.entries client asked got (Ok request.CutAll) reply run.ran this tt quiet
    plain client asked got (Err why) reply this part = no_write_there s.first s.last s.scripts s.answers s.entries client asked got (Err why) reply run.ran this tt quiet ∙ part

    refused : s.ending ≡ ending.Refused → ⊥
    refused is =
        let ends = subst (λ (e : Ending). EndsServing e s.answers old.taken new.taken) is run.ends in
        not_refused (all_replies s.answers)
        (scripts_plain 0 s.scripts s.answers s.entries run.ran.served (λ client asked got item reply this. plain client asked got item reply this (parts client asked got item reply this)))
        ends.ends
