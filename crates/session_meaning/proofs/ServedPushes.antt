-- Which pushes the last history has, where several clients were answered at once.
use Rattle.std.proofs.Common.{◌≡◌, inl, inr, ◌∙◌, ℕ, ◌+◌, Bool, List, [], ◌∷◌, ◌++◌, map, take, length, Option, None, Some, Result, Ok, Err, ap, append_assoc, refl, sym, subst}
use Rattle.client_scripts.specs.Numbers.{AreTheirs, given_by, given_numbers, told_by_reply, told_numbers}
use Rattle.client_scripts.specs.Scripts as by_script
use Rattle.client_scripts.specs.Served.{AreServed}
use Rattle.client_scripts.specs.declared.script.Answered.{Answered}
use Rattle.client_run.specs.Answers.{AreSeriesTold, IsSearchTold, asked_of, compact_reply, counted_of, cut_reply, flush_reply, pushed_reply, reclaimed_reply, trace_reply}
use Rattle.otlp_spans.specs.declared.read.Reading.{Reading}
use Rattle.port_history.specs.Entries.{Entry, added_by, and_added, call_of, own}
use Rattle.port_history.proofs.Chains.{from_is_grown, legal_history}
use Rattle.query_fanout.specs.SearchAnswers.{IsSearchAnswer}
use Rattle.query_fanout.specs.TraceAnswers.{IsTraceAnswer}
use Rattle.query_fanout.specs.declared.error.QueryError.{QueryError}
use Rattle.query_fanout.specs.declared.searching.Asked.{Asked}
use Rattle.query_fanout.specs.declared.searching.SearchAnswer.{SearchAnswer}
use Rattle.query_fanout.specs.declared.trace.TraceAnswer.{TraceAnswer}
use Rattle.session_text.specs.declared.reply.Reply.{Reply}
use Rattle.session_text.specs.declared.reply.Reply.TheVariants as told
use Rattle.session_text.specs.declared.request.Request.TheVariants as request
use Rattle.session_text.specs.Items.{Item}
use Rattle.span_types.specs.declared.errors.Memory.{Memory}
use Rattle.store_entries.specs.declared.entry.Entry.{Entry as Added}
use Rattle.store_model.specs.Event.{Event as event, Reply as reply}
use Rattle.store_model.specs.Told.{added_entry}
use Rattle.store_state.specs.Made.{Call, call}
use Rattle.store_state.specs.Replies.{push_reply}
use Rattle.store_state.specs.declared.errors.PushError.{PushError}
use Rattle.store_state.specs.declared.errors.ReclaimError.{ReclaimError}
use Rattle.store_state.specs.declared.rounds.Round.{Round}
use Rattle.store_state.specs.declared.rounds.Round.TheVariants as round
use Rattle.session_meaning.specs.At.{At, history_of}
use Rattle.session_meaning.specs.Pushes.{accepted_entries, accepted_entry}
use Rattle.session_meaning.specs.ServedReplies.{AreAdded, HasTheirPushes}
use Rattle.session_meaning.specs.Serving.{Ran}
use Rattle.session_meaning.proofs.Pushless.{AllPushNothing, compaction_pushes_nothing, flush_pushes_nothing, query_pushes_nothing}
use Rattle.session_meaning.proofs.RoundLaws.{PushesNothing, asks_none}
use Rattle.session_meaning.proofs.ServedLaws.{numbers_given_once}
use Rattle.session_meaning.proofs.ServedPlaces.{led_legally}

-- ---- what calls add, and which numbers they give

abbrev added_of : List Call → List Added
added_of [] = []
added_of (c ∷ calls) = and_added (added_entry c.event c.reply) (added_of calls)

by_calls : (es : List Entry) → added_by es ≡ added_of (map call_of es)
by_calls [] = refl
by_calls (e ∷ es) = ap (and_added (added_entry e.event e.reply)) (by_calls es)

and_more : (one : Option Added) (xs ys : List Added) → and_added one (xs ++ ys) ≡ and_added one xs ++ ys
and_more None xs ys = refl
and_more (Some x) xs ys = refl

added_append : (front back : List Call) → added_of (front ++ back) ≡ added_of front ++ added_of back
added_append [] back = refl
added_append (c ∷ front) back =
    ap (and_added (added_entry c.event c.reply)) (added_append front back) ∙ and_more (added_entry c.event c.reply) (added_of front) (added_of back)

given_append : (front back : List Call) → given_numbers (front ++ back) ≡ given_numbers front ++ given_numbers back
given_append [] back = refl
given_append (c ∷ front) back =
    ap (λ (ns : List ℕ). given_by c.event c.reply ++ ns) (given_append front back) ∙ sym (append_assoc (given_by c.event c.reply) (given_numbers front) (given_numbers back))

-- an event that pushes nothing does neither
adds_none : (e : event) (r : reply) → PushesNothing e → added_entry e r ≡ None
adds_none e (reply.Count n) none = asks_none e none
adds_none e _ none = refl

gives_none : (e : event) (r : reply) → PushesNothing e → given_by e r ≡ []
gives_none (event.Push spans moment) r none = absurd none
gives_none _ r none = refl

none_added : (calls : List Call) → AllPushNothing calls → added_of calls ≡ []
none_added [] none = refl
none_added (c ∷ calls) none =
    ap (λ (o : Option Added). and_added o (added_of calls)) (adds_none c.event c.reply none.0) ∙ none_added calls none.1

none_given : (calls : List Call) → AllPushNothing calls → given_numbers calls ≡ []
none_given [] none = refl
none_given (c ∷ calls) none =
    ap (λ (ns : List ℕ). ns ++ given_numbers calls) (gives_none c.event c.reply none.0) ∙ none_given calls none.1

-- ---- what replies tell

trace_tells_none : (answer : Result TraceAnswer QueryError) → told_by_reply (trace_reply answer) ≡ []
trace_tells_none (Ok answer) = refl
trace_tells_none (Err why) = refl

search_tells_none : (asked : Asked) (answer : Result SearchAnswer QueryError) (r : Reply) → IsSearchTold asked answer r → told_by_reply r ≡ []
search_tells_none asked (Ok answer) r (inl is) = ap told_by_reply is
search_tells_none asked (Ok answer) r (inr is) = ap told_by_reply is
search_tells_none asked (Err why) r is = ap told_by_reply is

metrics_tells_none : (start end step : ℕ) (rate : Bool) (answer : Result SearchAnswer QueryError) (r : Reply) → AreSeriesTold start end step rate answer r → told_by_reply r ≡ []
metrics_tells_none start end step rate (Ok answer) r (inl (series, are, is)) = ap told_by_reply is
metrics_tells_none start end step rate (Ok answer) r (inr is) = ap told_by_reply is
metrics_tells_none start end step rate (Err why) r is = ap told_by_reply is

cut_tells_none : (answer : Result ℕ Memory) → (told_by_reply (cut_reply told.Cut answer) ≡ []) × (told_by_reply (cut_reply told.CutAll answer) ≡ [])
cut_tells_none (Ok moved) = (refl, refl)
cut_tells_none (Err why) = (refl, refl)

flush_tells_none : (r : Round) → told_by_reply (flush_reply r) ≡ []
flush_tells_none (round.Did blocks rows) = refl
flush_tells_none round.Nothing = refl
flush_tells_none (round.Refused why) = refl

compact_tells_none : (r : Round) → told_by_reply (compact_reply r) ≡ []
compact_tells_none (round.Did blocks rows) = refl
compact_tells_none round.Nothing = refl
compact_tells_none (round.Refused why) = refl

reclaim_tells_none : (answer : Result ℕ ReclaimError) → told_by_reply (reclaimed_reply answer) ≡ []
reclaim_tells_none (Ok files) = refl
reclaim_tells_none (Err why) = refl

-- ---- an item

-- The calls add what the reply tells to be accepted, and give the number that it tells.
abbrev Told : Item → Reply → List Call → Type 0
Told item r calls = (added_of calls ≡ accepted_entry item r) × (told_by_reply r ≡ given_numbers calls)

idle : (item : Item) (r : Reply) (calls : List Call) → accepted_entry item r ≡ [] → told_by_reply r ≡ [] → AllPushNothing calls → Told item r calls
idle item r calls none quiet all = (none_added calls all ∙ sym none, quiet ∙ sym (none_given calls all))

one_push : (reading : Reading) (moment : ℕ) (answer : Result ℕ PushError)
    → Told (Ok (request.Push reading moment)) (pushed_reply reading answer) (call (event.Push reading.batch.spans moment) (push_reply answer) ∷ [])
one_push reading moment (Ok number) = (refl, refl)
one_push reading moment (Err why) = (refl, refl)

item_told : (item : Item) (r : Reply) (calls : List Call) → by_script.IsItemAnswered item r calls → Told item r calls
item_told (Ok (request.Push reading moment)) r calls (answer, is, are) =
    subst (λ (x : Reply). Told (Ok (request.Push reading moment)) x calls) (sym is)
    (subst (λ (cs : List Call). Told (Ok (request.Push reading moment)) (pushed_reply reading answer) cs) (sym are) (one_push reading moment answer))
item_told (Ok (request.Trace id)) r calls (answer, is, asked) =
    idle (Ok (request.Trace id)) r calls refl (ap told_by_reply is ∙ trace_tells_none answer) (query_pushes_nothing (IsTraceAnswer id) answer calls asked)
item_told (Ok (request.Search s)) r calls (answer, is, asked) =
    idle (Ok (request.Search s)) r calls refl (search_tells_none (asked_of s) answer r is) (query_pushes_nothing (IsSearchAnswer (asked_of s)) answer calls asked)
item_told (Ok (request.Metrics m)) r calls (answer, is, asked) =
    idle (Ok (request.Metrics m)) r calls refl (metrics_tells_none m.start m.end m.step m.rate answer r is) (query_pushes_nothing (IsSearchAnswer (counted_of m)) answer calls asked)
item_told (Ok (request.Cut moment)) r calls (answer, is, are) =
    idle (Ok (request.Cut moment)) r calls refl (ap told_by_reply is ∙ (cut_tells_none answer).0) (subst AllPushNothing (sym are) (tt, tt))
item_told (Ok request.CutAll) r calls (answer, is, are) =
    idle (Ok request.CutAll) r calls refl (ap told_by_reply is ∙ (cut_tells_none answer).1) (subst AllPushNothing (sym are) (tt, tt))
item_told (Ok request.Flush) r calls (last, is, leads) =
    idle (Ok request.Flush) r calls refl (ap told_by_reply is ∙ flush_tells_none last) (flush_pushes_nothing calls last leads)
item_told (Ok request.Compact) r calls (last, is, leads) =
    idle (Ok request.Compact) r calls refl (ap told_by_reply is ∙ compact_tells_none last) (compaction_pushes_nothing calls last leads)
item_told (Ok request.Reclaim) r calls (answer, is, are) =
    idle (Ok request.Reclaim) r calls refl (ap told_by_reply is ∙ reclaim_tells_none answer) (subst AllPushNothing (sym are) (tt, tt))
item_told (Err why) r calls (is, none) = idle (Err why) r calls refl (ap told_by_reply is) (subst AllPushNothing (sym none) tt)

-- ---- a script

items_told : (items : List Item) (replies : List Reply) (calls : List Call) → by_script.AreItemsAnswered (take (length replies) items) replies calls
    → (added_of calls ≡ accepted_entries items replies) × (told_numbers replies ≡ given_numbers calls)
items_told [] [] calls (none, made) = (ap added_of made, sym (ap given_numbers made))
items_told [] (r ∷ replies) calls (none, made) = let bad : ⊥ = cc in absurd bad
items_told (item ∷ items) [] calls (none, made) = (ap added_of made, sym (ap given_numbers made))
items_told (item ∷ items) (r ∷ replies) calls (now, later, are, first, rest) =
    let here = item_told item r now first in
    let after = items_told items replies later rest in
    let adds : added_of now ++ added_of later ≡ accepted_entry item r ++ accepted_entries items replies = λ i. here.0 i ++ after.0 i in
    let tells : told_numbers (r ∷ replies) ≡ given_numbers now ++ given_numbers later = λ i. here.1 i ++ after.1 i in
    (ap added_of are ∙ added_append now later ∙ adds, tells ∙ sym (ap given_numbers are ∙ given_append now later))

all_theirs : (client : ℕ) (scripts : List (List Item)) (answers : List Answered) (es : List Entry) → AreServed client scripts answers es
    → AreAdded client scripts answers es × AreTheirs client answers es
all_theirs client [] answers es none = (none, subst (λ (xs : List Answered). AreTheirs client xs es) (sym none) tt)
all_theirs client (script ∷ scripts) [] es none = absurd none
all_theirs client (script ∷ scripts) (answered ∷ answers) es served =
    let one = items_told script answered.replies.items (map call_of (own (client ∷ []) es)) served.0.first in
    let rest = all_theirs (client + 1) scripts answers es served.1 in
    ((by_calls (own (client ∷ []) es) ∙ one.0, rest.0), (one.1, rest.1))

pub their_pushes : (told : Bool) (first last : At) (scripts : List (List Item)) (answers : List Answered) (entries : List Entry) → Ran told first scripts answers entries last
    → HasTheirPushes (history_of first) (history_of last) scripts answers entries
their_pushes told first last scripts answers entries ran =
    let theirs = all_theirs 0 scripts answers entries ran.served in record {
      grows = legal_history first.faults last.faults first.machine last.machine entries (led_legally told first last entries ran.lead) ∙ from_is_grown (history_of first) entries;
      whose = ran.whose;
      theirs = theirs.0;
      numbered = record { in_a_row = numbers_given_once told first last scripts answers entries ran; theirs = theirs.1 };
    }
