-- What follows of several clients that were answered at once.
use Rattle.std.proofs.Common.{◌≡◌, inl, inr, ◌∙◌, ℕ, zero, suc, ◌+◌, ◌<◌, ◌≤◌, ◌==◌, Bool, true, false, max, nat_lt, List, [], ◌∷◌, ◌++◌, map, take, length, Option, None, Result, Ok, Err, ap, arith, refl, sym, subst, if◌then◌else◌}
use Rattle.std.specs.List.{Contains}
use Rattle.std.proofs.lemmas.List.{take_all}
use Rattle.std.proofs.Math.Seq.{take-nil}
use Rattle.client_scripts.specs.Numbers.{AreInARow, given_by, given_numbers}
use Rattle.client_scripts.specs.Scripts as by_script
use Rattle.client_scripts.specs.Served.{AllTold, AreServed}
use Rattle.client_scripts.specs.Told.{AreTold, IsToldOf, TellsFrom, told_length}
use Rattle.client_scripts.specs.declared.script.Answered.{Answered}
use Rattle.client_run.specs.Answers.{IsMetricsTold, IsSearchTold, asked_of, counted_of, trace_reply}
use Rattle.io_edges.specs.Lines.{taken_limit}
use Rattle.io_edges.specs.Reader.{TakesBytes}
use Rattle.port_history.specs.Entries.{Entry, Legal, call_of, own}
use Rattle.query_fanout.specs.Queries.{Sound}
use Rattle.query_fanout.specs.SearchAnswers.{IsSearchAnswer}
use Rattle.query_fanout.specs.TraceAnswers.{IsTraceAnswer}
use Rattle.query_fanout.specs.declared.error.QueryError.{QueryError}
use Rattle.query_fanout.specs.declared.searching.Asked.{Asked}
use Rattle.query_fanout.specs.declared.searching.SearchAnswer.{SearchAnswer}
use Rattle.query_fanout.specs.declared.trace.TraceAnswer.{TraceAnswer}
use Rattle.session_text.specs.declared.reply.Reply.{Reply}
use Rattle.session_text.specs.declared.reply.Reply.TheVariants.{Refused}
use Rattle.session_text.specs.declared.request.Metrics.{Metrics}
use Rattle.session_text.specs.declared.request.Request.{Request}
use Rattle.session_text.specs.declared.request.Request.TheVariants as request
use Rattle.session_text.specs.declared.request.Search.{Search}
use Rattle.span_types.specs.declared.ids.TraceId.{TraceId}
use Rattle.session_text.specs.Items.{Item}
use Rattle.store_entries.specs.declared.entry.Entry.{Entry as Added}
use Rattle.store_model.specs.Event.{Event as event, Reply as told}
use Rattle.store_model.specs.History.{History, count_of, push_of, up_to, with_entry}
use Rattle.store_model.specs.Laws.{Agrees}
use Rattle.store_model.specs.State.{is_among}
use Rattle.store_model.specs.Step.{Machine}
use Rattle.store_model.specs.Told.{TellsLength, added_entry, asked_entry, history_after}
use Rattle.store_model.proofs.Numbers.{equal_itself, same_number}
use Rattle.store_model.proofs.TellsHistory.{step_tells}
use Rattle.client_scripts.proofs.ToldLemmas.{grown_count}
use Rattle.store_state.specs.Made.{Call}
use Rattle.session_meaning.specs.declared.ending.Ending.{Ending}
use Rattle.session_meaning.specs.declared.ending.Ending.TheVariants as ending
use Rattle.session_meaning.specs.Answering.{AreItemsAnswered}
use Rattle.session_meaning.specs.At.{At, history_of}
use Rattle.session_meaning.specs.Runs.{ComesToItsEnd, Edges, HasCause, ReadsWell}
use Rattle.session_meaning.specs.ServedReplies.{AllTellFronts, AskNothing, TellFronts, TellsFrontFrom}
use Rattle.session_meaning.specs.ServedRuns.{EndsServing, IsServedRun, Served}
use Rattle.session_meaning.specs.Serving.{Ran}
use Rattle.session_meaning.specs.Session.{IsFound, IsTraceIn, Session}
use Rattle.session_meaning.proofs.AnswerLaws.{session_means}
use Rattle.session_meaning.proofs.EndLaws.{by_ending, taken_within}
use Rattle.session_meaning.proofs.ServedPlaces.{as_answered, led_by_steps, led_legally}

-- ---- numbers

none_added : (e : event) (r : told) → asked_entry e ≡ None → added_entry e r ≡ None
none_added e (told.Count n) none = none
none_added e told.Fine none = refl
none_added e told.Nothing none = refl
none_added e (told.Flushing job) none = refl
none_added e (told.Compacting job) none = refl
none_added e (told.Looked look) none = refl
none_added e (told.Page bytes) none = refl
none_added e (told.Refused why) none = refl

-- an event that adds nothing gives no number
past : (e : event) (r : told) (h h' : History) (ns : List ℕ) → asked_entry e ≡ None → h' ≡ history_after e r h → AreInARow (count_of h') ns → AreInARow (count_of h) ns
past e r h h' ns none after row = subst (λ (g : History). AreInARow (count_of g) ns) (after ∙ ap (λ (o : Option Added). with_entry o h) (none_added e r none)) row

goes_on : (e : event) (r : told) (h h' : History) (ns : List ℕ) → h' ≡ history_after e r h → TellsLength e r h → AreInARow (count_of h') ns
    → AreInARow (count_of h) (given_by e r ++ ns)
goes_on (event.Push spans moment) (told.Count n) h h' ns after tells row =
    (tells, subst (λ (k : ℕ). AreInARow k ns) (ap count_of after ∙ grown_count h (push_of spans ∷ [])) row)
goes_on (event.Push spans moment) told.Fine h h' ns after tells row = subst (λ (g : History). AreInARow (count_of g) ns) after row
goes_on (event.Push spans moment) told.Nothing h h' ns after tells row = subst (λ (g : History). AreInARow (count_of g) ns) after row
goes_on (event.Push spans moment) (told.Flushing job) h h' ns after tells row = subst (λ (g : History). AreInARow (count_of g) ns) after row
goes_on (event.Push spans moment) (told.Compacting job) h h' ns after tells row = subst (λ (g : History). AreInARow (count_of g) ns) after row
goes_on (event.Push spans moment) (told.Looked look) h h' ns after tells row = subst (λ (g : History). AreInARow (count_of g) ns) after row
goes_on (event.Push spans moment) (told.Page bytes) h h' ns after tells row = subst (λ (g : History). AreInARow (count_of g) ns) after row
goes_on (event.Push spans moment) (told.Refused why) h h' ns after tells row = subst (λ (g : History). AreInARow (count_of g) ns) after row
goes_on (event.Cut moment) r h h' ns after tells row = past (event.Cut moment) r h h' ns refl after row
goes_on event.CutAll r h h' ns after tells row = past event.CutAll r h h' ns refl after row
goes_on event.Held r h h' ns after tells row = past event.Held r h h' ns refl after row
goes_on event.BeginFlush r h h' ns after tells row = past event.BeginFlush r h h' ns refl after row
goes_on event.BeginCompact r h h' ns after tells row = past event.BeginCompact r h h' ns refl after row
goes_on (event.WritePiece job file bytes) r h h' ns after tells row = past (event.WritePiece job file bytes) r h h' ns refl after row
goes_on (event.CommitFlush job size) r h h' ns after tells row = past (event.CommitFlush job size) r h h' ns refl after row
goes_on (event.CommitCompact job size) r h h' ns after tells row = past (event.CommitCompact job size) r h h' ns refl after row
goes_on (event.DropFlush job) r h h' ns after tells row = past (event.DropFlush job) r h h' ns refl after row
goes_on (event.DropCompact job) r h h' ns after tells row = past (event.DropCompact job) r h h' ns refl after row
goes_on event.Look r h h' ns after tells row = past event.Look r h h' ns refl after row
goes_on (event.ReadPage pin block page) r h h' ns after tells row = past (event.ReadPage pin block page) r h h' ns refl after row
goes_on (event.Done pin) r h h' ns after tells row = past (event.Done pin) r h h' ns refl after row
goes_on event.Reclaim r h h' ns after tells row = past event.Reclaim r h h' ns refl after row

in_a_row : (before after : ℕ) (m m' : Machine) (es : List Entry) → Legal before m es after m' → AreInARow (count_of m.history) (given_numbers (map call_of es))
in_a_row before after m m' [] legal = tt
in_a_row before after m m' (e ∷ es) legal =
    let tells = step_tells before e.after m legal.0 e.event e.reply legal.3 in
    goes_on e.event e.reply m.history legal.0.history (given_numbers (map call_of es)) tells.0 tells.1 (in_a_row e.after after legal.0 m' es legal.4)

pub numbers_given_once : (told : Bool) (first last : At) (scripts : List (List Item)) (answers : List Answered) (entries : List Entry) → Ran told first scripts answers entries last
    → AreInARow (count_of (history_of first)) (given_numbers (map call_of entries))
numbers_given_once told first last scripts answers entries ran = in_a_row first.faults last.faults first.machine last.machine entries (led_legally told first last entries ran.lead)

-- ---- one script

-- Whoever asks nothing makes no call.
no_call : (n : ℕ) (items : List Item) (replies : List Reply) (calls : List Call) → items ≡ [] → by_script.AreItemsAnswered (take n items) replies calls → calls ≡ []
no_call n items replies calls empty are = (subst (λ (xs : List Item). by_script.AreItemsAnswered xs replies calls) (ap (take n) empty ∙ take-nil n) are).1

none_of : (client : ℕ) (others : List (List Item)) (answers : List Answered) (entries : List Entry) → AskNothing others → AreServed client others answers entries
    → (seat : ℕ) → client ≤ seat → seat < client + length others → map call_of (own (seat ∷ []) entries) ≡ []
none_of client [] answers entries none served seat over below = absurd (omega (arith, over, below))
none_of client (script ∷ others) [] entries none served seat over below = absurd served
none_of client (script ∷ others) (answered ∷ answers) entries (is, none) (one, rest) seat over below =
    at (seat == client) refl (λ more. none_of (client + 1) others answers entries none rest seat more (omega (arith, below)))
  where
    at : (t : Bool) → (seat == client) ≡ t → (client + 1 ≤ seat → map call_of (own (seat ∷ []) entries) ≡ []) → map call_of (own (seat ∷ []) entries) ≡ []
    at true same later =
        subst (λ (n : ℕ). map call_of (own (n ∷ []) entries) ≡ []) (sym (same_number seat client same))
        (no_call (length answered.replies.items) script answered.replies.items (map call_of (own (client ∷ []) entries)) is one.first)
    at false not later = later (omega (arith, over, differs))
      where
        differs : seat ≡ client → ⊥
        differs is = let e : (seat == client) ≡ true = ap (λ (n : ℕ). n == client) is ∙ equal_itself client in let bad : ⊥ = cc in bad

-- Each call is of a seat below this number.
abbrev pub AllBelow : ℕ → List Entry → Type 0
AllBelow n [] = Unit {0}
AllBelow n (e ∷ es) = (e.seat < n) × AllBelow n es

pub all_below : (n : ℕ) (es : List Entry) → ((e : Entry) → Contains es e → e.seat < n) → AllBelow n es
all_below n [] whose = tt
all_below n (e ∷ es) whose = (whose e (0, omega arith, refl), all_below n es (λ x c. whose x (suc c.0, omega (arith, c.1), c.2)))

own_itself : (e : Entry) (es : List Entry) → own (e.seat ∷ []) (e ∷ es) ≡ e ∷ own (e.seat ∷ []) es
own_itself e es = rw (equal_itself e.seat) refl

no_more : (names : List ℕ) (e : Entry) (es : List Entry) → map call_of (own names (e ∷ es)) ≡ [] → map call_of (own names es) ≡ []
no_more names e es none = by_test (is_among e.seat names) none
  where
    by_test : (t : Bool) → map call_of (if t then e ∷ own names es else own names es) ≡ [] → map call_of (own names es) ≡ []
    by_test true h = let bad : ⊥ = cc in absurd bad
    by_test false h = h

-- Where each other seat made no call all calls are those of seat 0.
all_own : (n : ℕ) (es : List Entry) → AllBelow n es → ((seat : ℕ) → 1 ≤ seat → seat < n → map call_of (own (seat ∷ []) es) ≡ []) → own (0 ∷ []) es ≡ es
all_own n [] below none = refl
all_own n (e ∷ es) (here, below) none = at e.seat refl (all_own n es below (λ seat over under. no_more (seat ∷ []) e es (none seat over under)))
  where
    at : (seat : ℕ) → e.seat ≡ seat → own (0 ∷ []) es ≡ es → own (0 ∷ []) (e ∷ es) ≡ e ∷ es
    at zero is rest = subst (λ (k : ℕ). own (k ∷ []) (e ∷ es) ≡ e ∷ own (k ∷ []) es) is (own_itself e es) ∙ ap (λ (xs : List Entry). e ∷ xs) rest
    at (suc seat) is rest =
        let gone : map call_of (e ∷ own (e.seat ∷ []) es) ≡ [] = ap (map call_of) (sym (own_itself e es)) ∙ none e.seat (omega (arith, is)) here in
        let bad : ⊥ = cc in absurd bad

pub not_fewer : (a b : ℕ) → nat_lt a b ≡ false → b ≤ a
not_fewer a b is = grind arith

pub one_session : (told : Bool) (first last : At) (script : List Item) (others : List (List Item)) (answered : Answered) (answers : List Answered) (entries : List Entry)
    → Ran told first (script ∷ others) (answered ∷ answers) entries last → AskNothing others → Agrees first.machine → answered.starved ≡ false
    → Session false first script answered.replies.items last
one_session told first last script others answered answers entries ran none agrees whole =
    let n = length others in
    let all : own (0 ∷ []) entries ≡ entries =
    all_own (1 + n) entries (all_below (1 + n) entries (λ e c. omega (arith, ran.whose e c))) (λ seat over under. none_of 1 others answers entries none ran.served.1 seat over under) in
    let enough : length script ≤ length answered.replies.items = not_fewer (length answered.replies.items) (length script) (sym ran.served.0.starved ∙ whole) in
    let items : take (length answered.replies.items) script ≡ script = take_all (length answered.replies.items) script enough in
    session_means script answered.replies.items (map call_of entries) first last agrees
    (as_answered script answered.replies.items (map call_of entries)
    (subst (λ (es : List Entry). by_script.AreItemsAnswered script answered.replies.items (map call_of es)) all
    (subst (λ (is : List Item). by_script.AreItemsAnswered is answered.replies.items (map call_of (own (0 ∷ []) entries))) items ran.served.0.first)))
    (led_by_steps told first last entries ran.lead)

-- ---- what was seen

trace_told : (h : History) (least : ℕ) (id : TraceId) (answer : Result TraceAnswer QueryError) → Sound (TellsFrom (IsTraceAnswer id) least h) answer
    → TellsFrontFrom h least (request.Trace id) (trace_reply answer)
trace_told h least id (Ok a) (n, over, under, tells) =
    subst (λ (k : ℕ). (least ≤ k) × (k ≤ count_of h) × IsTraceIn id (up_to k h) a.rows) (sym tells.count) (over, under, tells.firsts)
trace_told h least id (Err e) sound = tt

found_at : (h : History) (least : ℕ) (asked : Asked) (a : SearchAnswer) → TellsFrom (IsSearchAnswer asked) least h a
    → (least ≤ a.as_of) × (a.as_of ≤ count_of h) × IsFound asked (up_to a.as_of h) a.results
found_at h least asked a (n, over, under, tells) =
    subst (λ (k : ℕ). (least ≤ k) × (k ≤ count_of h) × IsFound asked (up_to k h) a.results) (sym tells.count)
    (over, under, record { rows = tells.firsts; firsts = tells.are_first; answer = tells.found })

search_told : (h : History) (least : ℕ) (s : Search) (answer : Result SearchAnswer QueryError) (r : Reply) → IsSearchTold (asked_of s) answer r
    → Sound (TellsFrom (IsSearchAnswer (asked_of s)) least h) answer → TellsFrontFrom h least (request.Search s) r
search_told h least s (Ok a) r (inl is) sound =
    let found = found_at h least (asked_of s) a sound in
    subst (λ (x : Reply). TellsFrontFrom h least (request.Search s) x) (sym is) (found.0, found.1, refl, found.2)
search_told h least s (Ok a) r (inr is) sound = subst (λ (x : Reply). TellsFrontFrom h least (request.Search s) x) (sym is) tt
search_told h least s (Err e) r is sound = subst (λ (x : Reply). TellsFrontFrom h least (request.Search s) x) (sym is) tt

metrics_told : (h : History) (least : ℕ) (m : Metrics) (answer : Result SearchAnswer QueryError) (r : Reply) → IsMetricsTold m answer r
    → Sound (TellsFrom (IsSearchAnswer (counted_of m)) least h) answer → TellsFrontFrom h least (request.Metrics m) r
metrics_told h least m (Ok a) r (inl (series, are, is)) sound =
    let found = found_at h least (counted_of m) a sound in
    subst (λ (x : Reply). TellsFrontFrom h least (request.Metrics m) x) (sym is) (found.0, found.1, (a.results, found.2, are))
metrics_told h least m (Ok a) r (inr is) sound = subst (λ (x : Reply). TellsFrontFrom h least (request.Metrics m) x) (sym is) tt
metrics_told h least m (Err e) r is sound = subst (λ (x : Reply). TellsFrontFrom h least (request.Metrics m) x) (sym is) tt

one_told : (h : History) (least : ℕ) (asked : Request) (r : Reply) → IsToldOf h least asked r → TellsFrontFrom h least asked r
one_told h least (request.Trace id) r (answer, is, sound) = subst (λ (x : Reply). TellsFrontFrom h least (request.Trace id) x) (sym is) (trace_told h least id answer sound)
one_told h least (request.Search s) r (answer, is, sound) = search_told h least s answer r is sound
one_told h least (request.Metrics m) r (answer, is, sound) = metrics_told h least m answer r is sound
one_told h least (request.Push reading moment) r told = tt
one_told h least (request.Cut moment) r told = tt
one_told h least request.CutAll r told = tt
one_told h least request.Flush r told = tt
one_told h least request.Compact r told = tt
one_told h least request.Reclaim r told = tt

fronts_told : (h : History) (least : ℕ) (items : List Item) (replies : List Reply) → AreTold h least items replies → TellFronts h least items replies
fronts_told h least [] replies told = tt
fronts_told h least (item ∷ items) [] told = tt
fronts_told h least (Err why ∷ items) (r ∷ replies) told = fronts_told h least items replies told
fronts_told h least (Ok asked ∷ items) (r ∷ replies) (one, rest) = (one_told h least asked r one, fronts_told h (max least (told_length r)) items replies rest)

all_fronts : (h : History) (least : ℕ) (scripts : List (List Item)) (answers : List Answered) → AllTold h least scripts answers → AllTellFronts h least scripts answers
all_fronts h least [] answers told = tt
all_fronts h least (script ∷ scripts) [] told = tt
all_fronts h least (script ∷ scripts) (answered ∷ answers) (one, rest) = (fronts_told h least script answered.replies.items one, all_fronts h least scripts answers rest)

pub seen_counts : (first last : At) (scripts : List (List Item)) (answers : List Answered) (entries : List Entry) → Ran true first scripts answers entries last
    → AllTellFronts (history_of last) (count_of (history_of first)) scripts answers
seen_counts first last scripts answers entries ran = all_fronts (history_of last) (count_of (history_of first)) scripts answers (ran.seen refl)

-- ---- how a run ends

not_so : (e x : Ending) (answers : List Answered) (old new : Edges) → EndsServing e answers old.taken new.taken → (EndsServing x answers old.taken new.taken → ⊥) → e ≡ x → ⊥
not_so e x answers old new ends none is = none (subst (λ (k : Ending). EndsServing k answers old.taken new.taken) is ends)

pub serving_ends : (told : Bool) (clients rounds : ℕ) (s : Served) (old new : Edges) → IsServedRun told clients rounds s old new → ReadsWell old new → ComesToItsEnd s.ending
serving_ends told clients rounds s old new run well =
    by_ending s.ending (not_so s.ending ending.BadWords s.answers old new run.ends (λ h. h))
    (λ is. well.1 (caused ending.WriteFault is))
    (λ is. well.2 (caused ending.ReadFault is))
    (not_so s.ending ending.NotOpened s.answers old new run.ends (λ h. h))
    (λ file at is. not_so s.ending (ending.NotStore file at) s.answers old new run.ends (λ h. h) is)
    (λ is. let took : TakesBytes old.left new.left 0 taken_limit = caused ending.Spent is in
    let most = taken_within well.3 new.left taken_limit (subst (λ (l : Option (List ℕ)). TakesBytes l new.left 0 taken_limit) well.4 took) in
    let less = well.5 in
    absurd (omega (arith, most, less)))
  where
    caused : (e : Ending) → s.ending ≡ e → HasCause e old new
    caused e is = subst (λ (k : Ending). HasCause k old new) is run.cause
