-- What is answered by calls is answered as the history says.
use Rattle.std.specs.Prelude.{⊤}
use Rattle.std.proofs.Common.{◌≡◌, inl, inr, ℕ, Bool, true, false, List, [], ◌∷◌, ◌++◌, Result, Ok, Err, refl, sym, ◌∙◌, ap, subst}
use Rattle.span_types.specs.declared.ids.TraceId.{TraceId}
use Rattle.span_types.specs.declared.spans.Row.{Row}
use Rattle.span_types.specs.declared.spans.Span.{Span}
use Rattle.query_fanout.specs.Queries.{IsGrown, Sound, TellsOf, is_fault}
use Rattle.query_fanout.specs.SearchAnswers.{IsSearchAnswer}
use Rattle.query_fanout.specs.TraceAnswers.{IsTraceAnswer}
use Rattle.query_fanout.specs.declared.error.QueryError.{QueryError}
use Rattle.query_fanout.specs.declared.error.QueryError.TheVariants as error
use Rattle.query_fanout.specs.declared.searching.SearchAnswer.{SearchAnswer}
use Rattle.query_fanout.specs.declared.trace.TraceAnswer.{TraceAnswer}
use Rattle.search_text.specs.Fields.{printed_fields}
use Rattle.spanset_eval.specs.declared.results.TraceResult.{TraceResult}
use Rattle.spanset_eval.specs.declared.series.Series.{Series}
use Rattle.traceql_metrics.specs.Series.{AreSeries}
use Rattle.traceql_syntax.specs.Trees.{query_tree}
use Rattle.session_text.specs.declared.reply.Reply.{Reply}
use Rattle.session_text.specs.declared.reply.Reply.TheVariants.{Measured, Refused, Searched, Traced}
use Rattle.session_text.specs.declared.refusal.Refusal.{Refusal}
use Rattle.session_text.specs.declared.refusal.Refusal.TheVariants.{DiskFault, Memory, Round}
use Rattle.session_text.specs.declared.request.Request.TheVariants as request
use Rattle.session_text.specs.declared.request.Metrics.{Metrics}
use Rattle.session_text.specs.declared.request.Search.{Search}
use Rattle.session_text.specs.Items.{Item}
use Rattle.store_model.specs.Cut.{is_idle}
use Rattle.store_model.specs.Event.{Event as event, Reply as reply}
use Rattle.store_model.specs.Event.Event.{BeginCompact, BeginFlush}
use Rattle.store_model.specs.History.{History, count_of, history_rows}
use Rattle.store_model.specs.Laws.{Agrees}
use Rattle.store_model.specs.Step.{Machine, Step}
use Rattle.store_model.specs.Told.{AreCounted}
use Rattle.store_model.proofs.KeepsFirsts as firsts
use Rattle.store_model.proofs.Outcomes.{kept_by}
use Rattle.store_state.specs.Replies.{count_reply, push_reply, reclaim_reply}
use Rattle.store_state.specs.Made.{Call, call}
use Rattle.store_state.specs.declared.rounds.Refusal.TheVariants as cause
use Rattle.store_state.specs.declared.rounds.Round.{Round as RoundEnd}
use Rattle.store_state.specs.declared.rounds.Round.TheVariants as round_is
use Rattle.client_run.specs.Answers.{IsMetricsTold, IsSearchTold, TellsHistory, asked_of, compact_reply, counted_of, query_refusal, trace_reply}
use Rattle.compactor.specs.Rounds.{FoundBlocks}
use Rattle.client_run.specs.CoreRuns.{AreSteps}
use Rattle.session_meaning.specs.Answering.{AreItemsAnswered, CallsLead, IsItemAnswered}
use Rattle.session_meaning.specs.At.{At, IsStep, IsStill, IsUnchanged, history_of}
use Rattle.session_meaning.specs.Causes.{HasQueryCause, is_disk_fault}
use Rattle.session_meaning.specs.Rounds.{IsTold}
use Rattle.session_meaning.specs.Session.{AreSeen, IsAnswered, IsAnsweredOrRefused, Session}
use Rattle.session_meaning.specs.Upkeep.{IsClosed}
use Rattle.session_meaning.proofs.CutLaws.{cut_closes, cuts_all, cuts_idle}
use Rattle.session_meaning.proofs.QueryLaws.{Says, asked_says, told_at, told_exactly}
use Rattle.session_meaning.proofs.ReclaimLaws.{reclaim_closes}
use Rattle.session_meaning.proofs.RoundLaws.{round_closes, round_keeps}
use Rattle.session_meaning.proofs.Seen.{all_firsts, all_rows, found_seen, search_over, seen_told, seen_untold, trace_over, trace_seen}
use Rattle.session_meaning.proofs.RoundSteps.IsBegin.{OfCompaction, OfFlush}
use Rattle.session_meaning.proofs.Rounds.{compaction_does, flush_does}
use Rattle.session_meaning.proofs.Steps.{one_step}

-- ---- one item

at_same : (before after : At) → after.faults ≡ before.faults → after.machine ≡ before.machine → after ≡ before
at_same before after faults machine =
    ap (λ (n : ℕ). record { machine = after.machine; faults = n }) faults ∙ ap (λ (m : Machine). record { machine = m; faults = before.faults }) machine

-- ---- a look-up

-- What it is told of the rows that it sees.
traced : (told : Bool) (id : TraceId) (before after : At) (r : Reply) (rows : List Row) (answer : TraceAnswer) → r ≡ trace_reply (Ok answer) → IsStill before after
    → AreSeen told before rows → IsTraceAnswer id (count_of (history_of before)) rows answer
    → IsAnsweredOrRefused told (Ok (request.Trace id)) before r after
traced told id before after r rows answer is still are tells =
    inl (
      answer.rows,
      trace_seen told id (count_of (history_of before)) before rows answer are tells,
      is ∙ ap (λ (n : ℕ). Traced n answer.rows) tells.count,
      still,
    )

refused : (told : Bool) (id : TraceId) (before after : At) (r : Reply) (why : Refusal) → r ≡ Refused why → HasQueryCause told why before after → IsUnchanged (is_disk_fault why) before after
    → IsAnsweredOrRefused told (Ok (request.Trace id)) before r after
refused told id before after r why is holds still = inr (why, is, holds, still)

-- Whatever the blocks hold.
trace_means : (id : TraceId) (before after : At) (r : Reply) (answer : Result TraceAnswer QueryError) → Agrees before.machine → r ≡ trace_reply answer → IsUnchanged (is_fault answer) before after
    → Says (IsTraceAnswer id) answer before after → IsAnsweredOrRefused false (Ok (request.Trace id)) before r after
trace_means id before after r (Ok answer) agrees is still (outside, more, moved, none, tells) =
    traced false id before after r (outside ++ more) answer is still (seen_untold before outside more agrees moved none) tells
trace_means id before after r (Err error.Fault) agrees is still rose = refused false id before after r DiskFault is rose still
trace_means id before after r (Err (error.NotBlock file at)) agrees is still among = refused false id before after r (Round (cause.NotBlock file at)) is (refl, among) still
trace_means id before after r (Err error.Memory) agrees is still any = refused false id before after r Memory is tt still

same_traced : (a b : ℕ) (rows more : List Row) → Traced a rows ≡ Traced b more → (a ≡ b) × (rows ≡ more)
same_traced a b rows more e = (cc, cc)

same_trace : (a b : TraceAnswer) → a.as_of ≡ b.as_of → a.rows ≡ b.rows → a ≡ b
same_trace a b as_of rows = ap (λ (n : ℕ). record { as_of = n; rows = a.rows }) as_of ∙ ap (λ (rs : List Row). record { as_of = b.as_of; rows = rs }) rows

-- Where what they hold is told.
trace_told : (id : TraceId) (before after : At) (later : History) (grows : IsGrown (history_of before) later) (r : Reply) (answer other : Result TraceAnswer QueryError) → Agrees before.machine → r ≡ trace_reply answer → IsUnchanged (is_fault answer) before after
    → Says (IsTraceAnswer id) answer before after → r ≡ trace_reply other → Sound (TellsOf (IsTraceAnswer id) (history_of before) later) other
    → IsAnsweredOrRefused true (Ok (request.Trace id)) before r after
trace_told id before after later grows r (Ok answer) (Ok other) agrees is still (outside, more, moved, none, tells) also sound =
    let equal = same_traced answer.as_of other.as_of answer.rows other.rows (sym is ∙ also) in
    let own : TellsOf (IsTraceAnswer id) (history_of before) later answer =
    subst (λ (x : TraceAnswer). TellsOf (IsTraceAnswer id) (history_of before) later x) (sym (same_trace answer other equal.0 equal.1)) sound in
    let h : History = history_of before in
    traced true id before after r (all_rows before outside) answer is still (seen_told true before outside agrees moved)
    (trace_over id (count_of h) (history_rows h) (all_rows before outside) answer (λ k. sym (all_firsts before outside agrees moved k))
    (told_exactly (IsTraceAnswer id) (λ (x : TraceAnswer). x.as_of) (λ n rs x t. t.count) h later (outside ++ more) answer grows tells own))
trace_told id before after later grows r (Ok answer) (Err why) agrees is still says also sound = let bad : ⊥ = (let e = sym is ∙ also in cc) in absurd bad
trace_told id before after later grows r (Err error.Fault) other agrees is still rose also sound = refused true id before after r DiskFault is rose still
trace_told id before after later grows r (Err (error.NotBlock file at)) (Ok other) agrees is still among also sound = let bad : ⊥ = (let e = sym is ∙ also in cc) in absurd bad
trace_told id before after later grows r (Err (error.NotBlock file at)) (Err error.Fault) agrees is still among also sound = let bad : ⊥ = (let e = sym is ∙ also in cc) in absurd bad
trace_told id before after later grows r (Err (error.NotBlock file at)) (Err (error.NotBlock f a)) agrees is still among also sound = absurd sound
trace_told id before after later grows r (Err (error.NotBlock file at)) (Err error.Memory) agrees is still among also sound = let bad : ⊥ = (let e = sym is ∙ also in cc) in absurd bad
trace_told id before after later grows r (Err error.Memory) other agrees is still any also sound = refused true id before after r Memory is tt still

-- ---- a search

abbrev fields_of : Search → List (List ℕ)
fields_of s = printed_fields (query_tree s.checked.query)

found : (told : Bool) (s : Search) (before after : At) (r : Reply) (rows : List Row) (answer : SearchAnswer) → r ≡ Searched answer.as_of (fields_of s) answer.results → IsStill before after
    → AreSeen told before rows → IsSearchAnswer (asked_of s) (count_of (history_of before)) rows answer
    → IsAnsweredOrRefused told (Ok (request.Search s)) before r after
found told s before after r rows answer is still are tells =
    inl (
      answer.results,
      found_seen told (asked_of s) (count_of (history_of before)) before rows answer are tells,
      is ∙ ap (λ (n : ℕ). Searched n (fields_of s) answer.results) tells.count,
      still,
    )

not_found : (told : Bool) (s : Search) (before after : At) (r : Reply) (why : Refusal) → r ≡ Refused why → HasQueryCause told why before after → IsUnchanged (is_disk_fault why) before after
    → IsAnsweredOrRefused told (Ok (request.Search s)) before r after
not_found told s before after r why is holds still = inr (why, is, holds, still)

search_means : (s : Search) (before after : At) (r : Reply) (answer : Result SearchAnswer QueryError) → Agrees before.machine → IsSearchTold (asked_of s) answer r → IsUnchanged (is_fault answer) before after
    → Says (IsSearchAnswer (asked_of s)) answer before after → IsAnsweredOrRefused false (Ok (request.Search s)) before r after
search_means s before after r (Ok answer) agrees (inl is) still (outside, more, moved, none, tells) =
    found false s before after r (outside ++ more) answer is still (seen_untold before outside more agrees moved none) tells
search_means s before after r (Ok answer) agrees (inr is) still says = not_found false s before after r Memory is tt still
search_means s before after r (Err error.Fault) agrees is still rose = not_found false s before after r DiskFault is rose still
search_means s before after r (Err (error.NotBlock file at)) agrees is still among = not_found false s before after r (Round (cause.NotBlock file at)) is (refl, among) still
search_means s before after r (Err error.Memory) agrees is still any = not_found false s before after r Memory is tt still

same_searched : (a b : ℕ) (fields : List (List ℕ)) (results more : List TraceResult) → Searched a fields results ≡ Searched b fields more → (a ≡ b) × (results ≡ more)
same_searched a b fields results more e = (cc, cc)

same_search : (a b : SearchAnswer) → a.as_of ≡ b.as_of → a.results ≡ b.results → a ≡ b
same_search a b as_of results = ap (λ (n : ℕ). record { as_of = n; results = a.results }) as_of ∙ ap (λ (rs : List TraceResult). record { as_of = b.as_of; results = rs }) results

not_refused : (as_of : ℕ) (fields : List (List ℕ)) (results : List TraceResult) (why : Refusal) → Searched as_of fields results ≡ Refused why → ⊥
not_refused as_of fields results why e = cc

search_told : (s : Search) (before after : At) (later : History) (grows : IsGrown (history_of before) later) (r : Reply) (answer other : Result SearchAnswer QueryError) → Agrees before.machine → IsSearchTold (asked_of s) answer r → IsUnchanged (is_fault answer) before after
    → Says (IsSearchAnswer (asked_of s)) answer before after → IsSearchTold (asked_of s) other r → Sound (TellsOf (IsSearchAnswer (asked_of s)) (history_of before) later) other
    → IsAnsweredOrRefused true (Ok (request.Search s)) before r after
search_told s before after later grows r (Ok answer) (Ok other) agrees (inl is) still (outside, more, moved, none, tells) (inl also) sound =
    let equal = same_searched answer.as_of other.as_of (fields_of s) answer.results other.results (sym is ∙ also) in
    let own : TellsOf (IsSearchAnswer (asked_of s)) (history_of before) later answer =
    subst (λ (x : SearchAnswer). TellsOf (IsSearchAnswer (asked_of s)) (history_of before) later x) (sym (same_search answer other equal.0 equal.1)) sound in
    let h : History = history_of before in
    found true s before after r (all_rows before outside) answer is still (seen_told true before outside agrees moved)
    (search_over (asked_of s) (count_of h) (history_rows h) (all_rows before outside) answer (λ k. sym (all_firsts before outside agrees moved k))
    (told_exactly (IsSearchAnswer (asked_of s)) (λ (x : SearchAnswer). x.as_of) (λ n rs x t. t.count) h later (outside ++ more) answer grows tells own))
search_told s before after later grows r (Ok answer) (Ok other) agrees (inl is) still says (inr also) sound =
    absurd (not_refused answer.as_of (fields_of s) answer.results Memory (sym is ∙ also))
search_told s before after later grows r (Ok answer) (Err why) agrees (inl is) still says also sound =
    absurd (not_refused answer.as_of (fields_of s) answer.results (query_refusal why) (sym is ∙ also))
search_told s before after later grows r (Ok answer) other agrees (inr is) still says also sound = not_found true s before after r Memory is tt still
search_told s before after later grows r (Err error.Fault) other agrees is still rose also sound = not_found true s before after r DiskFault is rose still
search_told s before after later grows r (Err (error.NotBlock file at)) (Ok other) agrees is still among (inl also) sound =
    absurd (not_refused other.as_of (fields_of s) other.results (query_refusal (error.NotBlock file at)) (sym also ∙ is))
search_told s before after later grows r (Err (error.NotBlock file at)) (Ok other) agrees is still among (inr also) sound = let bad : ⊥ = (let e = sym is ∙ also in cc) in absurd bad
search_told s before after later grows r (Err (error.NotBlock file at)) (Err error.Fault) agrees is still among also sound = let bad : ⊥ = (let e = sym is ∙ also in cc) in absurd bad
search_told s before after later grows r (Err (error.NotBlock file at)) (Err (error.NotBlock f a)) agrees is still among also sound = absurd sound
search_told s before after later grows r (Err (error.NotBlock file at)) (Err error.Memory) agrees is still among also sound = let bad : ⊥ = (let e = sym is ∙ also in cc) in absurd bad
search_told s before after later grows r (Err error.Memory) other agrees is still any also sound = not_found true s before after r Memory is tt still

-- ---- a metrics query

measured : (told : Bool) (m : Metrics) (before after : At) (r : Reply) (rows : List Row) (answer : SearchAnswer) (series : List Series) → AreSeries answer.results m.start m.end m.step m.rate series
    → r ≡ Measured answer.as_of series → IsStill before after → AreSeen told before rows
    → IsSearchAnswer (counted_of m) (count_of (history_of before)) rows answer → IsAnsweredOrRefused told (Ok (request.Metrics m)) before r after
measured told m before after r rows answer series are is still seen tells =
    inl (
      answer.results,
      series,
      found_seen told (counted_of m) (count_of (history_of before)) before rows answer seen tells,
      are,
      is ∙ ap (λ (n : ℕ). Measured n series) tells.count,
      still,
    )

not_measured : (told : Bool) (m : Metrics) (before after : At) (r : Reply) (why : Refusal) → r ≡ Refused why → HasQueryCause told why before after → IsUnchanged (is_disk_fault why) before after
    → IsAnsweredOrRefused told (Ok (request.Metrics m)) before r after
not_measured told m before after r why is holds still = inr (why, is, holds, still)

metrics_means : (m : Metrics) (before after : At) (r : Reply) (answer : Result SearchAnswer QueryError) → Agrees before.machine → IsMetricsTold m answer r → IsUnchanged (is_fault answer) before after
    → Says (IsSearchAnswer (counted_of m)) answer before after → IsAnsweredOrRefused false (Ok (request.Metrics m)) before r after
metrics_means m before after r (Ok answer) agrees (inl (series, are, is)) still (outside, more, moved, none, tells) =
    measured false m before after r (outside ++ more) answer series are is still (seen_untold before outside more agrees moved none) tells
metrics_means m before after r (Ok answer) agrees (inr is) still says = not_measured false m before after r Memory is tt still
metrics_means m before after r (Err error.Fault) agrees is still rose = not_measured false m before after r DiskFault is rose still
metrics_means m before after r (Err (error.NotBlock file at)) agrees is still among = not_measured false m before after r (Round (cause.NotBlock file at)) is (refl, among) still
metrics_means m before after r (Err error.Memory) agrees is still any = not_measured false m before after r Memory is tt still

same_measured : (a b : ℕ) (series more : List Series) → Measured a series ≡ Measured b more → a ≡ b
same_measured a b series more e = cc

measured_not_refused : (as_of : ℕ) (series : List Series) (why : Refusal) → Measured as_of series ≡ Refused why → ⊥
measured_not_refused as_of series why e = cc

-- The series may be those of other results than were found, but these are found at the history too, since the counts are one.
metrics_told : (m : Metrics) (before after : At) (later : History) (grows : IsGrown (history_of before) later) (r : Reply) (answer other : Result SearchAnswer QueryError) → Agrees before.machine → IsMetricsTold m answer r → IsUnchanged (is_fault answer) before after
    → Says (IsSearchAnswer (counted_of m)) answer before after → IsMetricsTold m other r → Sound (TellsOf (IsSearchAnswer (counted_of m)) (history_of before) later) other
    → IsAnsweredOrRefused true (Ok (request.Metrics m)) before r after
metrics_told m before after later grows r (Ok answer) (Ok other) agrees (inl (series, are, is)) still (outside, more, moved, none, tells) (inl (others, are_others, also)) sound =
    let h : History = history_of before in
    let count : other.as_of ≡ count_of h = sym (same_measured answer.as_of other.as_of series others (sym is ∙ also)) ∙ tells.count in
    measured true m before after r (all_rows before outside) other others are_others also still (seen_told true before outside agrees moved)
    (search_over (counted_of m) (count_of h) (history_rows h) (all_rows before outside) other (λ k. sym (all_firsts before outside agrees moved k))
    (told_at (IsSearchAnswer (counted_of m)) (λ (x : SearchAnswer). x.as_of) (λ n rs x t. t.count) h later other grows count sound))
metrics_told m before after later grows r (Ok answer) (Ok other) agrees (inl (series, are, is)) still says (inr also) sound =
    absurd (measured_not_refused answer.as_of series Memory (sym is ∙ also))
metrics_told m before after later grows r (Ok answer) (Err why) agrees (inl (series, are, is)) still says also sound =
    absurd (measured_not_refused answer.as_of series (query_refusal why) (sym is ∙ also))
metrics_told m before after later grows r (Ok answer) other agrees (inr is) still says also sound = not_measured true m before after r Memory is tt still
metrics_told m before after later grows r (Err error.Fault) other agrees is still rose also sound = not_measured true m before after r DiskFault is rose still
metrics_told m before after later grows r (Err (error.NotBlock file at)) (Ok other) agrees is still among (inl (more, are_more, also)) sound =
    absurd (measured_not_refused other.as_of more (query_refusal (error.NotBlock file at)) (sym also ∙ is))
metrics_told m before after later grows r (Err (error.NotBlock file at)) (Ok other) agrees is still among (inr also) sound = let bad : ⊥ = (let e = sym is ∙ also in cc) in absurd bad
metrics_told m before after later grows r (Err (error.NotBlock file at)) (Err error.Fault) agrees is still among also sound = let bad : ⊥ = (let e = sym is ∙ also in cc) in absurd bad
metrics_told m before after later grows r (Err (error.NotBlock file at)) (Err (error.NotBlock f a)) agrees is still among also sound = absurd sound
metrics_told m before after later grows r (Err (error.NotBlock file at)) (Err error.Memory) agrees is still among also sound = let bad : ⊥ = (let e = sym is ∙ also in cc) in absurd bad
metrics_told m before after later grows r (Err error.Memory) other agrees is still any also sound = not_measured true m before after r Memory is tt still

-- ---- any item

-- A line that isn't a query is answered as its calls say, whatever the blocks hold.
by_call : (e : event) (r : reply) (before after : At) (calls : List Call) → calls ≡ call e r ∷ [] → CallsLead before calls after → IsStep before e r after
by_call e r before after calls are lead = one_step before after e r (subst (λ (cs : List Call). CallsLead before cs after) are lead)

-- ---- what is told by the way

-- What is told of the history, and of blocks that are read.
abbrev pub IsItemTold : History → Item → Reply → Type 0
IsItemTold h (Ok asked) r = (later : History) × IsGrown h later × TellsHistory h later asked r
IsItemTold h (Err why) r = ⊤

-- Where what the blocks hold is told: that, and how many rows the listed blocks have afterwards.
abbrev pub TellsBlocks : Bool → History → Item → Reply → At → Type 0
TellsBlocks told h item r after = told ≡ true → IsItemTold h item r × AreCounted after.machine.state.blocks

same_round : (a b : RoundEnd) → compact_reply a ≡ compact_reply b → a ≡ b
same_round (round_is.Did b r) (round_is.Did c s) e = cc
same_round (round_is.Did b r) round_is.Nothing e = let bad : ⊥ = cc in absurd bad
same_round (round_is.Did b r) (round_is.Refused w) e = let bad : ⊥ = cc in absurd bad
same_round round_is.Nothing (round_is.Did c s) e = let bad : ⊥ = cc in absurd bad
same_round round_is.Nothing round_is.Nothing e = refl
same_round round_is.Nothing (round_is.Refused w) e = let bad : ⊥ = cc in absurd bad
same_round (round_is.Refused v) (round_is.Did c s) e = let bad : ⊥ = cc in absurd bad
same_round (round_is.Refused v) round_is.Nothing e = let bad : ⊥ = cc in absurd bad
same_round (round_is.Refused v) (round_is.Refused w) e = cc

is_told : (round : RoundEnd) (after : At) → FoundBlocks round → AreCounted after.machine.state.blocks → IsTold round after
is_told (round_is.Did blocks rows) after found are = are
is_told round_is.Nothing after found are = tt
is_told (round_is.Refused (cause.NotBlock file at)) after found are = found
is_told (round_is.Refused (cause.ReadOnly faults)) after found are = tt
is_told (round_is.Refused (cause.Busy number)) after found are = tt
is_told (round_is.Refused (cause.FilesSpent next)) after found are = tt
is_told (round_is.Refused cause.Fault) after found are = tt
is_told (round_is.Refused cause.Memory) after found are = tt

compaction_told : (told : Bool) (h : History) (r : Reply) (round : RoundEnd) (after : At) → r ≡ compact_reply round → TellsBlocks told h (Ok request.Compact) r after → told ≡ true → IsTold round after
compaction_told told h r round after is tells sure =
    let all = tells sure in
    let other = all.0.2 in
    is_told round after (subst FoundBlocks (sym (same_round round other.0 (sym is ∙ other.1))) other.2) all.1

untold : (h : History) (item : Item) (r : Reply) (after : At) → TellsBlocks false h item r after
untold h item r after e = let bad : ⊥ = cc in absurd bad

abbrev pub IsQuery : Item → Type 0
IsQuery (Ok (request.Trace id)) = ⊤
IsQuery (Ok (request.Search s)) = ⊤
IsQuery (Ok (request.Metrics m)) = ⊤
IsQuery _ = ⊥

pub line_means : (told : Bool) (item : Item) (before after : At) (r : Reply) (calls : List Call) → (IsQuery item → ⊥) → TellsBlocks told (history_of before) item r after
    → IsItemAnswered item r calls → CallsLead before calls after → IsAnswered told item before r after
line_means told (Ok (request.Push reading moment)) before after r calls none tells (answer, is, are) lead =
    (answer, is, by_call (event.Push reading.batch.spans moment) (push_reply answer) before after calls are lead)
line_means told (Ok (request.Trace id)) before after r calls none tells a lead = absurd (none tt)
line_means told (Ok (request.Search s)) before after r calls none tells a lead = absurd (none tt)
line_means told (Ok (request.Metrics m)) before after r calls none tells a lead = absurd (none tt)
line_means told (Ok (request.Cut moment)) before after r calls none tells (answer, is, are) lead =
    (answer, is, by_call (event.Cut moment) (count_reply answer) before after calls are lead)
line_means told (Ok request.CutAll) before after r calls none tells (answer, is, are) lead =
    (answer, is, by_call event.CutAll (count_reply answer) before after calls are lead)
line_means told (Ok request.Flush) before after r calls none tells (round, is, leads) lead = (round, is, flush_does calls round before after leads lead)
line_means told (Ok request.Compact) before after r calls none tells (round, is, leads) lead =
    (round, is, (compaction_does calls round before after leads lead, compaction_told told (history_of before) r round after is tells))
line_means told (Ok request.Reclaim) before after r calls none tells (answer, is, are) lead =
    (answer, is, by_call event.Reclaim (reclaim_reply answer) before after calls are lead)
line_means told (Err why) before after r calls none tells a lead =
    let s = subst (λ (cs : List Call). CallsLead before cs after) a.1 lead in (a.0, at_same before after s.0 s.1)

pub item_means : (item : Item) (before after : At) (r : Reply) (calls : List Call) → Agrees before.machine → IsItemAnswered item r calls → CallsLead before calls after
    → IsAnsweredOrRefused false item before r after
item_means (Ok (request.Push reading moment)) before after r calls agrees a lead = inl (line_means false (Ok (request.Push reading moment)) before after r calls (λ q. q) (untold (history_of before) (Ok (request.Push reading moment)) r after) a lead)
item_means (Ok (request.Trace id)) before after r calls agrees (answer, is, asked) lead =
    let says = asked_says (IsTraceAnswer id) answer before after calls asked lead in trace_means id before after r answer agrees is says.0 says.1
item_means (Ok (request.Search s)) before after r calls agrees (answer, is, asked) lead =
    let says = asked_says (IsSearchAnswer (asked_of s)) answer before after calls asked lead in search_means s before after r answer agrees is says.0 says.1
item_means (Ok (request.Metrics m)) before after r calls agrees (answer, is, asked) lead =
    let says = asked_says (IsSearchAnswer (counted_of m)) answer before after calls asked lead in metrics_means m before after r answer agrees is says.0 says.1
item_means (Ok (request.Cut moment)) before after r calls agrees a lead = inl (line_means false (Ok (request.Cut moment)) before after r calls (λ q. q) (untold (history_of before) (Ok (request.Cut moment)) r after) a lead)
item_means (Ok request.CutAll) before after r calls agrees a lead = inl (line_means false (Ok request.CutAll) before after r calls (λ q. q) (untold (history_of before) (Ok request.CutAll) r after) a lead)
item_means (Ok request.Flush) before after r calls agrees a lead = inl (line_means false (Ok request.Flush) before after r calls (λ q. q) (untold (history_of before) (Ok request.Flush) r after) a lead)
item_means (Ok request.Compact) before after r calls agrees a lead = inl (line_means false (Ok request.Compact) before after r calls (λ q. q) (untold (history_of before) (Ok request.Compact) r after) a lead)
item_means (Ok request.Reclaim) before after r calls agrees a lead = inl (line_means false (Ok request.Reclaim) before after r calls (λ q. q) (untold (history_of before) (Ok request.Reclaim) r after) a lead)
item_means (Err why) before after r calls agrees a lead = inl (line_means false (Err why) before after r calls (λ q. q) (untold (history_of before) (Err why) r after) a lead)

-- The same where what the blocks hold is told.
pub item_means_told : (item : Item) (before after : At) (r : Reply) (calls : List Call) → Agrees before.machine → IsItemAnswered item r calls → CallsLead before calls after
    → IsItemTold (history_of before) item r → AreCounted after.machine.state.blocks → IsAnsweredOrRefused true item before r after
item_means_told (Ok (request.Push reading moment)) before after r calls agrees a lead t are = inl (line_means true (Ok (request.Push reading moment)) before after r calls (λ q. q) (λ sure. (t, are)) a lead)
item_means_told (Ok (request.Trace id)) before after r calls agrees (answer, is, asked) lead (later, grows, (other, also, sound)) are =
    let says = asked_says (IsTraceAnswer id) answer before after calls asked lead in trace_told id before after later grows r answer other agrees is says.0 says.1 also sound
item_means_told (Ok (request.Search s)) before after r calls agrees (answer, is, asked) lead (later, grows, (other, also, sound)) are =
    let says = asked_says (IsSearchAnswer (asked_of s)) answer before after calls asked lead in search_told s before after later grows r answer other agrees is says.0 says.1 also sound
item_means_told (Ok (request.Metrics m)) before after r calls agrees (answer, is, asked) lead (later, grows, (other, also, sound)) are =
    let says = asked_says (IsSearchAnswer (counted_of m)) answer before after calls asked lead in metrics_told m before after later grows r answer other agrees is says.0 says.1 also sound
item_means_told (Ok (request.Cut moment)) before after r calls agrees a lead t are = inl (line_means true (Ok (request.Cut moment)) before after r calls (λ q. q) (λ sure. (t, are)) a lead)
item_means_told (Ok request.CutAll) before after r calls agrees a lead t are = inl (line_means true (Ok request.CutAll) before after r calls (λ q. q) (λ sure. (t, are)) a lead)
item_means_told (Ok request.Flush) before after r calls agrees a lead t are = inl (line_means true (Ok request.Flush) before after r calls (λ q. q) (λ sure. (t, are)) a lead)
item_means_told (Ok request.Compact) before after r calls agrees a lead t are = inl (line_means true (Ok request.Compact) before after r calls (λ q. q) (λ sure. (t, are)) a lead)
item_means_told (Ok request.Reclaim) before after r calls agrees a lead t are = inl (line_means true (Ok request.Reclaim) before after r calls (λ q. q) (λ sure. (t, are)) a lead)
item_means_told (Err why) before after r calls agrees a lead t are = inl (line_means true (Err why) before after r calls (λ q. q) (λ sure. (t, are)) a lead)

-- ---- what an item keeps of the store

abbrev IsKeptByAll : (Machine → Type 0) → Type 0
IsKeptByAll P = (f g : ℕ) (m m' : Machine) (e : event) (r : reply) → Step f g m e r m' → P m → P m'

-- What all steps keep all items keep.
item_keeps : (P : Machine → Type 0) → IsKeptByAll P → (told : Bool) (item : Item) (before after : At) (r : Reply) → IsAnsweredOrRefused told item before r after
    → P before.machine → P after.machine
item_keeps P keeps told (Ok (request.Push reading moment)) before after r (inl (answer, is, step)) has =
    keeps before.faults after.faults before.machine after.machine (event.Push reading.batch.spans moment) (push_reply answer) step.1 has
item_keeps P keeps told (Ok (request.Trace id)) before after r (inl (rows, found, is, still)) has = subst P (sym still.0) has
item_keeps P keeps told (Ok (request.Trace id)) before after r (inr (why, is, holds, still)) has = subst P (sym still.0) has
item_keeps P keeps told (Ok (request.Search s)) before after r (inl (results, found, is, still)) has = subst P (sym still.0) has
item_keeps P keeps told (Ok (request.Search s)) before after r (inr (why, is, holds, still)) has = subst P (sym still.0) has
item_keeps P keeps told (Ok (request.Metrics m)) before after r (inl (results, series, found, are, is, still)) has = subst P (sym still.0) has
item_keeps P keeps told (Ok (request.Metrics m)) before after r (inr (why, is, holds, still)) has = subst P (sym still.0) has
item_keeps P keeps told (Ok (request.Cut moment)) before after r (inl (answer, is, step)) has =
    keeps before.faults after.faults before.machine after.machine (event.Cut moment) (count_reply answer) step.1 has
item_keeps P keeps told (Ok request.CutAll) before after r (inl (answer, is, step)) has =
    keeps before.faults after.faults before.machine after.machine event.CutAll (count_reply answer) step.1 has
item_keeps P keeps told (Ok request.Flush) before after r (inl (round, is, flushed)) has =
    round_keeps P (λ f g m m' e x none step had. keeps f g m m' e x step had) BeginFlush OfFlush before round after flushed has
item_keeps P keeps told (Ok request.Compact) before after r (inl (round, is, compacted)) has =
    round_keeps P (λ f g m m' e x none step had. keeps f g m m' e x step had) BeginCompact OfCompaction before round after compacted.0 has
item_keeps P keeps told (Ok request.Reclaim) before after r (inl (answer, is, step)) has =
    keeps before.faults after.faults before.machine after.machine event.Reclaim (reclaim_reply answer) step.1 has
item_keeps P keeps told (Err why) before after r (inl (is, same)) has = subst (λ (at : At). P at.machine) (sym same) has
item_keeps P keeps told (Ok (request.Push reading moment)) before after r (inr bad) has = absurd bad
item_keeps P keeps told (Ok (request.Cut moment)) before after r (inr bad) has = absurd bad
item_keeps P keeps told (Ok request.CutAll) before after r (inr bad) has = absurd bad
item_keeps P keeps told (Ok request.Flush) before after r (inr bad) has = absurd bad
item_keeps P keeps told (Ok request.Compact) before after r (inr bad) has = absurd bad
item_keeps P keeps told (Ok request.Reclaim) before after r (inr bad) has = absurd bad
item_keeps P keeps told (Err why) before after r (inr bad) has = absurd bad

pub item_keeps_agreeing : (told : Bool) (item : Item) (before after : At) (r : Reply) → IsAnsweredOrRefused told item before r after → Agrees before.machine → Agrees after.machine
item_keeps_agreeing = item_keeps Agrees (λ f g m m' e r step is. firsts.step_keeps f g m m' e r is step)

-- ---- what an item keeps closed

pushed_closes : (f g : ℕ) (m m' : Machine) (spans : List Span) (moment : ℕ) (r : reply) → Step f g m (event.Push spans moment) r m' → IsClosed m → IsClosed m'
pushed_closes f g m m' spans moment r step closed =
    kept_by IsClosed f g m m' (event.Push spans moment) r closed (λ writes. let bad : ⊥ = cc in absurd bad) (λ gone free writes. let bad : ⊥ = cc in absurd bad)
    (λ early done writes.
    let none = closed (sym (ap (λ (n : Machine). n.read_only) done.1) ∙ writes) in
    record { flush = ap (λ (n : Machine). n.state.flush) done.1 ∙ none.flush; compaction = ap (λ (n : Machine). n.state.compaction) done.1 ∙ none.compaction }) step

pub item_closes : (told : Bool) (item : Item) (before after : At) (r : Reply) → IsAnsweredOrRefused told item before r after → IsClosed before.machine → IsClosed after.machine
item_closes told (Ok (request.Push reading moment)) before after r (inl (answer, is, step)) closed =
    pushed_closes before.faults after.faults before.machine after.machine reading.batch.spans moment (push_reply answer) step.1 closed
item_closes told (Ok (request.Trace id)) before after r (inl (rows, found, is, still)) closed = subst IsClosed (sym still.0) closed
item_closes told (Ok (request.Trace id)) before after r (inr (why, is, holds, still)) closed = subst IsClosed (sym still.0) closed
item_closes told (Ok (request.Search s)) before after r (inl (results, found, is, still)) closed = subst IsClosed (sym still.0) closed
item_closes told (Ok (request.Search s)) before after r (inr (why, is, holds, still)) closed = subst IsClosed (sym still.0) closed
item_closes told (Ok (request.Metrics m)) before after r (inl (results, series, found, are, is, still)) closed = subst IsClosed (sym still.0) closed
item_closes told (Ok (request.Metrics m)) before after r (inr (why, is, holds, still)) closed = subst IsClosed (sym still.0) closed
item_closes told (Ok (request.Cut moment)) before after r (inl (answer, is, step)) closed =
    let m = before.machine in
    cut_closes (is_idle moment m.state.live) m (count_reply answer) after.machine (cuts_idle before.faults after.faults m after.machine moment (count_reply answer) step.1) closed
item_closes told (Ok request.CutAll) before after r (inl (answer, is, step)) closed =
    let m = before.machine in
    cut_closes (λ entry. true) m (count_reply answer) after.machine (cuts_all before.faults after.faults m after.machine (count_reply answer) step.1) closed
item_closes told (Ok request.Flush) before after r (inl (round, is, flushed)) closed = round_closes BeginFlush OfFlush before round after flushed closed
item_closes told (Ok request.Compact) before after r (inl (round, is, compacted)) closed = round_closes BeginCompact OfCompaction before round after compacted.0 closed
item_closes told (Ok request.Reclaim) before after r (inl (answer, is, step)) closed =
    reclaim_closes before.faults after.faults before.machine after.machine (reclaim_reply answer) step.1 closed
item_closes told (Err why) before after r (inl (is, same)) closed = subst (λ (at : At). IsClosed at.machine) (sym same) closed
item_closes told (Ok (request.Push reading moment)) before after r (inr bad) closed = absurd bad
item_closes told (Ok (request.Cut moment)) before after r (inr bad) closed = absurd bad
item_closes told (Ok request.CutAll) before after r (inr bad) closed = absurd bad
item_closes told (Ok request.Flush) before after r (inr bad) closed = absurd bad
item_closes told (Ok request.Compact) before after r (inr bad) closed = absurd bad
item_closes told (Ok request.Reclaim) before after r (inr bad) closed = absurd bad
item_closes told (Err why) before after r (inr bad) closed = absurd bad

-- ---- a session

steps_part : (f g : ℕ) (m m' : Machine) (front back : List Call) → AreSteps f m (front ++ back) g m' → (n : ℕ) × (mid : Machine) × AreSteps f m front n mid × AreSteps n mid back g m'
steps_part f g m m' [] back steps = (f, m, (refl, refl), steps)
steps_part f g m m' (c ∷ front) back steps =
    let rest = steps_part steps.0 g steps.1 m' front back steps.4 in
    (rest.0, rest.1, (steps.0, steps.1, steps.2, steps.3, rest.2), rest.3)

pub session_means : (items : List Item) (replies : List Reply) (calls : List Call) (first last : At) → Agrees first.machine → AreItemsAnswered items replies calls
    → CallsLead first calls last → Session false first items replies last
session_means [] replies calls first last agrees a steps =
    let s = subst (λ (cs : List Call). CallsLead first cs last) a.1 steps in
    (a.0, at_same first last s.0 s.1)
session_means (i ∷ is) [] calls first last agrees a steps = absurd a
session_means (i ∷ is) (r ∷ rs) calls first last agrees (now, later, are, one, rest) steps =
    let s = steps_part first.faults last.faults first.machine last.machine now later (subst (λ (cs : List Call). CallsLead first cs last) are steps) in
    let between : At = record { machine = s.1; faults = s.0 } in
    let here : IsAnsweredOrRefused false i first r between = item_means i first between r now agrees one s.2 in
    (between, here, session_means is rs later between last (item_keeps_agreeing false i first between r here agrees) rest s.3)

-- ---- what a session keeps of the store

session_keeps : (P : Machine → Type 0) (told : Bool) → ((item : Item) (before after : At) (r : Reply) → IsAnsweredOrRefused told item before r after → P before.machine → P after.machine)
    → (items : List Item) (replies : List Reply) (first last : At) → Session told first items replies last → P first.machine → P last.machine
session_keeps P told keeps [] replies first last h has = subst (λ (at : At). P at.machine) (sym h.1) has
session_keeps P told keeps (i ∷ is) [] first last h has = absurd h
session_keeps P told keeps (i ∷ is) (r ∷ rs) first last h has = session_keeps P told keeps is rs h.0 last h.2 (keeps i first h.0 r h.1 has)

pub session_keeps_agreeing : (told : Bool) (items : List Item) (replies : List Reply) (first last : At) → Session told first items replies last → Agrees first.machine → Agrees last.machine
session_keeps_agreeing told = session_keeps Agrees told (item_keeps_agreeing told)

pub session_closes : (told : Bool) (items : List Item) (replies : List Reply) (first last : At) → Session told first items replies last → IsClosed first.machine → IsClosed last.machine
session_closes told = session_keeps IsClosed told (item_closes told)
