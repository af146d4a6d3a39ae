-- What a client is told of the history that the calls of all clients make.
use Rattle.std.specs.Prelude.{◌≡◌, ℕ, ◌+◌, ◌≤◌, max, List, [], ◌∷◌, Result, Ok, Err}
use Rattle.span_types.specs.declared.spans.Row.{Row}
use Rattle.compactor.specs.Rounds.{FoundBlocks}
use Rattle.query_fanout.specs.Queries.{Sound}
use Rattle.query_fanout.specs.SearchAnswers.{IsSearchAnswer}
use Rattle.query_fanout.specs.TraceAnswers.{IsTraceAnswer}
use Rattle.query_fanout.specs.declared.error.QueryError.{QueryError}
use Rattle.query_fanout.specs.declared.searching.SearchAnswer.{SearchAnswer}
use Rattle.query_fanout.specs.declared.trace.TraceAnswer.{TraceAnswer}
use Rattle.session_text.specs.declared.reply.Reply.{Reply}
use Rattle.session_text.specs.declared.reply.Reply.TheVariants.{Pushed, Traced, Searched, Measured}
use Rattle.session_text.specs.declared.request.Request.{Request}
use Rattle.session_text.specs.declared.request.Request.TheVariants as request
use Rattle.session_text.specs.Items.{Item}
use Rattle.store_model.specs.History.{History, count_of, history_rows, up_to}
use Rattle.store_state.specs.declared.rounds.Round.{Round}
use Rattle.client_run.specs.Answers.{BlamesNoBlock, IsMetricsTold, IsSearchTold, asked_of, compact_reply, counted_of, trace_reply}

-- It is told of the history as it was at some length from `least` on.
abbrev pub TellsFrom : {A : Type 0} → (ℕ → List Row → A → Type 0) → ℕ → History → A → Type 0
TellsFrom tells least h x = (n : ℕ) × (least ≤ n) × (n ≤ count_of h) × tells n (history_rows (up_to n h)) x

-- A query's answer is told so. Neither a query nor a compaction finds that a block is none.
abbrev pub IsToldOf : History → ℕ → Request → Reply → Type 0
IsToldOf h least (request.Trace id) r =
    (answer : Result TraceAnswer QueryError) × (r ≡ trace_reply answer) × Sound (TellsFrom (IsTraceAnswer id) least h) answer
IsToldOf h least (request.Search s) r =
    (answer : Result SearchAnswer QueryError) × IsSearchTold (asked_of s) answer r × Sound (TellsFrom (IsSearchAnswer (asked_of s)) least h) answer
IsToldOf h least (request.Metrics m) r =
    (answer : Result SearchAnswer QueryError) × IsMetricsTold m answer r × Sound (TellsFrom (IsSearchAnswer (counted_of m)) least h) answer
IsToldOf h least request.Compact r = (round : Round) × (r ≡ compact_reply round) × FoundBlocks round
IsToldOf h least _ r = Unit {0}

-- How long the history is at least, by a reply: a push has its number in it, and a query tells of so many entries.
abbrev pub told_length : Reply → ℕ
told_length (Pushed number accepted rejected skipped) = number + 1
told_length (Traced as_of rows) = as_of
told_length (Searched as_of fields results) = as_of
told_length (Measured as_of series) = as_of
told_length _ = 0

-- A client that knows of so many entries is told of the history: each query's answer is over a part that has all of which the client
-- had been told before, each of its own pushes among them.
abbrev pub AreTold : History → ℕ → List Item → List Reply → Type 0
AreTold h least [] replies = Unit {0}
AreTold h least (item ∷ items) [] = Unit {0}
AreTold h least (Err why ∷ items) (r ∷ replies) = AreTold h least items replies
AreTold h least (Ok asked ∷ items) (r ∷ replies) = IsToldOf h least asked r × AreTold h (max least (told_length r)) items replies

-- No request that was answered is told of a block that it is none.
abbrev pub BlameNone : List Item → List Reply → Type 0
BlameNone [] replies = Unit {0}
BlameNone (item ∷ items) [] = Unit {0}
BlameNone (Err why ∷ items) (r ∷ replies) = BlameNone items replies
BlameNone (Ok asked ∷ items) (r ∷ replies) = BlamesNoBlock r × BlameNone items replies
