-- What a request is answered over a port, and which calls of the port it makes.
use Rattle.std.specs.Prelude.{◌≡◌, ◌⊎◌, ℕ, Bool, List, [], ◌∷◌, length, IsTrue, Some, Result, Ok, Err}
use Rattle.compactor.specs.Rounds.{FoundBlocks, IsCompactRound}
use Rattle.flusher.specs.Rounds.{IsFlushRound}
use Rattle.span_types.specs.declared.errors.Memory.{Memory}
use Rattle.otlp_spans.specs.declared.read.Reading.{Reading}
use Rattle.query_fanout.specs.Queries.{IsAsked, KnowsLater, Sound, TellsOf}
use Rattle.query_fanout.specs.SearchAnswers.{IsSearchAnswer}
use Rattle.query_fanout.specs.TraceAnswers.{IsTraceAnswer}
use Rattle.query_fanout.specs.declared.error.QueryError.{QueryError}
use Rattle.query_fanout.specs.declared.error.QueryError.TheVariants as unanswered
use Rattle.query_fanout.specs.declared.searching.Asked.{Asked}
use Rattle.query_fanout.specs.declared.searching.SearchAnswer.{SearchAnswer}
use Rattle.query_fanout.specs.declared.trace.TraceAnswer.{TraceAnswer}
use Rattle.search_text.specs.Fields.{printed_fields}
use Rattle.session_text.specs.declared.refusal.Refusal.{Refusal}
use Rattle.session_text.specs.declared.refusal.Refusal.TheVariants as refusal
use Rattle.session_text.specs.declared.reply.Reply.{Reply}
use Rattle.session_text.specs.declared.reply.Reply.TheVariants.{Pushed, Traced, Searched, Measured, Cut, CutAll, Flushed, NothingFlushed, Compacted, NothingCompacted, Reclaimed, Refused}
use Rattle.session_text.specs.declared.request.Request.{Request}
use Rattle.session_text.specs.declared.request.Request.TheVariants as request
use Rattle.session_text.specs.declared.request.Metrics.{Metrics}
use Rattle.session_text.specs.declared.request.Search.{Search}
use Rattle.spanset_eval.specs.declared.series.Series.{Series}
use Rattle.store_model.specs.Event.{Event as event}
use Rattle.store_model.specs.History.{History}
use Rattle.store_state.specs.Replies.{count_reply, push_reply, reclaim_reply}
use Rattle.store_state.specs.Meaning.{Meaning, View}
use Rattle.store_state.specs.declared.errors.PushError.{PushError}
use Rattle.store_state.specs.declared.errors.PushError.TheVariants as push
use Rattle.store_state.specs.declared.errors.ReclaimError.{ReclaimError}
use Rattle.store_state.specs.declared.errors.ReclaimError.TheVariants as reclaim
use Rattle.store_state.specs.declared.rounds.Refusal.TheVariants as round_refusal
use Rattle.store_state.specs.declared.rounds.Round.{Round}
use Rattle.store_state.specs.declared.rounds.Round.TheVariants as round
use Rattle.traceql_metrics.specs.Series.{AreSeries}
use Rattle.traceql_syntax.specs.Trees.{query_tree}
use Rattle.store_state.specs.Made.{Call, AreMade, call}

-- ---- a push

-- what is said of a push that the port refused
abbrev pub refusal_of : PushError → Refusal
refusal_of (push.LiveFull held) = refusal.LiveFull held
refusal_of (push.StoreFull pushes) = refusal.StoreFull pushes
refusal_of (push.ReadOnly faults) = refusal.ReadOnly faults
refusal_of push.Fault = refusal.DiskFault
refusal_of push.Memory = refusal.Memory

-- A push is told its number and how many of its spans are kept and were rejected, and how much was skipped.
abbrev pub pushed_reply : Reading → Result ℕ PushError → Reply
pushed_reply reading (Ok number) = Pushed number (length reading.batch.spans) reading.rejected reading.skipped
pushed_reply reading (Err why) = Refused (refusal_of why)

-- ---- queries

-- what is said of a query that could not be answered
abbrev pub query_refusal : QueryError → Refusal
query_refusal unanswered.Fault = refusal.DiskFault
query_refusal (unanswered.NotBlock file at) = refusal.Round (round_refusal.NotBlock file at)
query_refusal unanswered.Memory = refusal.Memory

-- A look-up is told the trace's spans, or why not.
abbrev pub trace_reply : Result TraceAnswer QueryError → Reply
trace_reply (Ok answer) = Traced answer.as_of answer.rows
trace_reply (Err error) = Refused (query_refusal error)

abbrev pub asked_of : Search → Asked
asked_of s = record { checked = s.checked; range = s.range; limit = s.limit; spans_per_set = s.spans_per_set }

-- A search is told what it finds, or why not. Where there is no memory for the fields' texts it is refused for that.
abbrev pub IsSearchTold : Asked → Result SearchAnswer QueryError → Reply → Type 0
IsSearchTold asked (Ok answer) r =
    (r ≡ Searched answer.as_of (printed_fields (query_tree asked.checked.query)) answer.results) ⊎ (r ≡ Refused refusal.Memory)
IsSearchTold asked (Err error) r = r ≡ Refused (query_refusal error)

-- What a metrics query asks of a store: what a search over its range finds, with the greatest limits.
abbrev pub counted_of : Metrics → Asked
counted_of m = record {
  checked = m.checked;
  range = record { from = m.start; until = Some m.end };
  limit = 4294967295;
  spans_per_set = 4294967295;
}

-- The series of what is found are told, or why not. Where there is no memory for them it is refused for that.
abbrev pub AreSeriesTold : ℕ → ℕ → ℕ → Bool → Result SearchAnswer QueryError → Reply → Type 0
AreSeriesTold start end step rate (Ok answer) r =
    ((series : List Series) × AreSeries answer.results start end step rate series × (r ≡ Measured answer.as_of series))
    ⊎ (r ≡ Refused refusal.Memory)
AreSeriesTold start end step rate (Err error) r = r ≡ Refused (query_refusal error)

-- A metrics query is told the series of what is found for it, or why not.
abbrev pub IsMetricsTold : Metrics → Result SearchAnswer QueryError → Reply → Type 0
IsMetricsTold m answer r = AreSeriesTold m.start m.end m.step m.rate answer r

-- ---- upkeep

-- A cut is answered how many rows it moved, or that memory ran out.
abbrev pub cut_reply : (ℕ → Reply) → Result ℕ Memory → Reply
cut_reply tells (Ok moved) = tells moved
cut_reply tells (Err e) = Refused refusal.Memory

-- A round is told what it did, that there was nothing to do, or why it was refused.
abbrev pub round_reply : (ℕ → ℕ → Reply) → Reply → Round → Reply
round_reply did nothing (round.Did blocks rows) = did blocks rows
round_reply did nothing round.Nothing = nothing
round_reply did nothing (round.Refused why) = Refused (refusal.Round why)

-- A flush is told how many rows its block has, or that nothing waited.
abbrev pub flush_reply : Round → Reply
flush_reply ended = round_reply (λ blocks rows. Flushed rows) NothingFlushed ended

-- A compaction is told how many blocks it joined and how many rows the new one has, or that no two fit together.
abbrev pub compact_reply : Round → Reply
compact_reply ended = round_reply Compacted NothingCompacted ended

-- what is said where no loose files were emptied
abbrev pub reclaim_cause : ReclaimError → Refusal
reclaim_cause (reclaim.ReadOnly faults) = refusal.ReadOnly faults
reclaim_cause reclaim.Fault = refusal.DiskFault
reclaim_cause reclaim.Memory = refusal.Memory

-- It is told how many loose files were emptied, or why none were.
abbrev pub reclaimed_reply : Result ℕ ReclaimError → Reply
reclaimed_reply (Ok files) = Reclaimed files
reclaimed_reply (Err why) = Refused (reclaim_cause why)

-- ---- a request

-- A request is answered so, by these calls. A push, a cut and the emptying of loose files are one call each, and a flush and a
-- compaction are one round each.
abbrev pub IsRequestAnswered : Request → Reply → List Call → Type 0
IsRequestAnswered (request.Push reading moment) r calls =
    (answer : Result ℕ PushError) × (r ≡ pushed_reply reading answer)
    × (calls ≡ call (event.Push reading.batch.spans moment) (push_reply answer) ∷ [])
IsRequestAnswered (request.Trace id) r calls =
    (answer : Result TraceAnswer QueryError) × (r ≡ trace_reply answer) × IsAsked (IsTraceAnswer id) answer calls
IsRequestAnswered (request.Search s) r calls =
    (answer : Result SearchAnswer QueryError) × IsSearchTold (asked_of s) answer r × IsAsked (IsSearchAnswer (asked_of s)) answer calls
IsRequestAnswered (request.Metrics m) r calls =
    (answer : Result SearchAnswer QueryError) × IsMetricsTold m answer r × IsAsked (IsSearchAnswer (counted_of m)) answer calls
IsRequestAnswered (request.Cut moment) r calls =
    (answer : Result ℕ Memory) × (r ≡ cut_reply Cut answer) × (calls ≡ call (event.Cut moment) (count_reply answer) ∷ [])
IsRequestAnswered request.CutAll r calls =
    (answer : Result ℕ Memory) × (r ≡ cut_reply CutAll answer) × (calls ≡ call event.CutAll (count_reply answer) ∷ [])
IsRequestAnswered request.Flush r calls = (round : Round) × (r ≡ flush_reply round) × IsFlushRound calls round
IsRequestAnswered request.Compact r calls = (round : Round) × (r ≡ compact_reply round) × IsCompactRound calls round
IsRequestAnswered request.Reclaim r calls =
    (answer : Result ℕ ReclaimError) × (r ≡ reclaimed_reply answer) × (calls ≡ call event.Reclaim (reclaim_reply answer) ∷ [])

-- A query's answer is told of a later history, as it was at some length from that on which this one has. Neither a query nor a
-- compaction finds that a block is none.
abbrev pub TellsHistory : History → History → Request → Reply → Type 0
TellsHistory h later (request.Trace id) r =
    (answer : Result TraceAnswer QueryError) × (r ≡ trace_reply answer) × Sound (TellsOf (IsTraceAnswer id) h later) answer
TellsHistory h later (request.Search s) r =
    (answer : Result SearchAnswer QueryError) × IsSearchTold (asked_of s) answer r × Sound (TellsOf (IsSearchAnswer (asked_of s)) h later) answer
TellsHistory h later (request.Metrics m) r =
    (answer : Result SearchAnswer QueryError) × IsMetricsTold m answer r × Sound (TellsOf (IsSearchAnswer (counted_of m)) h later) answer
TellsHistory h later request.Compact r = (round : Round) × (r ≡ compact_reply round) × FoundBlocks round
TellsHistory h later _ r = Unit {0}

-- It isn't told of a block that it is none.
abbrev pub BlamesNoBlock : Reply → Type 0
BlamesNoBlock (Refused (refusal.Round (round_refusal.NotBlock file at))) = ⊥
BlamesNoBlock r = Unit {0}

-- A request was answered over a port: the port's calls are just those that the request makes. Where the port shows its bytes, a
-- query's answer is that of the history that is known afterwards, as it was at some length from that on which was known before; and
-- each block that was read is one, whether a history is known or not.
pub record HasReplied {P : Type 0} (meaning : Meaning P) (old : P) (asked : Request) (r : Reply) (new : P) : Type 0 where
  pub calls : List Call
  pub made : AreMade meaning old calls new
  pub answered : IsRequestAnswered asked r calls
  pub told : IsTrue (meaning.tells old) → (v : View) → meaning.knows old v
      → KnowsLater meaning new v (λ later. TellsHistory v.history later asked r)
  pub whole : IsTrue (meaning.tells old) → BlamesNoBlock r
