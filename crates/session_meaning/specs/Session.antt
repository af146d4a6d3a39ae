-- What is asked in a session is answered in order, each at the store that what came before it left.
use Rattle.std.specs.Prelude.{◌≡◌, ◌⊎◌, ℕ, ◌<◌, ◌≤◌, Bool, true, false, List, [], ◌∷◌, ◌++◌, length, take, Option, Some, Result, Ok, Err, if◌then◌else◌}
use Rattle.std.specs.List.{list_any}
use Rattle.std.specs.List.Sorted.{IsPermutation}
use Rattle.io_edges.specs.Lines.{lines, taken_limit}
use Rattle.io_edges.specs.Reader.{HasNoFeed}
use Rattle.span_types.specs.declared.ids.TraceId.{TraceId}
use Rattle.span_types.specs.declared.spans.Row.{Row}
use Rattle.span_types.specs.First.{IsFirstOf}
use Rattle.rows_by_trace.specs.Traces.{rows_of_trace}
use Rattle.query_fanout.specs.declared.searching.Asked.{Asked}
use Rattle.spanset_eval.specs.declared.results.TraceResult.{TraceResult}
use Rattle.spanset_eval.specs.declared.series.Series.{Series}
use Rattle.search_answer.specs.Answers.{IsAnswer}
use Rattle.search_text.specs.Fields.{printed_fields}
use Rattle.traceql_syntax.specs.Trees.{query_tree}
use Rattle.session_text.specs.declared.request.Request.TheVariants as request
use Rattle.session_text.specs.declared.reply.Reply.{Reply}
use Rattle.session_text.specs.declared.reply.Reply.TheVariants.{Cut, CutAll, Measured, Refused, Searched, Traced}
use Rattle.session_text.specs.declared.refusal.Refusal.{Refusal}
use Rattle.session_text.specs.declared.refusal.Refusal.TheVariants as refusal
use Rattle.session_text.specs.Items.{Item}
use Rattle.session_text.specs.Replies.{reply_text}
use Rattle.span_types.specs.declared.errors.Memory.{Memory}
use Rattle.store_model.specs.History.{History, AreFirstIn, count_of, history_rows}
use Rattle.store_model.specs.Event.{Event as event}
use Rattle.store_images.specs.Stored.{SameFirsts}
use Rattle.store_core.specs.Waiting.{rows_outside}
use Rattle.store_state.specs.Replies.{count_reply, push_reply, reclaim_reply}
use Rattle.store_state.specs.declared.errors.PushError.{PushError}
use Rattle.store_state.specs.declared.errors.ReclaimError.{ReclaimError}
use Rattle.store_state.specs.declared.rounds.Refusal.TheVariants as round
use Rattle.store_state.specs.declared.rounds.Round.{Round}
use Rattle.traceql_metrics.specs.Series.{AreSeries}
use Rattle.client_run.specs.Answers.{asked_of, compact_reply, counted_of, cut_reply, flush_reply, pushed_reply, reclaimed_reply}
use Rattle.session_meaning.specs.At.{At, IsStep, IsStill, IsUnchanged, history_of}
use Rattle.session_meaning.specs.Causes.{HasQueryCause, is_disk_fault}
use Rattle.session_meaning.specs.InOrder.{InOrder}
use Rattle.session_meaning.specs.Rounds.{IsCompacted, IsFlushed}
use Rattle.session_meaning.specs.declared.ending.Ending.{Ending}
use Rattle.session_meaning.specs.declared.ending.Ending.TheVariants.{Answered, ReadFault, Spent, Starved, WriteFault}
use Rattle.session_meaning.specs.declared.ending.Ending.TheVariants as ending

-- ---- what is asked, and its answer

-- What a look-up finds at a history: the first occurrences of the trace's spans in it.
abbrev pub IsTraceIn : TraceId → History → List Row → Type 0
IsTraceIn id history rows = IsFirstOf (rows_of_trace id (history_rows history)) rows

-- These results answer what is asked, over these rows.
abbrev pub AreResults : Asked → List Row → List TraceResult → Type 0
AreResults asked rows results =
    IsAnswer asked.checked.patterns (query_tree asked.checked.query) asked.range asked.limit asked.spans_per_set rows results

-- What is found at a history if this is asked of a store: the answer to the search over the first occurrences of all spans in it.
pub record IsFound (asked : Asked) (history : History) (results : List TraceResult) : Type 0 where
  pub rows : List Row
  pub firsts : AreFirstIn history rows
  pub answer : AreResults asked rows results

-- ---- what a query sees of the store

-- What its blocks hold is sure where that is told, which is what `told` says, or where it lists no block.
abbrev pub IsSure : Bool → At → Type 0
IsSure told at = (told ≡ true) ⊎ (at.machine.state.blocks ≡ [])

-- A query sees all rows that wait outside of blocks, in some order, and after them rows of the blocks: none, where no block is listed.
-- Where it is sure what the blocks hold, all these have the first occurrences of the history.
pub record AreSeen (told : Bool) (at : At) (rows : List Row) : Type 0 where
  pub outside : List Row
  pub of_blocks : List Row
  pub rows_are : rows ≡ outside ++ of_blocks
  pub all_outside : IsPermutation (rows_outside at.machine.state) outside
  pub no_block : at.machine.state.blocks ≡ [] → of_blocks ≡ []
  pub sure : IsSure told at → SameFirsts rows (history_rows (history_of at))

-- What a look-up is told: the first occurrences of the trace's spans in what it sees.
pub record IsTraceSeen (told : Bool) (id : TraceId) (at : At) (rows : List Row) : Type 0 where
  pub all : List Row
  pub are_seen : AreSeen told at all
  pub firsts : IsFirstOf (rows_of_trace id all) rows

-- What a search is told: the answer over the first occurrences of all spans in what it sees.
pub record IsFoundSeen (told : Bool) (asked : Asked) (at : At) (results : List TraceResult) : Type 0 where
  pub all : List Row
  pub are_seen : AreSeen told at all
  pub rows : List Row
  pub firsts : IsFirstOf all rows
  pub answer : AreResults asked rows results

-- ---- an answer

-- What is asked is answered so, and leaves that.
-- A push is a step of the store. Accepted, it is told how many pushes came before it, how many of its spans are kept and were
-- rejected, and how much was skipped, and its spans are appended to the history. Refused, it is told a cause that holds.
-- A look-up is told how many pushes there were, and what it finds in what it sees. So is a search; and a metrics query is told the
-- series of what is found for it. They change nothing. Where it is sure what the blocks hold, that is what all pushes have.
-- A cut is a step of the store that moves the rows of some traces to the head, and is told how many these are; or memory was
-- wanted. A flush makes a block of rows that wait in the head, and is told how many it has, or that none waited, or why not. A
-- compaction joins blocks, and is told how many these are and how many rows the new one has, or that no two fit together, or why not.
-- The emptying of loose files is a step of the store that is told how many they were, or why it isn't done. Of what was pushed they
-- change nothing.
-- A line that asks nothing is refused for its cause, and changes nothing.
abbrev pub IsAnswered : Bool → Item → At → Reply → At → Type 0
IsAnswered told (Ok (request.Push reading moment)) before reply after =
    (answer : Result ℕ PushError) × (reply ≡ pushed_reply reading answer)
    × IsStep before (event.Push reading.batch.spans moment) (push_reply answer) after
IsAnswered told (Ok (request.Trace id)) before reply after =
    (rows : List Row) × IsTraceSeen told id before rows
    × (reply ≡ Traced (count_of (history_of before)) rows) × IsStill before after
IsAnswered told (Ok (request.Search s)) before reply after =
    (results : List TraceResult) × IsFoundSeen told (asked_of s) before results
    × (reply ≡ Searched (count_of (history_of before)) (printed_fields (query_tree s.checked.query)) results)
    × IsStill before after
IsAnswered told (Ok (request.Metrics m)) before reply after =
    (results : List TraceResult) × (series : List Series) × IsFoundSeen told (counted_of m) before results
    × AreSeries results m.start m.end m.step m.rate series × (reply ≡ Measured (count_of (history_of before)) series)
    × IsStill before after
IsAnswered told (Ok (request.Cut moment)) before reply after =
    (answer : Result ℕ Memory) × (reply ≡ cut_reply Cut answer) × IsStep before (event.Cut moment) (count_reply answer) after
IsAnswered told (Ok request.CutAll) before reply after =
    (answer : Result ℕ Memory) × (reply ≡ cut_reply CutAll answer) × IsStep before event.CutAll (count_reply answer) after
IsAnswered told (Ok request.Flush) before reply after =
    (round : Round) × (reply ≡ flush_reply round) × IsFlushed before round after
IsAnswered told (Ok request.Compact) before reply after =
    (round : Round) × (reply ≡ compact_reply round) × IsCompacted told before round after
IsAnswered told (Ok request.Reclaim) before reply after =
    (answer : Result ℕ ReclaimError) × (reply ≡ reclaimed_reply answer) × IsStep before event.Reclaim (reclaim_reply answer) after
IsAnswered told (Err why) before reply after = (reply ≡ Refused why) × (after ≡ before)

-- A query is refused for its cause, and changes nothing. When a line that pushes or keeps the store up is, its steps say.
abbrev pub IsQueryRefused : Bool → At → Reply → At → Type 0
IsQueryRefused told before reply after =
    (why : Refusal) × (reply ≡ Refused why) × HasQueryCause told why before after
    × IsUnchanged (is_disk_fault why) before after

abbrev pub IsRefused : Bool → Item → At → Reply → At → Type 0
IsRefused told (Ok (request.Trace id)) before reply after = IsQueryRefused told before reply after
IsRefused told (Ok (request.Search s)) before reply after = IsQueryRefused told before reply after
IsRefused told (Ok (request.Metrics m)) before reply after = IsQueryRefused told before reply after
IsRefused told _ before reply after = ⊥

abbrev pub IsAnsweredOrRefused : Bool → Item → At → Reply → At → Type 0
IsAnsweredOrRefused told item before reply after = IsAnswered told item before reply after ⊎ IsRefused told item before reply after

-- What is asked is answered in order, one reply each, from a store to a store.
abbrev pub Session : Bool → At → List Item → List Reply → At → Type 0
Session told = InOrder (IsAnsweredOrRefused told)

-- ---- how a session ends, and what stands written

-- A refusal for another cause than memory.
abbrev pub is_for_other : Refusal → Bool
is_for_other refusal.Memory = false
is_for_other (refusal.Round round.Memory) = false
is_for_other _ = true

abbrev pub is_refusal : Reply → Bool
is_refusal (Refused why) = is_for_other why
is_refusal _ = false

-- It was refused in reading for another cause than memory.
abbrev pub is_refused : Item → Bool
is_refused (Ok request) = false
is_refused (Err why) = is_for_other why

-- A refusal for memory.
abbrev pub is_memory : Refusal → Bool
is_memory refusal.Memory = true
is_memory (refusal.Round round.Memory) = true
is_memory _ = false

abbrev pub is_for_memory : Reply → Bool
is_for_memory (Refused why) = is_memory why
is_for_memory _ = false

-- The texts of replies, in order.
abbrev pub reply_texts : List Reply → List ℕ
reply_texts [] = []
reply_texts (r ∷ rs) = reply_text r ++ reply_texts rs

-- How a session ends whose input was read to its end: with a refusal for another cause than memory among its replies,
-- else with one for memory among them, else with none.
abbrev pub end_of : List Reply → Ending
end_of replies = if list_any is_refusal replies then ending.Refused else if list_any is_for_memory replies then Starved else Answered

-- The input was read to its end, and all replies were written.
abbrev pub IsAllRead : List ℕ → List (List ℕ) → List ℕ → List Reply → Option (List ℕ) → Type 0
IsAllRead text later before replies taken =
    (later ≡ []) × (length text < taken_limit) × (taken ≡ Some (before ++ reply_texts replies))

-- All replies were written.
abbrev pub IsWritten : List ℕ → List Reply → Option (List ℕ) → Type 0
IsWritten before replies taken = taken ≡ Some (before ++ reply_texts replies)

-- All replies but the last were written, and of the last its first few bytes.
pub record IsCutOff (before : List ℕ) (replies : List Reply) (taken : Option (List ℕ)) (count : ℕ) : Type 0 where
  pub whole : List Reply
  pub last : Reply
  pub replies_are : replies ≡ whole ++ last ∷ []
  pub taken_is : taken ≡ Some (before ++ reply_texts whole ++ take count (reply_text last))

-- Every line that was ended in what was taken of the source was answered: the others are those of what the source has
-- left, after bytes that were taken and that no line feed ends.
pub record IsAllEnded (text : List ℕ) (later : List (List ℕ)) (left : Option (List ℕ)) : Type 0 where
  pub front : List ℕ
  pub held : List ℕ
  pub rest : List ℕ
  pub told : left ≡ Some rest
  pub text_is : text ≡ front ++ (held ++ rest)
  pub no_feed : HasNoFeed held
  pub later_are : later ≡ lines (held ++ rest)

-- What stands written at each ending. `later` are the lines that weren't answered, `left` is what the source has left,
-- `before` the bytes that the sink had taken, `taken` those that it has taken now.
abbrev pub Ends : Ending → List ℕ → List (List ℕ) → Option (List ℕ) → List ℕ → List Reply → Option (List ℕ) → Type 0
Ends Answered text later left before replies taken = IsAllRead text later before replies taken × (end_of replies ≡ Answered)
Ends ending.Refused text later left before replies taken = IsAllRead text later before replies taken × (end_of replies ≡ ending.Refused)
Ends Starved text later left before replies taken =
    (IsAllRead text later before replies taken × (end_of replies ≡ Starved)) ⊎ (IsWritten before replies taken ⊎ IsCutOff before replies taken 0)
Ends WriteFault text later left before replies taken = (count : ℕ) × IsCutOff before replies taken count
Ends ReadFault text later left before replies taken = IsWritten before replies taken × IsAllEnded text later left
Ends Spent text later left before replies taken = IsWritten before replies taken × IsAllEnded text later left × (taken_limit ≤ length text)
Ends _ text later left before replies taken = ⊥

-- How a run ends that answers one line alone, and what stands written: the reply; nothing or a first part of it, where
-- memory ran out or the sink failed.
abbrev pub EndsAlone : Ending → List ℕ → Reply → Option (List ℕ) → Type 0
EndsAlone Answered before reply taken = IsWritten before (reply ∷ []) taken × (end_of (reply ∷ []) ≡ Answered)
EndsAlone ending.Refused before reply taken = IsWritten before (reply ∷ []) taken × (end_of (reply ∷ []) ≡ ending.Refused)
EndsAlone Starved before reply taken = (IsWritten before (reply ∷ []) taken × (end_of (reply ∷ []) ≡ Starved)) ⊎ (taken ≡ Some before)
EndsAlone WriteFault before reply taken = (count : ℕ) × (taken ≡ Some (before ++ take count (reply_text reply)))
EndsAlone _ before reply taken = ⊥
