-- What a line asks, or why it asks nothing.
use Rattle.std.specs.Prelude.{◌≡◌, ◌⊎◌, ⊤, ℕ, Bool, ◌+◌, ◌≤◌, List, [], ◌++◌, length, codes, nat_le, if◌then◌else◌, Option, Some, None, Result, Ok, Err}
use Rattle.std.specs.Str.{bytes_eq, is_utf8}
use Rattle.span_types.specs.declared.ids.TraceId.{TraceId}
use Rattle.span_types.specs.declared.limits.TheConstants.{MOST_SPANS}
use Rattle.io_edges.specs.Lines.{line_limit}
use Rattle.otlp_spans.specs.Fields.{trace_id_of}
use Rattle.otlp_spans.specs.Forms.{path_text}
use Rattle.otlp_spans.specs.Reading.{Given, NoJson, TooManySpans, WrongForm, reading_of}
use Rattle.otlp_spans.specs.Reading as otlp
use Rattle.session_text.specs.declared.refusal.Refusal.{Refusal}
use Rattle.session_text.specs.declared.refusal.Refusal.TheVariants.{TooLong, BadRequest, BadJson, BadOtlp, TooMany, TooManyBuckets, Memory}
use Rattle.session_text.specs.declared.request.Request.{Request}
use Rattle.session_text.specs.declared.request.Request.TheVariants.{Push, Trace, Search, Metrics, Cut, CutAll, Flush, Compact, Reclaim}
use Rattle.session_text.specs.Lines.{first_part, other_parts}
use Rattle.session_text.specs.MetricsLines.{MetricsLine, metrics_parts}
use Rattle.session_text.specs.Options.{SearchLine, search_parts}
use Rattle.session_text.specs.Searches.{MeasuresLine, ReadsSearch}
use Rattle.traceql_metrics.specs.Series.{bucket_count, most_buckets}

-- Why what is pushed gives nothing.
abbrev pub refusal_of : otlp.Refusal → Refusal
refusal_of NoJson = BadJson
refusal_of (WrongForm path) = BadOtlp (path_text path)
refusal_of (TooManySpans spans) = TooMany spans

-- What is pushed at a moment: what the JSON gives.
abbrev pub pushed : ℕ → Result Given otlp.Refusal → Result Request Refusal
pushed moment (Ok given) =
    Ok (Push (record { batch = record { spans = given.spans }; rejected = given.rejected; skipped = given.skipped }) moment)
pushed moment (Err why) = Err (refusal_of why)

-- A push is the word `push`, one space and the rest of the line, which may be empty. A line of `push` alone lacks a part.
abbrev pub push_with : ℕ → ℕ → Option (List ℕ) → Result Request Refusal
push_with moment len None = Err (BadRequest len)
push_with moment len (Some json) = pushed moment (reading_of json)

-- The id, and no part after it. `start` is its first byte.
abbrev pub with_id : ℕ → List ℕ → Option TraceId → Option (List ℕ) → Result Request Refusal
with_id start part None more = Err (BadRequest start)
with_id start part (Some id) None = Ok (Trace id)
with_id start part (Some id) (Some more) = Err (BadRequest (start + length part + 1))

-- A look-up is the word `trace`, one space and 32 hexadecimal digits of either case that aren't all zeros.
abbrev pub trace_with : ℕ → Option (List ℕ) → Result Request Refusal
trace_with len None = Err (BadRequest len)
trace_with len (Some rest) = with_id 6 (first_part rest) (trace_id_of (first_part rest)) (other_parts rest)

-- A word that stands alone asks this. `word` is the word, and no part may stand after it.
abbrev pub alone : List ℕ → Option (List ℕ) → Request → Result Request Refusal
alone word None request = Ok request
alone word (Some more) request = Err (BadRequest (length word + 1))

-- What a line is: a search or a metrics query, which may be answered in more than one way, since the patterns that are made of a
-- query aren't told by its text; or one that asks this or is refused so.
pub data Line : Type 0 where
  searched : SearchLine → Line
  measured : MetricsLine → Line
  plain : Result Request Refusal → Line

-- A search is the word `search`, its options and its query.
abbrev pub search_with : Result SearchLine ℕ → Line
search_with (Ok line) = searched line
search_with (Err at) = plain (Err (BadRequest at))

-- how many buckets a line wants
abbrev pub buckets_of : MetricsLine → ℕ
buckets_of line = bucket_count line.start line.end line.step

-- A metrics query is the word `metrics`, its options and its query. It may have 1,000 buckets.
abbrev pub metrics_with : Result MetricsLine ℕ → Line
metrics_with (Ok line) = if nat_le (buckets_of line) most_buckets then measured line else plain (Err (TooManyBuckets (buckets_of line)))
metrics_with (Err at) = plain (Err (BadRequest at))

-- A line of UTF-8 that is no push, read at a moment.
abbrev pub other_line : ℕ → List ℕ → List ℕ → Option (List ℕ) → Line
other_line moment word line rest =
    if bytes_eq word (codes "trace") then plain (trace_with (length line) rest)
    else if bytes_eq word (codes "search") then search_with (search_parts (length line) rest)
    else if bytes_eq word (codes "metrics") then metrics_with (metrics_parts (length line) rest)
    else if bytes_eq word (codes "cut") then plain (alone word rest (Cut moment))
    else if bytes_eq word (codes "cutall") then plain (alone word rest CutAll)
    else if bytes_eq word (codes "flush") then plain (alone word rest Flush)
    else if bytes_eq word (codes "compact") then plain (alone word rest Compact)
    else if bytes_eq word (codes "reclaim") then plain (alone word rest Reclaim)
    else plain (Err (BadRequest 0))

-- What a request is that was read at a moment, by its first part. Only a push may have bytes that aren't UTF-8, and its JSON
-- is then none.
abbrev pub request_by : ℕ → List ℕ → List ℕ → Option (List ℕ) → Line
request_by moment word line rest =
    if bytes_eq word (codes "push") then plain (push_with moment (length line) rest)
    else if is_utf8 line then other_line moment word line rest
    else plain (Err (BadRequest 0))

-- What a request is, however long.
abbrev pub request_of : ℕ → List ℕ → Line
request_of moment line = request_by moment (first_part line) line (other_parts line)

-- What a line is that was read at a moment: a request, or one that is refused for its length.
unfoldable pub line_of : ℕ → List ℕ → Line
line_of moment line = if nat_le (length line) line_limit then request_of moment line else plain (Err (TooLong (length line)))

-- a search as an answer to a line
abbrev pub AsksSearch : SearchLine → List (List ℕ) → Result Request Refusal → Type 0
AsksSearch line refused (Ok (Search s)) = ReadsSearch line refused (Ok s)
AsksSearch line refused (Ok other) = ⊥
AsksSearch line refused (Err e) = ReadsSearch line refused (Err e)

-- a metrics query as an answer to a line
abbrev pub AsksMetrics : MetricsLine → List (List ℕ) → Result Request Refusal → Type 0
AsksMetrics line refused (Ok (Metrics m)) = MeasuresLine line refused (Ok m)
AsksMetrics line refused (Ok other) = ⊥
AsksMetrics line refused (Err e) = MeasuresLine line refused (Err e)

-- what may be answered to a line of which this is known; out of memory may take the place of any answer
abbrev pub Answers : Line → List (List ℕ) → Result Request Refusal → Type 0
Answers (searched line) refused result = AsksSearch line refused result
Answers (measured line) refused result = AsksMetrics line refused result
Answers (plain answer) refused result = ((result ≡ answer) ⊎ (result ≡ Err Memory)) × (refused ≡ [])

-- What a line asks that was read at a moment, or why it asks nothing, where the maker of patterns refused these texts: none,
-- unless the line is refused for a pattern's size, and then the text of the pattern at the refusal's place in the line's query.
abbrev pub AsksAt : ℕ → List ℕ → List (List ℕ) → Result Request Refusal → Type 0
AsksAt moment line refused result = Answers (line_of moment line) refused result

-- The same at some moment.
abbrev pub Asks : List ℕ → List (List ℕ) → Result Request Refusal → Type 0
Asks line refused result = (moment : ℕ) × AsksAt moment line refused result

-- The line by which a session closes its store and opens it again: this word and nothing else. It is no request.
abbrev pub is_reopen : List ℕ → Bool
is_reopen line = bytes_eq line (codes "reopen")

-- What a line of a source is whose lines are pushed, read at a moment: the request `push`, one space and that line. The limit counts
-- the source's line alone.
abbrev pub push_of : ℕ → List ℕ → Line
push_of moment line =
    if nat_le (length line) line_limit then request_of moment (codes "push " ++ line) else plain (Err (TooLong (length line)))

-- What such a line asks, or why it asks nothing.
abbrev pub AsksPush : ℕ → List ℕ → Result Request Refusal → Type 0
AsksPush moment line result = Answers (push_of moment line) [] result

-- A push has at most as many spans as a line may have.
abbrev pub HasFewSpans : Request → Type 0
HasFewSpans (Push reading moment) = length reading.batch.spans ≤ MOST_SPANS
HasFewSpans _ = ⊤
