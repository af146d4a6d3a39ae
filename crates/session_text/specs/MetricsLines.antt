-- The options of a metrics query's line, which stand before its query.
use Rattle.std.specs.Prelude.{ℕ, ◌-◌, List, length, codes, nat_lt, if◌then◌else◌, Option, Some, None, option_and_then, Result, Ok, Err}
use Rattle.otlp_spans.specs.Fields.{moment_of}
use Rattle.session_text.specs.Options.{Left, ◌>>=◌, option_first, time_of}

-- ---- what a value says

abbrev pub if_step : ℕ → Option ℕ
if_step n = if nat_lt 0 n then Some n else None

-- a step: decimal digits of a number from 1 to 2^64 - 1
abbrev pub step_of : List ℕ → Option ℕ
step_of text = option_and_then if_step (moment_of text)

-- ---- where an option stands

-- where what is left of a line of this length begins: at the line's length where nothing is left
abbrev pub place_of : ℕ → Left → ℕ
place_of len None = len
place_of len (Some text) = len - length text

-- the value of an option, and what is left
abbrev pub Needed : Type 0
Needed = ℕ × Left

-- an option that must stand there; where it doesn't, what is left is refused
abbrev pub there : ℕ → Option ℕ → Left → Result Needed ℕ
there len None left = Err (place_of len left)
there len (Some value) left = Ok (value, left)

-- An option of this name that must stand first in what is left of a line of this length.
unfoldable pub needed : (List ℕ → Option ℕ) → List ℕ → ℕ → Left → Result Needed ℕ
needed value_of name len left = do
  read ← option_first value_of name len left
  there len read.0 read.1

-- The end, which is above the start; else it is refused at its place.
unfoldable pub end_above : ℕ → ℕ → Needed → Result Needed ℕ
end_above start at end = if nat_lt start end.0 then Ok end else Err at

-- ---- the line

-- what a metrics query's line says
pub record MetricsLine : Type 0 where
  pub start : ℕ
  pub end : ℕ
  pub step : ℕ
  pub query : List ℕ

-- The query is all that is left, which may be the empty text. Where nothing is left it is missing, and the place is the
-- line's length.
abbrev pub measured_query : ℕ → ℕ → ℕ → ℕ → Left → Result MetricsLine ℕ
measured_query len start end step None = Err len
measured_query len start end step (Some query) = Ok (record { start = start; end = end; step = step; query = query })

-- After `metrics` stand the start, the end and the step, and then the query. Of a line of this length this much is left after
-- `metrics`. A refusal is its place.
unfoldable pub metrics_parts : ℕ → Left → Result MetricsLine ℕ
metrics_parts len left = do
  start ← needed time_of (codes "start=") len left
  found ← needed time_of (codes "end=") len start.1
  end ← end_above start.0 (place_of len start.1) found
  step ← needed step_of (codes "step=") len end.1
  measured_query len start.0 end.0 step.0 step.1
