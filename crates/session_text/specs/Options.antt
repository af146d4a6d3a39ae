-- The options of a search's line, which stand before its query.
use Rattle.std.specs.Prelude.{ℕ, ◌^◌, ◌-◌, ◌&&◌, ◌==◌, List, [], ◌∷◌, length, codes, nat_le, nat_lt, if◌then◌else◌, Option, Some, None, option_and_then, unwrap_or, Result, Ok, Err, ℤ, pos, negsuc}
use Rattle.std.specs.Option.{option_or}
use Rattle.jiff.specs.Words.{parse_timestamp, Error}
use Rattle.moment_range.specs.declared.range.Range.{Range}
use Rattle.otlp_spans.specs.Fields.{moment_of}
use Rattle.session_text.specs.Lines.{first_part, other_parts}

-- ---- what a value says

abbrev pub if_count : ℕ → Option ℕ
if_count n = if nat_lt 0 n && nat_le n 1000 then Some n else None

-- a count: decimal digits of a number from 1 to 1,000
abbrev pub count_of : List ℕ → Option ℕ
count_of text = option_and_then if_count (moment_of text)

-- a number from 0 to 2^64 - 1
abbrev pub if_moment : ℤ → Option ℕ
if_moment (pos n) = if nat_lt n (2 ^ 64) then Some n else None
if_moment (negsuc n) = None

abbrev pub if_read : Result ℤ Error → Option ℕ
if_read (Ok n) = if_moment n
if_read (Err e) = None

-- the moment, in nanoseconds since 1970, of a text that `jiff` reads as a timestamp
unfoldable pub timestamp_of : List ℕ → Option ℕ
timestamp_of text = if_read (parse_timestamp text)

-- a time: decimal digits of its nanoseconds, or a timestamp
abbrev pub time_of : List ℕ → Option ℕ
time_of text = option_or (moment_of text) (timestamp_of text)

-- ---- where an option stands

-- what follows a name at the beginning of a text
abbrev pub behind : List ℕ → List ℕ → Option (List ℕ)
behind [] text = Some text
behind (c ∷ cs) [] = None
behind (c ∷ cs) (d ∷ ds) = if c == d then behind cs ds else None

-- What is left of a line. Nothing is left where the last part was read.
abbrev pub Left : Type 0
Left = Option (List ℕ)

-- an option that was read, or that doesn't stand there, and what is left
abbrev pub Read : Type 0
Read = Option ℕ × Left

-- the value of an option that stands there; a value that says nothing is refused at the option's place
abbrev pub said : ℕ → Option ℕ → Left → Result Read ℕ
said at None left = Err at
said at (Some value) left = Ok (Some value, left)

-- the option where its name begins the first part
abbrev pub option_named : (List ℕ → Option ℕ) → ℕ → Option (List ℕ) → List ℕ → Result Read ℕ
option_named value_of at None text = Ok (None, Some text)
option_named value_of at (Some value) text = said at (value_of value) (other_parts text)

-- An option of this name that may stand first in what is left of a line of this length.
unfoldable pub option_first : (List ℕ → Option ℕ) → List ℕ → ℕ → Left → Result Read ℕ
option_first value_of name len None = Ok (None, None)
option_first value_of name len (Some text) = option_named value_of (len - length text) (behind name (first_part text)) text

-- ---- the line

-- what a search's line says
pub record SearchLine : Type 0 where
  pub limit : ℕ
  pub spans_per_set : ℕ
  pub range : Range
  pub query : List ℕ

-- the second step, where the first was no refusal
infixl 10 ◌>>=◌
abbrev pub ◌>>=◌ : {A B : Type 0} → Result A ℕ → (A → Result B ℕ) → Result B ℕ
Ok x >>= f = f x
Err at >>= f = Err at

-- The query is all that is left, which may be the empty text. Where nothing is left it is missing, and the place is the
-- line's length.
abbrev pub with_query : ℕ → Option ℕ → Option ℕ → Option ℕ → Option ℕ → Left → Result SearchLine ℕ
with_query len limit spans start end None = Err len
with_query len limit spans start end (Some query) = Ok (record {
  limit = unwrap_or limit 20;
  spans_per_set = unwrap_or spans 3;
  range = record { from = unwrap_or start 0; until = end };
  query = query;
})

-- After `search` stand the options, each at most once and in this order, and then the query: what is left where no
-- option stands that may. Of a line of this length this much is left after `search`. A refusal is its place.
unfoldable pub search_parts : ℕ → Left → Result SearchLine ℕ
search_parts len left = do
  limit ← option_first count_of (codes "limit=") len left
  spans ← option_first count_of (codes "spss=") len limit.1
  start ← option_first time_of (codes "start=") len spans.1
  end ← option_first time_of (codes "end=") len start.1
  with_query len limit.0 spans.0 start.0 end.0 end.1
