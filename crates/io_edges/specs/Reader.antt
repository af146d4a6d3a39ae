-- What contracts see of a reader of lines, and what its answers mean.
use Rattle.std.specs.Prelude.{◌≡◌, ℕ, ◌+◌, ◌-◌, ◌<◌, ◌≤◌, List, [], ◌∷◌, ◌++◌, Option, Some, length}
use Rattle.std.specs.Io.KnownBytes.{Consumes, IsAtEnd}
use Rattle.io_edges.specs.Lines.{line_limit, taken_limit, ends_in_return, without_return, lines}
use Rattle.io_edges.specs.declared.begun.Begun.{Begun}
use Rattle.io_edges.specs.declared.begun.Begun.TheVariants.{Kept, Dropped}
use Rattle.io_edges.specs.declared.line.Line.{Line}
use Rattle.io_edges.specs.declared.line.Line.TheVariants.{Whole, TooLong, End, Spent}
use Rattle.io_edges.specs.declared.block.Fill.{Fill}
use Rattle.io_edges.specs.declared.block.Fill.TheVariants.{Bytes, AtEnd, AllTaken}

-- `piece` is what the reader took of a line that isn't ended yet. Of one that is too long already only the length is
-- kept, and whether its last byte is a carriage return.
abbrev pub IsBegun : Begun → List ℕ → Type 0
IsBegun (Kept bytes) piece = piece ≡ bytes
IsBegun (Dropped size returns) piece = (length piece ≡ size) × (ends_in_return piece ≡ returns)

-- No more of a line is kept than a line may have with a carriage return, and it is dropped only where it has more.
abbrev pub IsSound : Begun → Type 0
IsSound (Kept bytes) = length bytes ≤ line_limit + 1
IsSound (Dropped size returns) = line_limit + 1 < size

-- How many bytes of the line that isn't ended were taken.
abbrev pub begun_len : Begun → ℕ
begun_len (Kept bytes) = length bytes
begun_len (Dropped size returns) = size

-- The answer is the line with these bytes, which it tells or counts.
abbrev pub IsLineOf : Line → List ℕ → Type 0
IsLineOf (Whole bytes) line = (bytes ≡ line) × (length line ≤ line_limit)
IsLineOf (TooLong size) line = (size ≡ length line) × (line_limit < length line)
IsLineOf End line = ⊥
IsLineOf (Spent taken) line = ⊥

-- No line feed, byte 10, is among the bytes.
abbrev pub HasNoFeed : List ℕ → Type 0
HasNoFeed [] = Unit {0}
HasNoFeed (byte ∷ bytes) = (byte ≡ 10 → ⊥) × HasNoFeed bytes

-- A reader of lines: what it took of a line that isn't ended, the bytes after that which it took from its source and
-- hasn't looked at, and how many bytes it took in all.
pub record Reader : Type 0 where
  pub begun : Begun
  pub pending : List ℕ
  pub taken : ℕ

-- The reader holds these bytes, and answered all that it took before them.
pub record Holds (reader : Reader) (held : List ℕ) : Type 0 where
  pub piece : List ℕ
  pub is_begun : IsBegun reader.begun piece
  pub no_feed : HasNoFeed piece
  pub held_is : held ≡ piece ++ reader.pending

-- The bytes held are a line that no line feed ends.
pub record IsLastLine (answer : Line) (held : List ℕ) : Type 0 where
  pub not_empty : held ≡ [] → ⊥
  pub no_feed : HasNoFeed held
  pub line : IsLineOf answer (without_return held)

-- `text` is still to be read as lines: what the reader holds, and what then remains in a source that tells `left`.
pub record IsToRead (reader : Reader) (left : Option (List ℕ)) (text : List ℕ) : Type 0 where
  pub held : List ℕ
  pub rest : List ℕ
  pub holds : Holds reader held
  pub told : left ≡ Some rest
  pub text_is : text ≡ held ++ rest

-- How many bytes are at most still to be answered: those that the reader holds, and those that it may still take.
abbrev pub to_come : Reader → ℕ
to_come reader = taken_limit - reader.taken + (begun_len reader.begun + length reader.pending)

-- `line` is the first line of `text`, and `rest` is to be read after it.
pub record IsNextLine (text line : List ℕ) (ToRead : List ℕ → Type 0) : Type 0 where
  pub past : List ℕ
  pub rest : List ℕ
  pub parts : text ≡ past ++ rest
  pub first : lines text ≡ line ∷ lines rest
  pub after : ToRead rest

-- What an answer says of the text that was to be read, where `ToRead` says what is to be read afterwards.
abbrev pub Answers : Line → List ℕ → (List ℕ → Type 0) → Type 0
Answers (Whole bytes) text ToRead = IsNextLine text bytes ToRead
Answers (TooLong size) text ToRead = (line : List ℕ) × IsNextLine text line ToRead × (size ≡ length line)
Answers End text ToRead = (text ≡ []) × ToRead []
Answers (Spent taken) text ToRead = ToRead text

-- The numbers of an answer are within their limits: a line is too long exactly where it has over `line_limit` bytes, and
-- all is spent exactly where `taken_limit` bytes were taken. The end is found only by asking for another byte.
abbrev pub IsWithinLimits : Line → ℕ → Type 0
IsWithinLimits (Whole bytes) now = length bytes ≤ line_limit
IsWithinLimits (TooLong size) now = line_limit < size
IsWithinLimits End now = now < taken_limit
IsWithinLimits (Spent taken) now = (taken ≡ taken_limit) × (now ≡ taken_limit)

-- No line feed is among the bytes that the reader holds, so that every line which was ended in what it took was answered.
abbrev pub HoldsNoFeed : Reader → Type 0
HoldsNoFeed reader = (held : List ℕ) → Holds reader held → HasNoFeed held

-- All is spent only where the bytes that the reader holds end no line, so that it would ask for another byte.
abbrev pub WouldAsk : Line → Reader → Type 0
WouldAsk (Whole bytes) now = Unit {0}
WouldAsk (TooLong size) now = Unit {0}
WouldAsk End now = Unit {0}
WouldAsk (Spent taken) now = HoldsNoFeed now

-- After a line fewer bytes are to come, and after any other answer no more than before.
abbrev pub ComesNearer : Line → ℕ → ℕ → Type 0
ComesNearer (Whole bytes) old new = new < old
ComesNearer (TooLong size) old new = new < old
ComesNearer End old new = new ≤ old
ComesNearer (Spent taken) old new = new ≤ old

-- What filling an empty buffer answers: some bytes came, or the source is at its end, or as many bytes were taken as are
-- ever taken, and then none was asked for.
abbrev pub IsFilled : Fill → List ℕ → ℕ → Option (List ℕ) → Type 0
IsFilled Bytes pending taken left = 0 < length pending
IsFilled AtEnd pending taken left = (pending ≡ []) × (taken < taken_limit) × IsAtEnd left
IsFilled AllTaken pending taken left = (pending ≡ []) × (taken ≡ taken_limit)

-- A line feed among the bytes that were held ends the line that is the answer, and the reader holds what follows.
pub record EndsByFeed (held : List ℕ) (answer : Line) (after : Reader) : Type 0 where
  pub piece : List ℕ
  pub rest : List ℕ
  pub no_feed : HasNoFeed piece
  pub held_is : held ≡ piece ++ 10 ∷ rest
  pub line : IsLineOf answer (without_return piece)
  pub holds : Holds after rest

-- What is answered at the end of input: the bytes held are the last line, or there are none and all was answered.
abbrev pub EndsInput : Line → List ℕ → Type 0
EndsInput (Whole bytes) held = IsLastLine (Whole bytes) held
EndsInput (TooLong size) held = IsLastLine (TooLong size) held
EndsInput End held = held ≡ []
EndsInput (Spent taken) held = ⊥

-- The reader took some bytes from the source, in order, and counted them.
abbrev pub TakesBytes : Option (List ℕ) → Option (List ℕ) → ℕ → ℕ → Type 0
TakesBytes left_before left_after before after =
    (bytes : List ℕ) × Consumes left_before left_after bytes × (after ≡ before + length bytes)
