-- Where a reader stands, and what reading a field there gives.
use Rattle.std.specs.Prelude.{◌≡◌, ℕ, ◌+◌, ◌-◌, ◌/◌, ◌%◌, ◌<◌, ◌≤◌, ℤ, pos, negsuc, List, ◌++◌, length, take, drop, slice_index, Result, Ok, Err, IsOk, nat_lt, ◌==◌, if◌then◌else◌}
use Rattle.std.specs.Int.{w32, w64, from_le_bytes}
use Rattle.std.specs.Str.{is_utf8}
use Rattle.byte_fields.specs.declared.number.NumberFault.{NumberFault}
use Rattle.byte_fields.specs.declared.number.NumberFault.TheVariants as faults
use Rattle.byte_fields.specs.declared.error.FieldError.{FieldError}
use Rattle.byte_fields.specs.declared.error.FieldError.TheVariants.{Short, NotShortest, NotText, Memory}
use Rattle.byte_fields.specs.Numbers.{number_at}

-- all bytes of a reader, and the place of the next one
pub record Stand : Type 0 where
  pub whole : List ℕ
  pub at : ℕ

-- the bytes that are not read yet
abbrev pub left : Stand → List ℕ
left s = drop s.at s.whole

-- each item is a byte
abbrev pub AreBytes : List ℕ → Type 0
AreBytes bytes = (i : ℕ) → slice_index bytes i < 256

-- a place in these bytes, or the one after the last of them
pub record IsWithin (bytes : List ℕ) (at : ℕ) : Type 0 where
  pub bytes_fit : AreBytes bytes
  pub no_further : at ≤ length bytes

-- the place after so many more bytes
abbrev pub ahead : ℕ → Stand → Stand
ahead n s = record { whole = s.whole; at = s.at + n }

-- The bytes from the old place on are this encoding, and the new place is the one after it.
pub record MovesPast (spelling : List ℕ) (old new : Stand) : Type 0 where
  pub spelled : left old ≡ spelling ++ left new
  pub place : new ≡ ahead (length spelling) old

infixl 10 ◌>>=◌
abbrev pub ◌>>=◌ : {A B E : Type 0} → Result A E → (A → Result B E) → Result B E
(Ok x) >>= f = f x
(Err e) >>= f = Err e

-- What a call gave, seen by view, and where the reader then stands are what reading gives. After a refusal it stands
-- as before.
abbrev pub Reads : {X Y : Type 0} → (X → Y) → Result X FieldError → Stand → Stand → Result (Y × Stand) FieldError → Type 0
Reads view (Ok x) old new read = read ≡ Ok (view x, new)
Reads view (Err e) old new read = (read ≡ Err e) × (new ≡ old)

-- The same, but that memory may be wanted for a value that is there.
abbrev pub MayRead : {X Y : Type 0} → (X → Y) → Result X FieldError → Stand → Stand → Result (Y × Stand) FieldError → Type 0
MayRead view (Ok x) old new read = read ≡ Ok (view x, new)
MayRead view (Err Memory) old new read = IsOk read × (new ≡ old)
MayRead view (Err (Short at)) old new read = (read ≡ Err (Short at)) × (new ≡ old)
MayRead view (Err (NotShortest at)) old new read = (read ≡ Err (NotShortest at)) × (new ≡ old)
MayRead view (Err (NotText at)) old new read = (read ≡ Err (NotText at)) × (new ≡ old)

-- the next n bytes
unfoldable pub raw_at : ℕ → Stand → Result (List ℕ × Stand) FieldError
raw_at n s = if nat_lt (length (left s)) n then Err (Short (length s.whole)) else Ok (take n (left s), ahead n s)

unfoldable pub byte_at : Stand → Result (ℕ × Stand) FieldError
byte_at s = do
  bytes ← raw_at 1 s
  Ok (slice_index bytes.0 0, bytes.1)

unfoldable pub fixed32_at : Stand → Result (ℕ × Stand) FieldError
fixed32_at s = do
  bytes ← raw_at 4 s
  Ok (from_le_bytes w32 bytes.0, bytes.1)

unfoldable pub fixed64_at : Stand → Result (ℕ × Stand) FieldError
fixed64_at s = do
  bytes ← raw_at 8 s
  Ok (from_le_bytes w64 bytes.0, bytes.1)

-- what a number's fault is where the reader stands
abbrev pub placed : Stand → NumberFault → FieldError
placed s faults.Short = Short (length s.whole)
placed s faults.Long = NotShortest s.at

-- a number, and the place of the bytes that it leaves
abbrev pub number_from : Stand → Result (ℕ × List ℕ) NumberFault → Result (ℕ × Stand) FieldError
number_from s (Ok x) = Ok (x.0, record { whole = s.whole; at = length s.whole - length x.1 })
number_from s (Err fault) = Err (placed s fault)

unfoldable pub var_at : Stand → Result (ℕ × Stand) FieldError
var_at s = number_from s (number_at 9 (left s))

-- the signed number with this zigzag number
abbrev pub signed_of : ℕ → ℤ
signed_of n = if n % 2 == 0 then pos (n / 2) else negsuc (n / 2)

unfoldable pub zigzag_at : Stand → Result (ℤ × Stand) FieldError
zigzag_at s = do
  n ← var_at s
  Ok (signed_of n.0, n.1)

-- a length and so many bytes, which are no text where they are not UTF-8
unfoldable pub text_at : Stand → Result (List ℕ × Stand) FieldError
text_at s = do
  n ← var_at s
  text ← raw_at n.0 n.1
  if is_utf8 text.0 then Ok text else Err (NotText s.at)
