-- Where a field that is malformed is told to be so.
use Rattle.std.specs.Prelude.{◌≡◌, ℕ, Bool, Result, Ok, Err, if◌then◌else◌}
use Rattle.byte_fields.specs.declared.error.FieldError.{FieldError}
use Rattle.byte_fields.specs.declared.error.FieldError.TheVariants.{Short, NotShortest, NotText, Memory}
use Rattle.byte_fields.specs.Reading.{Stand}
use Rattle.span_fields.specs.declared.breaks.Break.{Break}
use Rattle.span_fields.specs.declared.breaks.Break.TheVariants as breaks

-- The place that is told of a field which can't be read from where the reader stands. Where it is too long for its part and
-- the file goes on after the part, the place is its own; where the file doesn't, it is the file's end.
abbrev pub place_of : Bool → Stand → FieldError → ℕ
place_of within s (Short at) = if within then s.at else at
place_of within s (NotShortest at) = at
place_of within s (NotText at) = at
place_of within s Memory = s.at

-- a field in a part, or the place where it breaks
abbrev pub or_place : {A : Type 0} → Bool → Stand → Result (A × Stand) FieldError → Result (A × Stand) ℕ
or_place within s (Ok x) = Ok x
or_place within s (Err e) = Err (place_of within s e)

unfoldable pub in_part : {A : Type 0} → Bool → (Stand → Result (A × Stand) FieldError) → Stand → Result (A × Stand) ℕ
in_part within read s = or_place within s (read s)

-- ---- what calls that read answer

-- what is answered for a field's error
abbrev pub break_of : Bool → ℕ → FieldError → Break
break_of within at (Short end) = breaks.At (if within then at else end)
break_of within at (NotShortest place) = breaks.At place
break_of within at (NotText place) = breaks.At place
break_of within at Memory = breaks.Memory

-- What a call answered is that reading breaks there, or the call was out of memory.
abbrev pub Fails : {Y : Type 0} → Break → Result Y ℕ → Type 0
Fails breaks.Memory read = Unit {0}
Fails (breaks.At place) read = read ≡ Err place

-- What a call gave, seen by view, and where the reader then stands are what reading gives; or it fails so.
abbrev pub Gives : {X Y : Type 0} → (X → Y) → Result X Break → Stand → Result (Y × Stand) ℕ → Type 0
Gives view (Ok x) new read = read ≡ Ok (view x, new)
Gives view (Err e) new read = Fails e read

-- The same, of a call that gives the place too.
abbrev pub Answers : {X Y : Type 0} → (X → Y) → Result X Break → Result Y ℕ → Type 0
Answers view (Ok x) read = read ≡ Ok (view x)
Answers view (Err e) read = Fails e read
