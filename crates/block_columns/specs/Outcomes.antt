-- For private clauses: what a call answers.
use Rattle.std.specs.Prelude.{◌≡◌, ℕ, Result, Ok, Err}
use Rattle.span_fields.specs.declared.breaks.Break.{Break}
use Rattle.span_fields.specs.Breaks.{Fails}

-- What a call gave, seen by view, and where the reader then stands are what reading gives; or it fails so.
abbrev pub Finds : {X Y S : Type 0} → (X → Y) → Result X Break → S → Result (Y × S) ℕ → Type 0
Finds view (Ok x) new read = read ≡ Ok (view x, new)
Finds view (Err e) new read = Fails e read

-- The same, of a call that gives a value alone.
abbrev pub Tells : {Y : Type 0} → Result Y Break → Result Y ℕ → Type 0
Tells (Ok x) read = read ≡ Ok x
Tells (Err e) read = Fails e read
