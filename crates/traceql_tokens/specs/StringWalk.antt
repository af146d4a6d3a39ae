-- Private mechanism. A string literal read byte by byte.
use Rattle.std.specs.Prelude.{ℕ, ◌+◌, ◌==◌, not, List, [], ◌∷◌, length, take, Option, Some, None, Result, Ok, Err, slice_index, if◌then◌else◌}
use Rattle.std.specs.Option.{is_none, option_map}
use Rattle.std.specs.List.{prefix_len, filter_map}
use Rattle.traceql_tokens.specs.Strings.{Piece, Plain, Escape, pieces_text, escaped, meaning}
use Rattle.traceql_tokens.specs.declared.kinds.Fault.{Fault}
use Rattle.traceql_tokens.specs.declared.kinds.Fault.TheVariants as fault

-- the pieces before the first quote that no backslash hides, or as many as there are
unfoldable pub pieces : List ℕ → List Piece
pieces [] = []
pieces (b ∷ []) = if b == 34 then [] else (if b == 92 then [] else Plain b ∷ [])
pieces (b ∷ c ∷ bs) = if b == 34 then [] else (if b == 92 then Escape c ∷ pieces bs else Plain b ∷ pieces (c ∷ bs))

-- how many bytes they have
abbrev pub body_len : List ℕ → ℕ
body_len bytes = length (pieces_text (pieces bytes))

-- how many bytes stand before the first escape that is not known
abbrev pub first_unknown : List Piece → Option ℕ
first_unknown [] = None
first_unknown (Plain b ∷ ps) = option_map (λ n. n + 1) (first_unknown ps)
first_unknown (Escape c ∷ ps) = if is_none (escaped c) then Some 0 else option_map (λ n. n + 2) (first_unknown ps)

-- this value, or the fault of an unknown escape so many bytes after a place
abbrev pub value_or : ℕ → List ℕ → Option ℕ → Result (List ℕ) Fault
value_or at value None = Ok value
value_or at value (Some n) = Err (fault.UnknownEscape (at + n))

-- the value of the pieces, or the fault of the first that is not known; the first piece has the place `at`
unfoldable pub value_of : ℕ → List Piece → Result (List ℕ) Fault
value_of at ps = value_or at (filter_map meaning ps) (first_unknown ps)

-- a string after its double quote, which has the place `at`: what it is, and how many bytes it has with its quotes
unfoldable pub quoted_at : ℕ → List ℕ → Result (List ℕ) Fault × ℕ
quoted_at at body =
    if slice_index body (body_len body) == 34 then (value_of (at + 1) (pieces body), body_len body + 2) else (Err (fault.Unended at), length body + 1)

-- a string after its backquote
unfoldable pub raw_at : ℕ → List ℕ → Result (List ℕ) Fault × ℕ
raw_at at body =
    let n = prefix_len (λ b. not (b == 96)) body in
    if slice_index body n == 96 then (Ok (take n body), n + 2) else (Err (fault.Unended at), length body + 1)

-- a string from its quote on; there is none before any other byte
unfoldable pub string_at : ℕ → List ℕ → Option (Result (List ℕ) Fault × ℕ)
string_at at [] = None
string_at at (b ∷ body) = if b == 34 then Some (quoted_at at body) else (if b == 96 then Some (raw_at at body) else None)
