-- What is told of a stripe whose rows aren't made.
use Rattle.std.specs.Prelude.{◌≡◌, ℕ, ◌+◌, Bool, false, List, drop, Result, Ok}
use Rattle.span_types.specs.declared.spans.Row.{Row}
use Rattle.byte_fields.specs.Reading.{◌>>=◌, fixed64_at}
use Rattle.byte_fields.specs.Breaks.{in_part}
use Rattle.block_columns.specs.ColumnReadings.{Spot}
use Rattle.block_stripes.specs.StripeReadings.{content_of, rows_of, unfilled, unless_some}
use Rattle.block_stripes.specs.StripeRows.{Cells}

-- Reading gives cells, of whose rows this is told, and stands there after them.
abbrev pub TellsCells : {X : Type 0} → (List Row → X → Type 0) → Result (List Cells × Spot) ℕ → X → Spot → Type 0
TellsCells tells read seen new = (cells : List Cells) × (read ≡ Ok (cells, new)) × tells (rows_of cells) seen

-- The same of rows.
abbrev pub TellsRows : {X : Type 0} → (List Row → X → Type 0) → Result (List Row × Spot) ℕ → X → Spot → Type 0
TellsRows tells read seen new = (rows : List Row) × (read ≡ Ok (rows, new)) × tells rows seen

-- The same of a whole stripe.
abbrev pub TellsAll : {X : Type 0} → (List Row → X → Type 0) → Result (List Row) ℕ → X → Type 0
TellsAll tells read seen = (rows : List Row) × (read ≡ Ok rows) × tells rows seen

-- The rows of a stripe, in whatever order they are.
unfoldable pub unordered_at : Bool → List ℕ → Result (List Row) ℕ
unordered_at extended bytes = do
  size ← in_part false fixed64_at (record { whole = bytes; at = 0 })
  rows ← content_of extended bytes size.0
  unless_some (unfilled (8 + size.0) (drop (8 + size.0) bytes)) rows
