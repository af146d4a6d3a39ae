-- Which rows a stripe has, and which bytes stand for them.
use Rattle.std.specs.Prelude.{◌≡◌, ℕ, ◌+◌, min, ◌<◌, ◌≤◌, ◌^◌, ◌==◌, ◌&&◌, ◌||◌, not, All, Bool, true, false, List, [], length, IfSome, Result, Ok, Err}
use Rattle.std.specs.List.{AllByRecursion, list_all}
use Rattle.span_types.specs.declared.spans.Row.{Row}
use Rattle.span_types.specs.Equal.{same_resource, same_scope}
use Rattle.span_types.specs.Promises.{all_zero}
use Rattle.byte_fields.specs.Reading.{AreBytes}
use Rattle.span_fields.specs.Sound.{AreSound, IsBelow64, IsParent, IsSpanId, IsTrace, IsWord}
use Rattle.block_columns.specs.ColumnEncodings.{first_uses}
use Rattle.block_columns.specs.ColumnLaws.{IsOnlyIf}
use Rattle.block_stripes.specs.declared.error.FormatError.{FormatError}
use Rattle.block_stripes.specs.declared.error.FormatError.TheVariants.{NotBlock, Memory}
use Rattle.block_parts.specs.PartsKept.{AreKeptAttrs, IsKeptEvent, IsKeptLink, IsKeptResource, IsKeptScope}
use Rattle.block_stripes.specs.StripeEncodings.{content_bytes, resources_of, scopes_of, stripe_bytes}
use Rattle.block_stripes.specs.StripeReadings.{ascend, is_no_size}
use Rattle.block_stripes.specs.StripeRows.{Cells}

-- form 2 has events and links
abbrev pub is_extended : ℕ → Bool
is_extended form = form == 2

-- A row that a stripe can hold. The types of rows promise all of it, but that form 1 has neither events nor links.
pub record IsKeptRow (extended : Bool) (row : Row) : Type 0 where
  pub trace : IsTrace row.span.trace
  pub id : IsSpanId row.span.id
  pub parent : IsParent row.span.parent
  pub number : IsBelow64 row.place.number
  pub position : row.place.position < 4294967296
  pub name : IsWord row.span.name
  pub start : IsBelow64 row.span.start
  pub ended : IsBelow64 row.span.«end»
  pub message : IsWord row.span.message
  pub resource : IsKeptResource row.span.resource
  pub scope : IsKeptScope row.span.scope
  pub attrs : AreKeptAttrs row.span.attrs
  pub events : IsOnlyIf extended (AreSound IsKeptEvent) row.span.events
  pub links : IsOnlyIf extended (AreSound IsKeptLink) row.span.links

-- 1 to 256 rows in block order, which a stripe can hold
pub record AreStripe (extended : Bool) (rows : List Row) : Type 0 where
  pub some : 1 ≤ length rows
  pub few : length rows ≤ 256
  pub order : ascend rows ≡ true
  pub each : AllByRecursion (IsKeptRow extended) rows
  pub short : length (content_bytes extended rows) < 2 ^ 64

-- The bytes of a stripe stand for these rows.
pub record StripeHolds (form : ℕ) (bytes : List ℕ) (rows : List Row) : Type 0 where
  pub rows_are : AreStripe (is_extended form) rows
  pub bytes_fit : AreBytes bytes
  pub bytes_are : bytes ≡ stripe_bytes (is_extended form) rows

-- a row for which the form has bytes: form 1 has none for events and links
abbrev pub has_form : Bool → Row → Bool
has_form extended row = extended || ((length row.span.events == 0) && (length row.span.links == 0))

-- Rows that can be written as one stripe, as far as their types don't promise it: 1 to 256 rows in block order, for each of which
-- the form has bytes.
abbrev pub can_be_stripe : Bool → List Row → Bool
can_be_stripe extended rows = not (is_no_size (length rows)) && (ascend rows && list_all (has_form extended) rows)

-- ---- for private clauses

-- a list that can be kept where it is written
abbrev pub IsWritten : {A : Type 0} → Bool → (A → Type 0) → List A → Type 0
IsWritten true Fits xs = AreSound Fits xs
IsWritten false Fits xs = Unit {0}

abbrev pub AreIds : List Row → Type 0
AreIds rows = All (λ row. IsTrace row.span.trace) rows × (All (λ row. IsSpanId row.span.id) rows × All (λ row. IsParent row.span.parent) rows)

abbrev pub AreNames : List Row → Type 0
AreNames rows = All (λ row. IsBelow64 row.place.number) rows × (All (λ row. row.place.position < 4294967296) rows × All (λ row. IsWord row.span.name) rows)

abbrev pub AreTimes : List Row → Type 0
AreTimes rows = All (λ row. IsBelow64 row.span.start) rows × (All (λ row. IsBelow64 row.span.«end») rows × All (λ row. IsWord row.span.message) rows)

abbrev pub AreOwned : Bool → List Row → Type 0
AreOwned extended rows = All (λ row. AreKeptAttrs row.span.attrs) rows
    × (All (λ row. IsWritten extended IsKeptEvent row.span.events) rows × All (λ row. IsWritten extended IsKeptLink row.span.links) rows)

-- all that is promised of rows once they are written
pub record AreWritten (extended : Bool) (rows : List Row) : Type 0 where
  pub ids : AreIds rows
  pub names : AreNames rows
  pub times : AreTimes rows
  pub owned : AreOwned extended rows

-- the same, with what they refer to
pub record AreWhole (extended : Bool) (rows : List Row) : Type 0 where
  pub written : AreWritten extended rows
  pub resources : AreSound IsKeptResource (first_uses same_resource (resources_of rows))
  pub scopes : AreSound IsKeptScope (first_uses same_scope (scopes_of rows))

-- no id of these cells is all zeros: not the trace's, nor the span's, nor its parent's
abbrev pub IsNamed : Cells → Type 0
IsNamed cells = (all_zero cells.0.0 ≡ false) × ((all_zero cells.1.0.0 ≡ false) × (IfSome cells.1.1.0 (λ parent. all_zero parent.0 ≡ false) × Unit {0}))

-- What a call that reads a stripe from this offset of its file on gives is what reading gives, counted from the file's first byte.
-- No offset is past the end of the bytes.
abbrev pub ReadsFrom : ℕ → List ℕ → Result (List Row) FormatError → Result (List Row) ℕ → Type 0
ReadsFrom base bytes (Ok rows) read = read ≡ Ok rows
ReadsFrom base bytes (Err (NotBlock at)) read = (offset : ℕ) × (read ≡ Err offset) × (at ≡ base + min offset (length bytes))
ReadsFrom base bytes (Err Memory) read = Unit {0}
