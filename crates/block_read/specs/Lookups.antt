-- What a look-up of a trace in a block gives, and how many pages it may read.
use Rattle.std.specs.Prelude.{◌≡◌, ℕ, ◌+◌, ◌<◌, List, [], ◌∷◌, ◌++◌, length, take, drop, Option, None, Some, Result, Ok, Err, if◌then◌else◌}
use Rattle.std.specs.Int.{div_ceil}
use Rattle.std.specs.Int.Digits.{digits_of}
use Rattle.std.specs.List.{count_by, list_any, position_or_len}
use Rattle.span_types.specs.declared.ids.TraceId.{TraceId}
use Rattle.span_types.specs.declared.spans.Row.{Row}
use Rattle.rows_by_trace.specs.Traces.{is_of_trace}
use Rattle.block_info.specs.declared.info.StripeInfo.{StripeInfo}
use Rattle.block_info.specs.InfoParts.{InfoParts}
use Rattle.block_format.specs.Index.{AreAscending, AreIds, entries, entries_on, index_bytes, is_same, page_entries}
use Rattle.block_format.specs.Pages.{page_at}
use Rattle.block_format.specs.Blocks.{BlockHasInfo, ids_of}
use Rattle.stripe_skims.specs.Wanted.{HasTraces}
use Rattle.stripe_skims.specs.declared.traces.StripeTraces.{StripeTraces}
use Rattle.block_read.specs.Files.{page_of}
use Rattle.block_read.specs.declared.error.ReadError.{ReadError}
use Rattle.block_read.specs.declared.error.ReadError.TheVariants.{Fault, NotBlock, Memory}

-- how many binary digits a number has
abbrev pub bits : ℕ → ℕ
bits n = length (digits_of 2 n)

-- the pages of the stripes that hold a row of the trace
abbrev pub pages_with : TraceId → List StripeInfo → List Row → ℕ
pages_with id [] rows = 0
pages_with id (stripe ∷ stripes) rows =
    (if list_any (is_of_trace id) (take stripe.rows rows) then stripe.pages else 0) + pages_with id stripes (drop stripe.rows rows)

-- So many pages of a block with these rows may be read for a trace: one of the filters, as many of the index as the number of its pages
-- has binary digits, and those of the stripes that hold the trace.
abbrev pub most_pages : InfoParts → TraceId → List Row → ℕ
most_pages info id rows = 1 + (bits info.index_pages + pages_with id info.stripes rows)

-- The wanted rows are found, and the pages aren't found to be no block. A fault and out of memory say nothing of them.
abbrev pub Finds : {A : Type 0} → A → Result A ReadError → Type 0
Finds wanted (Ok x) = x ≡ wanted
Finds wanted (Err Fault) = Unit {0}
Finds wanted (Err (NotBlock file at)) = ⊥
Finds wanted (Err Memory) = Unit {0}

-- Of these rows those of the traces are found, with the trace of the last row, and the pages aren't found to be no block.
abbrev pub FindsTraces : List TraceId → List Row → Result StripeTraces ReadError → Type 0
FindsTraces ids rows (Ok x) = HasTraces ids rows x
FindsTraces ids rows (Err Fault) = Unit {0}
FindsTraces ids rows (Err (NotBlock file at)) = ⊥
FindsTraces ids rows (Err Memory) = Unit {0}

-- a block that is found to be none is the one in this file
abbrev pub IsInFile : {A : Type 0} → ℕ → Result A ReadError → Type 0
IsInFile block (Ok x) = Unit {0}
IsInFile block (Err Fault) = Unit {0}
IsInFile block (Err (NotBlock file at)) = file ≡ block
IsInFile block (Err Memory) = Unit {0}

-- These rows are added to what was found, and the pages aren't found to be no block.
abbrev pub Adds : {A : Type 0} → List Row → List Row → List Row → Result A ReadError → Type 0
Adds more old new (Ok x) = new ≡ old ++ more
Adds more old new (Err Fault) = Unit {0}
Adds more old new (Err (NotBlock file at)) = ⊥
Adds more old new (Err Memory) = Unit {0}

-- ---- where the rows of a trace are

-- The file has the index of rows with these ids, on the pages that the information names.
pub record HasIndex (info : InfoParts) (bytes : List ℕ) (ids : List TraceId) : Type 0 where
  pub ids_fit : AreIds ids
  pub ascending : AreAscending ids
  pub counted : info.index_pages ≡ div_ceil (length (entries ids)) 170
  pub stands : (page : ℕ) → page < info.index_pages → page_of bytes (info.index_page + page) ≡ page_at page (index_bytes ids)
  -- each page has its entries and no others
  pub has_entries : (page : ℕ) → page < info.index_pages → entries_on (page_at page (index_bytes ids)) ≡ page_entries (entries ids) page

-- the number of the first of the rows with this id, and how many there are
abbrev pub place_of : TraceId → List TraceId → Option (ℕ × ℕ)
place_of id ids = if list_any (is_same id) ids then Some (position_or_len (is_same id) ids, count_by (is_same id) ids) else None

-- The bytes are a block of these rows, which the information describes, and those of the trace are so many from that one on.
pub record HasTrace (info : InfoParts) (bytes : List ℕ) (id : TraceId) (first count : ℕ) (rows : List Row) : Type 0 where
  pub described : BlockHasInfo info bytes rows
  pub placed : Some (first, count) ≡ place_of id (ids_of rows)
