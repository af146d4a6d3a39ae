-- Which stripes of a block are read for candidates, and what is found there.
use Rattle.std.specs.Prelude.{◌≡◌, ℕ, ◌-◌, ◌*◌, List, Bool, true, false, ◌&&◌, nat_le, take, drop, Option, None, Some, Result, Ok, Err, sum_by, if◌then◌else◌}
use Rattle.std.specs.List.{AllByRecursion}
use Rattle.std.specs.Ordering.{is_gt}
use Rattle.moment_range.specs.declared.range.Range.{Range}
use Rattle.moment_range.specs.Ranges.{is_before}
use Rattle.span_types.specs.Orders.{trace_cmp}
use Rattle.span_types.specs.declared.ids.TraceId.{TraceId}
use Rattle.span_types.specs.declared.spans.Row.{Row}
use Rattle.block_info.specs.declared.info.StripeInfo.{StripeInfo}
use Rattle.block_read.specs.declared.error.ReadError.{ReadError}
use Rattle.block_read.specs.declared.error.ReadError.TheVariants.{Fault, NotBlock, Memory}
use Rattle.column_scan.specs.declared.hints.Hint.{Hint}
use Rattle.column_scan.specs.declared.scans.Progress.{Progress}

-- some moment of the stripe can be in the range
abbrev pub meets : Range → StripeInfo → Bool
meets range stripe = nat_le range.from stripe.latest && is_before range.until stripe.earliest

abbrev pub scanned_by : Option (List ℕ) → Range → StripeInfo → Bool
scanned_by None range stripe = meets range stripe
scanned_by (Some text) range stripe = true

-- A stripe may have hinted rows: each one if there is a text, else those that meet the range.
abbrev pub may_scan : Hint → StripeInfo → Bool
may_scan hint stripe = scanned_by hint.text hint.range stripe

-- the pages of the stripes that may have hinted rows
abbrev pub scanned_pages : Hint → List StripeInfo → ℕ
scanned_pages hint stripes = sum_by (λ stripe. if may_scan hint stripe then stripe.pages else 0) stripes

-- What is found fits, and the pages aren't found to be no block. A fault and out of memory say nothing of them.
abbrev pub FindsFit : {A : Type 0} → (A → Type 0) → Result A ReadError → Type 0
FindsFit fits (Ok x) = fits x
FindsFit fits (Err Fault) = Unit {0}
FindsFit fits (Err (NotBlock file at)) = ⊥
FindsFit fits (Err Memory) = Unit {0}

-- ---- a scan that stops and goes on

-- so many picks are enough
abbrev pub is_enough : Option ℕ → ℕ → Bool
is_enough None count = false
is_enough (Some most) count = nat_le most count

-- the stripes from one on that are before another
abbrev pub stripes_between : ℕ → ℕ → List StripeInfo → List StripeInfo
stripes_between from next stripes = take (next - from) (drop from stripes)

-- the rows of these stripes, among those of the block
abbrev pub rows_between : ℕ → ℕ → List Row → List Row
rows_between from next rows = take (256 * (next - from)) (drop (256 * from) rows)

-- the stripes that were gone through; after an error it may be all that were left
abbrev pub gone_through : ℕ → Result Progress ReadError → List StripeInfo → List StripeInfo
gone_through from (Ok progress) stripes = stripes_between from progress.next stripes
gone_through from (Err e) stripes = drop from stripes

-- No row before is of a trace above this one, and no row after of one below it.
pub record PartsRows (id : TraceId) (before after : List Row) : Type 0 where
  pub none_above : AllByRecursion (λ row. is_gt (trace_cmp row.span.trace id) ≡ false) before
  pub none_below : AllByRecursion (λ row. is_gt (trace_cmp id row.span.trace) ≡ false) after
