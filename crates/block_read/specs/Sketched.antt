-- What is told of the stripes of a block whose rows aren't made.
use Rattle.std.specs.Prelude.{◌≡◌, ℕ, ◌≤◌, List, length, Option, Some, None, Ok}
use Rattle.std.specs.List.{All}
use Rattle.span_types.specs.declared.spans.Row.{Row}
use Rattle.block_info.specs.declared.info.StripeInfo.{StripeInfo}
use Rattle.block_format.specs.Blocks.{ids_of}
use Rattle.stripe_skims.specs.Sketches.{IsSketch, key_of}
use Rattle.stripe_skims.specs.declared.order.RowKey.{RowKey}
use Rattle.stripe_skims.specs.declared.sketches.Sketch.{Sketch}
use Rattle.block_read.specs.BlockReadings.{stripe_of}

-- the key of a row, where there is one
abbrev pub keyed : Option Row → Option RowKey
keyed None = None
keyed (Some row) = Some (key_of row)

-- Reading a stripe after that row gives rows of which this is told.
pub record IsStripe (form : ℕ) (entry : StripeInfo) (last : Option Row) (part : List ℕ) (sketch : Sketch) : Type 0 where
  pub rows : List Row
  pub read : stripe_of form entry last part ≡ Ok rows
  pub told : IsSketch rows sketch
  pub few : length rows ≤ 256
  pub long : All (λ id. length id.0 ≡ 16) (ids_of rows)
