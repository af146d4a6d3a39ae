-- What a sketch tells of a stripe.
use Rattle.std.specs.Prelude.{◌≡◌, ℕ, ◌==◌, ◌||◌, Bool, not, List, length, map, Result}
use Rattle.std.specs.List.{list_any}
use Rattle.std.specs.Ordering.{is_lt, nat_cmp, ordering_then}
use Rattle.span_types.specs.Orders.{span_cmp, trace_cmp}
use Rattle.stripe_skims.specs.declared.order.RowKey.{RowKey}
use Rattle.span_types.specs.declared.spans.Row.{Row}
use Rattle.stripe_skims.specs.Walks.{TellsAll}
use Rattle.stripe_skims.specs.declared.sketches.Sketch.{Sketch}

-- a row with events or links
abbrev pub is_rich : Row → Bool
is_rich row = not (length row.span.events == 0) || not (length row.span.links == 0)

-- what is told of these rows
pub record IsSketch (rows : List Row) (sketch : Sketch) : Type 0 where
  pub traces : sketch.traces.items ≡ map (λ row. row.span.trace) rows
  pub spans : sketch.spans.items ≡ map (λ row. row.span.id) rows
  pub kinds : sketch.kinds.items ≡ map (λ row. row.span.kind) rows
  pub starts : sketch.starts.items ≡ map (λ row. row.span.start) rows
  pub ends : sketch.ends.items ≡ map (λ row. row.span.«end») rows
  pub statuses : sketch.statuses.items ≡ map (λ row. row.span.status) rows
  pub rich : sketch.rich ≡ list_any is_rich rows

-- Reading the whole stripe gives rows of which this is told.
abbrev pub SketchesAll : Result (List Row) ℕ → Sketch → Type 0
SketchesAll read sketch = TellsAll IsSketch read sketch

-- what block order looks at in a row
abbrev pub key_of : Row → RowKey
key_of row = record { trace = row.span.trace; start = row.span.start; span = row.span.id }

-- the order of rows by their keys
abbrev pub is_before : RowKey → RowKey → Bool
is_before a b = is_lt (ordering_then (trace_cmp a.trace b.trace) (ordering_then (nat_cmp a.start b.start) (span_cmp a.span b.span)))
