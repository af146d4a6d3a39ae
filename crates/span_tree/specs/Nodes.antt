-- What the relations among spans see of a trace's rows.
use Rattle.std.specs.Prelude.{◌≡◌, ℕ, List, Option, Some, map, slice_get}
use Rattle.std.specs.Option.{option_map, option_and_then}
use Rattle.span_types.specs.declared.ids.SpanId.{SpanId}
use Rattle.span_types.specs.declared.spans.Row.{Row}
use Rattle.span_types.specs.Keys.{row_key}
use Rattle.span_tree.specs.declared.node.Node.{Node}

-- The rows are of one trace, and no two of them have one key.
pub record IsOneTrace (rows : List Row) : Type 0 where
  pub together : (i j : ℕ) (a b : Row) → slice_get rows i ≡ Some a → slice_get rows j ≡ Some b → a.span.trace ≡ b.span.trace
  pub apart : (i j : ℕ) (a b : Row) → slice_get rows i ≡ Some a → slice_get rows j ≡ Some b → row_key a ≡ row_key b → i ≡ j

-- What the relations see of a row: the ids of its span and of that span's parent.
abbrev pub node_of : Row → Node
node_of r = record { id = r.span.id; parent = r.span.parent }

-- The same of each row, in order.
abbrev pub nodes_of : List Row → List Node
nodes_of rows = map node_of rows

-- The id of the span at a position, where there is a span.
abbrev pub id_at : List Node → ℕ → Option SpanId
id_at nodes x = option_map (λ n. n.id) (slice_get nodes x)

-- The id that the span at a position names as its parent's, where there is a span that names one.
abbrev pub parent_at : List Node → ℕ → Option SpanId
parent_at nodes y = option_and_then (λ n. n.parent) (slice_get nodes y)
