-- What the root, the start and the end of a trace are, said without their definitions.
use Rattle.std.specs.Prelude.{◌≡◌, ◌≤◌, ◌⊎◌, ℕ, List, None, false, Contains}
use Rattle.std.specs.Ordering.{is_gt}
use Rattle.span_types.specs.declared.spans.Row.{Row}
use Rattle.span_types.specs.Orders.{trace_order}

-- The root is one of the spans without a parent, and comes after none of them in trace order.
pub record IsRoot (rows : List Row) (root : Row) : Type 0 where
  pub member : Contains rows root
  pub parentless : root.span.parent ≡ None
  pub first : (r : Row) → Contains rows r → r.span.parent ≡ None → is_gt (trace_order root r) ≡ false

-- The start is one of the spans' starts, and later than none of them.
pub record IsStart (rows : List Row) (start : ℕ) : Type 0 where
  pub member : (r : Row) × Contains rows r × (r.span.start ≡ start)
  pub bound : (r : Row) → Contains rows r → start ≤ r.span.start

-- The end is one of the spans' starts and ends, and earlier than none of them.
pub record IsEnd (rows : List Row) (end : ℕ) : Type 0 where
  pub member : (r : Row) × Contains rows r × ((r.span.start ≡ end) ⊎ (r.span.end ≡ end))
  pub starts : (r : Row) → Contains rows r → r.span.start ≤ end
  pub ends : (r : Row) → Contains rows r → r.span.end ≤ end
