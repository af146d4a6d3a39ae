-- The earliest start, when a start more is known.
use Rattle.std.proofs.Common.{◌≡◌, ℕ, min, List, [], ◌∷◌, arith}
use Rattle.span_types.specs.declared.spans.Row.{Row}
use Rattle.traceql_value.specs.Spans.{earliest}

pub earliest_later : (known start : ℕ) (rows : List Row) → earliest (min known start) rows ≡ min start (earliest known rows)
earliest_later known start [] = omega arith
earliest_later known start (r ∷ rows) = omega (arith, earliest_later known start rows)
