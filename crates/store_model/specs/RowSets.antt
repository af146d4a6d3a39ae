-- Rows as sets, and places that name one row.
use Rattle.std.specs.Prelude.{◌≡◌, List}
use Rattle.std.specs.List.{Contains}
use Rattle.span_types.specs.declared.spans.Row.{Row}

-- two rows at one place are equal
abbrev pub OnePlace : List Row → Type 0
OnePlace rows = (x y : Row) → Contains rows x → Contains rows y → x.place ≡ y.place → x ≡ y

-- each row of the one is in the other
abbrev pub Within : List Row → List Row → Type 0
Within xs ys = (x : Row) → Contains xs x → Contains ys x

-- the two have the same rows
abbrev pub SameRows : List Row → List Row → Type 0
SameRows xs ys = Within xs ys × Within ys xs
