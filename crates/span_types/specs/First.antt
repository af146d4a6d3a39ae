-- First occurrences: of the rows of one key, the row that came in first.
use Rattle.std.specs.Prelude.{◌≡◌, List, [], ◌∷◌, Option, None, Some, Bool, true, if◌then◌else◌, All, Contains, length}
use Rattle.std.specs.declared.cmp.Ordering.TheVariants.{Less}
use Rattle.std.specs.Ordering.{is_lt, is_eq}
use Rattle.std.specs.List.{AllAdjacentBelow}
use Rattle.span_types.specs.declared.ids.Key.{Key}
use Rattle.span_types.specs.declared.ids.Place.{Place}
use Rattle.span_types.specs.declared.spans.Row.{Row}
use Rattle.span_types.specs.Keys.{row_key}
use Rattle.span_types.specs.Orders.{key_cmp, place_cmp, block_order}

-- Which of two rows comes first: that of the lesser place. Of one place the former.
abbrev pub lesser : Option Row → Option Row → Option Row
lesser None b = b
lesser (Some a) None = Some a
lesser (Some a) (Some b) = if is_lt (place_cmp b.place a.place) then Some b else Some a

-- The row itself, where it has the key.
abbrev pub row_at : Key → Row → Option Row
row_at k r = if is_eq (key_cmp (row_key r) k) then Some r else None

-- The first row of a key among rows: that of the least place. Of rows at one place the earliest in the list counts.
abbrev pub first_at : Key → List Row → Option Row
first_at k [] = None
first_at k (r ∷ rs) = lesser (row_at k r) (first_at k rs)

-- `firsts` are the first occurrences of `rows`: the first row of each key and nothing else, each once, in block order.
pub record IsFirstOf (rows firsts : List Row) : Type 0 where
  pub only : All (λ r. first_at (row_key r) rows ≡ Some r) firsts
  pub whole : (k : Key) (r : Row) → first_at k rows ≡ Some r → Contains firsts r
  pub ordered : AllAdjacentBelow (λ a b. block_order a b ≡ Less) firsts (length firsts)

-- Whether a row at the place would come first, given the row that comes first so far.
abbrev pub comes_before : Place → Option Row → Bool
comes_before p None = true
comes_before p (Some r) = is_lt (place_cmp p r.place)
