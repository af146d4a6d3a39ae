-- Private mechanism. Marks on the spans of a trace, and the sets for which they stand.
use Rattle.std.specs.Prelude.{◌≡◌, ℕ, ◌<◌, List, Bool, false, length, slice_index_or}
use Rattle.span_tree.specs.Marking.{IsMarked}

-- whether a position has a mark
abbrev pub mark_at : List Bool → ℕ → Bool
mark_at marks y = slice_index_or marks y false

-- There is one mark for each of so many positions, and the test says which positions have one.
pub record MarksBy (count : ℕ) (test : ℕ → Bool) (marks : List Bool) : Type 0 where
  pub one_each : length marks ≡ count
  pub each : (y : ℕ) → y < count → mark_at marks y ≡ test y

-- There is one mark for each of so many positions, and just the positions of a set have one.
pub record MarksSet (count : ℕ) (A : ℕ → Type 0) (marks : List Bool) : Type 0 where
  pub one_each : length marks ≡ count
  pub only : (y : ℕ) → IsMarked marks y → A y
  pub whole : (y : ℕ) → A y → IsMarked marks y
