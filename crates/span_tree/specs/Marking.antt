-- Marks on the spans of a trace, by position: what each call of a tree makes of the caller's.
use Rattle.std.specs.Prelude.{◌≡◌, ℕ, List, Bool, true, false, Option, None, Some, length, slice_index_or}

-- The position has a mark.
abbrev pub IsMarked : List Bool → ℕ → Type 0
IsMarked marks y = slice_index_or marks y false ≡ true

-- Of `count` spans just those are marked in `found` to which some span that is marked in `marked` stands in the relation.
pub record MarksExactly (Relates : ℕ → ℕ → Type 0) (count : ℕ) (marked found : List Bool) : Type 0 where
  pub one_each : length found ≡ count
  pub only : (y : ℕ) → IsMarked found y → (x : ℕ) × IsMarked marked x × Relates x y
  pub whole : (x y : ℕ) → IsMarked marked x → Relates x y → IsMarked found y

-- The mark of a position, where there is one.
abbrev pub mark_of : List Bool → Option ℕ → Bool
mark_of marks None = false
mark_of marks (Some y) = slice_index_or marks y false
