-- What the calls of a source, a sink and a clock do to what they tell.
use Rattle.std.specs.Prelude.{ℕ, List, [], ◌∷◌, Option, take}
use Rattle.std.specs.Io.KnownBytes.{Appends}

-- The told bytes grew by the first few of `bytes`, or by none or all of them.
abbrev pub AppendsPrefix : Option (List ℕ) → Option (List ℕ) → List ℕ → Type 0
AppendsPrefix old new bytes = (count : ℕ) × Appends old new (take count bytes)

-- The moment that a clock with these moments gives: the first, or 0 where there is none.
abbrev pub first_moment : List ℕ → ℕ
first_moment [] = 0
first_moment (moment ∷ _) = moment

-- The moments after that call: without the first one where another follows it.
abbrev pub later_moments : List ℕ → List ℕ
later_moments [] = []
later_moments (moment ∷ []) = moment ∷ []
later_moments (_ ∷ next ∷ moments) = next ∷ moments
