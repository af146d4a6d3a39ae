-- Which of several refusals counts.
use Rattle.std.specs.Prelude.{◌≡◌, ℕ, ◌<◌, ◌≤◌, ◌⊎◌, List, [], ◌∷◌, Option, Some, None, All, Contains}
use Rattle.traceql_types.specs.declared.errors.TypeError.{TypeError}
use Rattle.traceql_types.specs.declared.errors.TypeError.TheVariants.{KindClash, NotTruth, DivisionInAggregate, NotNumber, BadPattern, PatternTooBig, Memory}

-- the place of a refusal
abbrev pub place : TypeError → ℕ
place (KindClash at) = at
place (NotTruth at) = at
place (DivisionInAggregate at) = at
place (NotNumber at) = at
place (BadPattern at) = at
place (PatternTooBig at) = at
place Memory = 0

-- its number, by which it goes before others of the same place
abbrev pub number : TypeError → ℕ
number (KindClash at) = 1
number (NotTruth at) = 2
number (DivisionInAggregate at) = 3
number (NotNumber at) = 4
number (BadPattern at) = 5
number (PatternTooBig at) = 6
number Memory = 7

-- a stands at an earlier place than b, or at the same place and goes before b or is b
abbrev pub Precedes : TypeError → TypeError → Type 0
Precedes a b = (place a < place b) ⊎ ((place a ≡ place b) × (number a ≤ number b))

-- the one of these refusals that precedes them all
pub record IsFirst (refusals : List TypeError) (a : TypeError) : Type 0 where
  pub among : Contains refusals a
  pub before : All (Precedes a) refusals

-- the same, or there is no refusal
abbrev pub IsFirstOf : List TypeError → Option TypeError → Type 0
IsFirstOf refusals None = refusals ≡ []
IsFirstOf refusals (Some a) = IsFirst refusals a

-- the list of what may be there
abbrev pub listed : Option TypeError → List TypeError
listed None = []
listed (Some a) = a ∷ []
