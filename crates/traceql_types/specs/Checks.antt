-- What an answer of `check` is.
use Rattle.std.specs.Prelude.{◌≡◌, ℕ, ◌<◌, ◌≤◌, List, [], ◌∷◌, ◌++◌, Result, Ok, Err, map, All, Contains}
use Rattle.std.specs.List.{AllByRecursion}
use Rattle.traceql_syntax.specs.Trees.{QueryTree}
use Rattle.traceql_types.specs.declared.errors.TypeError.{TypeError}
use Rattle.traceql_types.specs.declared.errors.MakeError.{MakeError}
use Rattle.traceql_types.specs.declared.errors.MakeError.TheVariants as make
use Rattle.traceql_types.specs.declared.errors.TypeError.TheVariants.{BadPattern, PatternTooBig, Memory}
use Rattle.traceql_types.specs.declared.pattern.Pattern.{Pattern}
use Rattle.traceql_types.specs.Asked.{PlacedText, asked_patterns}
use Rattle.traceql_types.specs.Makers.{Call, refused_in}
use Rattle.traceql_types.specs.Order.{place, Precedes}
use Rattle.traceql_types.specs.Patterns.{pattern_text}
use Rattle.traceql_types.specs.Refusals.{kind_refusals}
use Rattle.traceql_types.specs.Whole.{IsNoPattern}

-- there is one pattern for each text that was asked for, in order, and it shows that text
abbrev pub AreMade : List PlacedText → List Pattern → Type 0
AreMade asked patterns = map pattern_text patterns ≡ map (λ m. m.1) asked

-- a maker made a pattern of the text
abbrev pub IsMade : List ℕ → Type 0
IsMade text = (p : Pattern) × (pattern_text p ≡ text)

-- a pattern that is asked for at this place, of whose text P holds
abbrev pub AskedAt : QueryTree → ℕ → (List ℕ → Type 0) → Type 0
AskedAt q at P = (m : PlacedText) × Contains (asked_patterns q) m × (m.0 ≡ at) × P m.1

-- Why a query is refused: for its kinds; for a text that is no pattern; or for a pattern whose text the maker refused.
-- Out of memory is always a cause.
abbrev pub HasCause : QueryTree → (List ℕ → Type 0) → TypeError → Type 0
HasCause q Refused (BadPattern at) = AskedAt q at IsNoPattern
HasCause q Refused (PatternTooBig at) = AskedAt q at Refused
HasCause q Refused Memory = Unit {0}
HasCause q Refused e = Contains (kind_refusals q) e

-- the refusal stands before every refusal for kinds, or is the one of them that goes first
abbrev pub GoesFirst : QueryTree → TypeError → Type 0
GoesFirst q Memory = Unit {0}
GoesFirst q e = All (Precedes e) (kind_refusals q)

-- every pattern that is asked for at an earlier place than the refusal's was made
abbrev pub ComesAfterMade : QueryTree → TypeError → Type 0
ComesAfterMade q Memory = Unit {0}
ComesAfterMade q e = All (λ m. m.0 < place e → IsMade m.1) (asked_patterns q)

-- the calls that made these patterns
abbrev pub made_calls : List Pattern → List Call
made_calls patterns = map (λ p. (pattern_text p, Ok p)) patterns

-- each stands at a later place than those in front of it
abbrev pub Ascends : List PlacedText → Type 0
Ascends [] = Unit {0}
Ascends (m ∷ ms) = AllByRecursion (λ n. m.0 < n.0) ms × Ascends ms

-- the first of these patterns stands at this place, and the last call asked for it and was answered so
abbrev pub IsLastAsked : ℕ → Result Pattern MakeError → List PlacedText → List Call → Type 0
IsLastAsked at answer [] last = ⊥
IsLastAsked at answer (m ∷ ms) last = (m.0 ≡ at) × (last ≡ (m.1, answer) ∷ [])

-- The call that a refusal rests on, where these patterns aren't before it. A refusal for kinds rests on none.
abbrev pub IsLastCall : TypeError → List PlacedText → List Call → Type 0
IsLastCall (BadPattern at) rest last = IsLastAsked at (Err make.Syntax) rest last
IsLastCall (PatternTooBig at) rest last = IsLastAsked at (Err make.Refused) rest last
IsLastCall Memory rest last = ⊥
IsLastCall e rest last = last ≡ []

-- The calls that lead to a refusal: every pattern before its place was asked for, in order, and made; then the pattern at
-- its place, if the refusal is of one; and none after it.
pub record LeadsTo (patterns : List PlacedText) (e : TypeError) (calls : List Call) : Type 0 where
  pub front : List PlacedText
  pub rest : List PlacedText
  pub patterns_are : patterns ≡ front ++ rest
  pub before : AllByRecursion (λ m. m.0 < place e) front
  pub behind : AllByRecursion (λ m. place e ≤ m.0) rest
  pub made : List Pattern
  pub are_made : AreMade front made
  pub last : List Call
  pub is_last : IsLastCall e rest last
  pub calls_are : calls ≡ made_calls made ++ last

-- What a maker was asked for where a query was refused: what leads to the refusal, if its patterns stand in the text's
-- order. Where memory ran out the maker refused nothing.
abbrev pub AskedUpTo : QueryTree → TypeError → List Call → Type 0
AskedUpTo q Memory calls = Ascends (asked_patterns q) → refused_in calls ≡ []
AskedUpTo q e calls = Ascends (asked_patterns q) → LeadsTo (asked_patterns q) e calls

-- The maker refused these texts where a query was refused: that of the pattern which is blamed for its size, and none where
-- none is blamed.
abbrev pub Blames : QueryTree → List (List ℕ) → TypeError → Type 0
Blames q refused (PatternTooBig at) = AskedAt q at (λ text. refused ≡ text ∷ [])
Blames q refused e = refused ≡ []
