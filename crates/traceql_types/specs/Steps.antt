-- Private mechanism. How the making of a query's patterns goes on.
use Rattle.std.specs.Prelude.{◌≡◌, ℕ, ◌<◌, List, [], ◌∷◌, ◌++◌, Option, Some, None, Ok, Err, All, Contains, IfSome, IsSomeAnd}
use Rattle.traceql_types.specs.declared.errors.MakeError.TheVariants as make
use Rattle.traceql_types.specs.declared.errors.TypeError.{TypeError}
use Rattle.traceql_types.specs.declared.errors.TypeError.TheVariants.{BadPattern, PatternTooBig}
use Rattle.traceql_types.specs.declared.pattern.Pattern.{Pattern}
use Rattle.traceql_types.specs.Asked.{PlacedText}
use Rattle.traceql_types.specs.Checks.{AreMade, IsMade, Ascends, LeadsTo, made_calls}
use Rattle.traceql_types.specs.Makers.{Call}
use Rattle.traceql_types.specs.Order.{place, Precedes}
use Rattle.traceql_types.specs.Patterns.{pattern_text}
use Rattle.traceql_types.specs.Whole.{IsNoPattern}

-- Why a refusal was found among the kinds and the patterns so far.
pub data IsFound (kinds : Option TypeError) (done : List PlacedText) (Refused : List ℕ → Type 0) (e : TypeError) : Type 0 where
  of_kinds : kinds ≡ Some e → IsFound kinds done Refused e
  no_pattern : (m : PlacedText) → Contains done m → e ≡ BadPattern m.0 → IsNoPattern m.1 → IsFound kinds done Refused e
  refused : (m : PlacedText) → Contains done m → e ≡ PatternTooBig m.0 → Refused m.1 → IsFound kinds done Refused e

-- It goes before the first refusal for kinds or is that one, and the patterns so far before it were made.
pub record Found (kinds : Option TypeError) (done : List PlacedText) (Refused : List ℕ → Type 0) (e : TypeError) : Type 0 where
  pub cause : IsFound kinds done Refused e
  pub first : IfSome kinds (Precedes e)
  pub after_made : All (λ m. m.0 < place e → IsMade m.1) done

-- How the making of a query's patterns stands: all that were asked for so far were made, and the kinds fit; or a
-- refusal was found.
abbrev pub Stands : Option TypeError → List PlacedText → (List ℕ → Type 0) → Option TypeError → List Pattern → Type 0
Stands kinds done Refused None made = (kinds ≡ None) × AreMade done made
Stands kinds done Refused (Some e) made = Found kinds done Refused e

-- The same of the calls so far, where the patterns so far stand in the text's order.
abbrev pub Called : List PlacedText → Option TypeError → List Pattern → List Call → Type 0
Called done None made calls = calls ≡ made_calls made
Called done (Some e) made calls = Ascends done → LeadsTo done e calls

-- no refusal found so far goes before any of a pattern at this place
abbrev pub GoesNoneBefore : Option TypeError → ℕ → Type 0
GoesNoneBefore first at = IsSomeAnd first (λ e. Precedes e (BadPattern at)) → ⊥

-- What one step makes of the refusal found so far and of the patterns made, and its calls: a pattern is passed over where
-- a refusal goes before it; else it is asked for, and made or refused.
pub data Step (m : PlacedText) (first : Option TypeError) (made : List Pattern) : Option TypeError → List Pattern → List Call → Type 0 where
  passed : IsSomeAnd first (λ e. Precedes e (BadPattern m.0)) → Step m first made first made []
  done : (p : Pattern) → GoesNoneBefore first m.0 → pattern_text p ≡ m.1 → Step m first made first (made ++ p ∷ []) ((m.1, Ok p) ∷ [])
  bad : GoesNoneBefore first m.0 → IsNoPattern m.1 → Step m first made (Some (BadPattern m.0)) made ((m.1, Err make.Syntax) ∷ [])
  too_big : GoesNoneBefore first m.0 → Step m first made (Some (PatternTooBig m.0)) made ((m.1, Err make.Refused) ∷ [])
