-- Why a query is refused, and which texts the maker refused then.
use Rattle.std.proofs.Common.{◌≡◌, ℕ, List, [], ◌∷◌}
use Rattle.traceql_syntax.specs.Trees.{QueryTree}
use Rattle.traceql_types.specs.declared.errors.TypeError.{TypeError}
use Rattle.traceql_types.specs.declared.errors.TypeError.TheVariants.{KindClash, NotTruth, DivisionInAggregate, NotNumber, BadPattern, PatternTooBig, Memory}
use Rattle.traceql_types.specs.Checks.{Blames, HasCause}

-- a pattern is blamed for its size because its text is the one that the maker refused
pub blamed_cause : (q : QueryTree) (Refused : List ℕ → Type 0) (refused : List (List ℕ)) (e : TypeError) → HasCause q Refused e → Blames q refused e → HasCause q (λ text. refused ≡ text ∷ []) e
blamed_cause q Refused refused (KindClash at) h b = h
blamed_cause q Refused refused (NotTruth at) h b = h
blamed_cause q Refused refused (DivisionInAggregate at) h b = h
blamed_cause q Refused refused (NotNumber at) h b = h
blamed_cause q Refused refused (BadPattern at) h b = h
blamed_cause q Refused refused (PatternTooBig at) h b = b
blamed_cause q Refused refused Memory h b = h
