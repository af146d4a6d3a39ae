-- So far the places lead to the numbers of their last strings.
use Rattle.std.proofs.Common.{◌≡◌, ℕ, take}
use Rattle.traceql_types.specs.Shown.{shown_all}
use Rattle.traceql_value.specs.Matchers.{last_number, number_at, number_of}
use Rattle.traceql_value.proofs.matchers.places_of.Given as goal

abbrev pub invariant-loop-pattern : goal.invariant-loop-pattern
invariant-loop-pattern l = (at : ℕ) → number_at l.places at ≡ last_number (number_of l.numbers) (shown_all (take l.pattern-index l.pattern-items)) at
