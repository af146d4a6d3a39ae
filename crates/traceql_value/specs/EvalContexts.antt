-- What clauses see of a query's matchers and of a context.
use Rattle.std.specs.Prelude.{◌≡◌, List, Some, All}
use Rattle.span_types.specs.declared.spans.Row.{Row}
use Rattle.traceql_types.specs.Asked.{PlacedText}
use Rattle.traceql_types.specs.declared.pattern.Pattern.{Pattern}
use Rattle.traceql_value.specs.declared.context.EvalContext.{EvalContext}
use Rattle.traceql_value.specs.declared.matchers.Matchers.{Matchers}
use Rattle.traceql_value.specs.Matchers.{all_known, string_at}

-- the patterns that are ready to search
abbrev pub matchers_patterns : Matchers → List Pattern
matchers_patterns s = s.patterns.now

-- The place of each of these strings leads, by itself, to the search of that string.
abbrev pub AreFoundByPlace : Matchers → List PlacedText → Type 0
AreFoundByPlace s asked = All (λ m. string_at (all_known s.searches.items) s.places m.0 ≡ Some m.1) asked

-- the patterns that a context has ready to search
abbrev pub context_patterns : EvalContext → List Pattern
context_patterns s = matchers_patterns s.matchers

-- the rows of the trace
abbrev pub context_rows : EvalContext → List Row
context_rows s = s.trace.rows.now

-- The context is still one of the same query and the same trace.
pub record IsSame (old new : EvalContext) : Type 0 where
  pub patterns : context_patterns new ≡ context_patterns old
  pub rows : context_rows new ≡ context_rows old
