-- What a query answers of a trace.
use Rattle.std.specs.Prelude.{◌≡◌, ℕ, List, [], ◌∷◌, Bool, true, Option, Some, None, map, take, length, nat_lt, slice_get, Contains}
use Rattle.std.specs.List.{filter_map}
use Rattle.std.specs.List.Sorted.{IsStrictlyIncreasing}
use Rattle.std.specs.Option.{option_map}
use Rattle.span_types.specs.declared.spans.Row.{Row}
use Rattle.span_types.specs.declared.spans.Span.{Span}
use Rattle.traceql_syntax.specs.declared.field.Field.{Field}
use Rattle.traceql_syntax.specs.Trees.{QueryTree}
use Rattle.traceql_types.specs.declared.pattern.Pattern.{Pattern}
use Rattle.traceql_value.specs.Spans.{field_of_span, root_name, root_service, span_nanos, start_of, trace_nanos}
use Rattle.spanset_eval.specs.declared.results.Hit.{Hit}
use Rattle.spanset_eval.specs.declared.results.SetResult.{SetResult}
use Rattle.spanset_eval.specs.declared.results.TraceResult.{TraceResult}
use Rattle.spanset_eval.specs.Sets.{Selects}
use Rattle.spanset_eval.specs.declared.groups.Group.{Group}
use Rattle.spanset_eval.specs.Stages.{remaining, selected_fields}

-- a span as it is shown, with these fields
abbrev pub hit_of : List Field → List Row → Span → Hit
hit_of fields rows s = record {
  id = s.id;
  name = s.name;
  start = s.start;
  duration = span_nanos s;
  fields = map (λ f. field_of_span f rows s) fields;
}

-- the span at a position as it is shown
abbrev pub hit_at : List Field → List Row → ℕ → Option Hit
hit_at fields rows y = option_map (λ r. hit_of fields rows r.span) (slice_get rows y)

abbrev pub set_result : List Field → List Row → Group → SetResult
set_result fields rows g = record { by = g.by; matched = length g.members; spans = filter_map (hit_at fields rows) g.members }

-- What is shown of a trace: nothing where no spanset is left. All rows are of the one trace.
abbrev pub shown : List Field → List Row → List Group → Option TraceResult
shown fields [] groups = None
shown fields (r ∷ rows) [] = None
shown fields (r ∷ rows) (g ∷ groups) = Some (record {
  trace = r.span.trace;
  root_name = root_name (r ∷ rows);
  root_service = root_service (r ∷ rows);
  start = start_of (r ∷ rows);
  duration = trace_nanos (r ∷ rows);
  sets = map (set_result fields (r ∷ rows)) (g ∷ groups);
})

-- the positions of just the spans that are in a set, in ascending order
pub record IsListOf (A : ℕ → Type 0) (positions : List ℕ) : Type 0 where
  pub ascending : IsStrictlyIncreasing positions
  pub only : (y : ℕ) → Contains positions y → A y
  pub whole : (y : ℕ) → A y → Contains positions y

-- What a query answers of the trace of these rows.
pub record IsOutcome (ps : List Pattern) (rows : List Row) (q : QueryTree) (outcome : Option TraceResult) : Type 0 where
  pub selected : List ℕ
  pub lists : IsListOf (Selects ps rows q.spansets) selected
  pub is : outcome ≡ shown (selected_fields q.stages) rows (remaining ps rows q.stages selected)

-- ---- with fewer spans

-- the first ones of a list, at most so many; all of them where no number is said
abbrev pub at_most : {X : Type 0} → Option ℕ → List X → List X
at_most None xs = xs
at_most (Some n) xs = take n xs

-- whether a list of this length may have one more
abbrev pub has_room : Option ℕ → ℕ → Bool
has_room None length = true
has_room (Some n) length = nat_lt length n

-- A spanset as it is shown, with at most so many of its spans. How many it has is told all the same.
abbrev pub cut_set : Option ℕ → SetResult → SetResult
cut_set most s = record { by = s.by; matched = s.matched; spans = at_most most s.spans }

abbrev pub cut : Option ℕ → TraceResult → TraceResult
cut most r = record { trace = r.trace; root_name = r.root_name; root_service = r.root_service; start = r.start; duration = r.duration; sets = map (cut_set most) r.sets }

-- What a query answers of the trace, with at most so many spans of each spanset.
pub record IsCutOutcome (most : Option ℕ) (ps : List Pattern) (rows : List Row) (q : QueryTree) (outcome : Option TraceResult) : Type 0 where
  pub whole : Option TraceResult
  pub is_outcome : IsOutcome ps rows q whole
  pub is : outcome ≡ option_map (cut most) whole
