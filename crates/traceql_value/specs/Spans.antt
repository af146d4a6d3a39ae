-- What a field is for a span in its trace.
use Rattle.std.specs.Prelude.{ℕ, ◌-◌, min, max, List, [], ◌∷◌, Option, Some, None, codes, find, if◌then◌else◌}
use Rattle.std.specs.Option.{option_map, option_map_or, option_and_then}
use Rattle.std.specs.Ordering.{is_lt}
use Rattle.std.specs.Str.{bytes_eq}
use Rattle.hex.specs.Hex.{encode_lower}
use Rattle.span_types.specs.declared.attrs.Attr.{Attr}
use Rattle.span_types.specs.declared.attrs.AttrValue.{AttrValue}
use Rattle.span_types.specs.declared.attrs.AttrValue.TheVariants as attr
use Rattle.span_types.specs.declared.ids.SpanId.{SpanId}
use Rattle.span_types.specs.declared.spans.Row.{Row}
use Rattle.span_types.specs.declared.spans.Span.{Span}
use Rattle.span_types.specs.Orders.{trace_order}
use Rattle.traceql_tokens.specs.declared.fixed.AttributeScope.{AttributeScope}
use Rattle.traceql_tokens.specs.declared.fixed.AttributeScope.TheVariants as scope
use Rattle.traceql_tokens.specs.declared.fixed.Intrinsic.{Intrinsic}
use Rattle.traceql_tokens.specs.declared.fixed.Intrinsic.TheVariants as intrinsic
use Rattle.traceql_syntax.specs.declared.field.Field.{Field}
use Rattle.traceql_syntax.specs.declared.field.Field.TheVariants as field
use Rattle.traceql_value.specs.declared.value.Value.{Value}
use Rattle.traceql_value.specs.declared.value.Value.TheVariants.{Nil, Text, Status, Kind}
use Rattle.traceql_value.specs.Values.{attr_value, nanoseconds, unless_empty}

-- ---- the whole trace

-- the earlier of two in trace order; the first where they are alike
abbrev pub earlier_row : Row → Option Row → Row
earlier_row a None = a
earlier_row a (Some b) = if is_lt (trace_order b a) then b else a

-- The root: of the spans without a parent the one that starts first, and of those that start together the one of the
-- least id. A span whose parent is missing is no root.
abbrev pub choose_root : Option SpanId → Row → Option Row → Option Row
choose_root None r rest = Some (earlier_row r rest)
choose_root (Some parent) r rest = rest

abbrev pub root_of : List Row → Option Row
root_of [] = None
root_of (r ∷ rows) = choose_root r.span.parent r (root_of rows)

-- the earliest start, given one that is known
abbrev pub earliest : ℕ → List Row → ℕ
earliest known [] = known
earliest known (r ∷ rows) = min r.span.start (earliest known rows)

-- the greatest of all starts and ends
abbrev pub latest : List Row → ℕ
latest [] = 0
latest (r ∷ rows) = max (max r.span.start r.span.end) (latest rows)

-- when a trace starts: no moment is later than the latest
abbrev pub start_of : List Row → ℕ
start_of rows = earliest (latest rows) rows

-- how long a trace lasts, in nanoseconds
abbrev pub trace_nanos : List Row → ℕ
trace_nanos rows = latest rows - start_of rows

-- ---- attributes

-- the attribute of this name
abbrev pub attr_named : List ℕ → List Attr → Option AttrValue
attr_named name attrs = option_map (λ a. a.value) (find (λ a. bytes_eq a.key name) attrs)

abbrev pub value_named : List ℕ → List Attr → Value
value_named name attrs = option_map_or attr_value (attr_named name attrs) Nil

-- the first of two that is there
abbrev pub or_else : Option AttrValue → Value → Value
or_else None other = other
or_else (Some found) other = attr_value found

-- An attribute is looked for where its prefix says; without one, among the span's and then among the resource's.
abbrev pub attribute_of : AttributeScope → List ℕ → Span → Value
attribute_of scope.Any name s = or_else (attr_named name s.attrs) (value_named name s.resource.attrs)
attribute_of scope.Span name s = value_named name s.attrs
attribute_of scope.Resource name s = value_named name s.resource.attrs
attribute_of scope.Instrumentation name s = value_named name s.scope.attrs

-- ---- intrinsics

-- how long a span took; nothing where it ended before it began
abbrev pub span_nanos : Span → ℕ
span_nanos s = s.end - s.start

abbrev pub text_or_nil : Option AttrValue → Value
text_or_nil (Some (attr.Text text)) = Text text
text_or_nil _ = Nil

-- the name of the trace's root
abbrev pub root_name : List Row → Value
root_name rows = option_map_or (λ r. Text r.span.name) (root_of rows) Nil

-- the attribute in which the root's resource names its service
abbrev pub service_of : Option Row → Option AttrValue
service_of root = option_and_then (λ r. attr_named (codes "service.name") r.span.resource.attrs) root

-- what the root's resource calls its service, where that is a text
abbrev pub root_service : List Row → Value
root_service rows = text_or_nil (service_of (root_of rows))

abbrev pub intrinsic_of : Intrinsic → List Row → Span → Value
intrinsic_of intrinsic.Name rows s = Text s.name
intrinsic_of intrinsic.SpanName rows s = Text s.name
intrinsic_of intrinsic.Status rows s = Status s.status
intrinsic_of intrinsic.SpanStatus rows s = Status s.status
intrinsic_of intrinsic.StatusMessage rows s = Text s.message
intrinsic_of intrinsic.SpanStatusMessage rows s = Text s.message
intrinsic_of intrinsic.Kind rows s = Kind s.kind
intrinsic_of intrinsic.SpanKind rows s = Kind s.kind
intrinsic_of intrinsic.Duration rows s = nanoseconds (span_nanos s)
intrinsic_of intrinsic.SpanDuration rows s = nanoseconds (span_nanos s)
intrinsic_of intrinsic.SpanId rows s = Text (encode_lower s.id.0)
intrinsic_of intrinsic.TraceId rows s = Text (encode_lower s.trace.0)
intrinsic_of intrinsic.SpanParentId rows s = option_map_or (λ p. Text (encode_lower p.0)) s.parent Nil
intrinsic_of intrinsic.TraceDuration rows s = nanoseconds (trace_nanos rows)
intrinsic_of intrinsic.TraceColonDuration rows s = nanoseconds (trace_nanos rows)
intrinsic_of intrinsic.RootName rows s = root_name rows
intrinsic_of intrinsic.TraceRootName rows s = root_name rows
intrinsic_of intrinsic.RootServiceName rows s = root_service rows
intrinsic_of intrinsic.TraceRootService rows s = root_service rows
intrinsic_of intrinsic.InstrumentationName rows s = unless_empty s.scope.name
intrinsic_of intrinsic.InstrumentationVersion rows s = unless_empty s.scope.version

-- what a field is for a span in the trace of these rows
unfoldable pub field_of_span : Field → List Row → Span → Value
field_of_span (field.Attribute where_ name) rows s = attribute_of where_ name s
field_of_span (field.Intrinsic i) rows s = intrinsic_of i rows s
