-- The JSON of a trace, as OTLP/JSON writes it, with each object's keys in ascending order.
use Rattle.std.specs.Prelude.{ℕ, List, [], ◌∷◌, map, codes, decimal, Option, Some, None}
use Rattle.std.specs.Fmt.{signed_decimal}
use Rattle.hex.specs.Hex.{encode_lower}
use Rattle.serde_json.specs.Data.{Data, Members, array, boolean, member, no_members, number, object, string, unsigned}
use Rattle.serde_json.specs.View.{items_of}
use Rattle.serde_json.specs.Written.{compact_text}
use Rattle.span_types.specs.declared.attrs.Attr.{Attr}
use Rattle.span_types.specs.declared.attrs.AttrValue.{AttrValue}
use Rattle.span_types.specs.declared.attrs.AttrValue.TheVariants.{Text, Whole, Truth}
use Rattle.span_types.specs.declared.attrs.Resource.{Resource}
use Rattle.span_types.specs.declared.attrs.Scope.{Scope}
use Rattle.span_types.specs.declared.ids.SpanId.{SpanId}
use Rattle.span_types.specs.declared.spans.Row.{Row}
use Rattle.span_types.specs.declared.spans.Span.{Span}
use Rattle.span_types.specs.declared.spans.SpanEvent.{SpanEvent}
use Rattle.span_types.specs.declared.spans.SpanLink.{SpanLink}
use Rattle.span_types.specs.declared.spans.StatusCode.{StatusCode}
use Rattle.span_types.specs.Numbers.{code_number, kind_number}
use Rattle.span_runs.specs.Runs.{of_one_resource, of_one_scope, runs}

-- The list of what f gives of each item.
abbrev pub list_json : {A : Type 0} → (A → Data) → List A → Data
list_json f xs = array (items_of (map f xs))

-- An attribute's value: a text, a whole number as a decimal text, or a truth.
unfoldable pub value_json : AttrValue → Data
value_json (Text text) = object (member (codes "stringValue") (string text) no_members)
value_json (Whole n) = object (member (codes "intValue") (string (signed_decimal n)) no_members)
value_json (Truth truth) = object (member (codes "boolValue") (boolean truth) no_members)

unfoldable pub attr_json : Attr → Data
attr_json a = object (
    member (codes "key") (string a.key) (
    member (codes "value") (value_json a.value) no_members))

unfoldable pub resource_json : Resource → Data
resource_json r = object (member (codes "attributes") (list_json attr_json r.attrs) no_members)

unfoldable pub scope_json : Scope → Data
scope_json s = object (
    member (codes "attributes") (list_json attr_json s.attrs) (
    member (codes "name") (string s.name) (
    member (codes "version") (string s.version) no_members)))

unfoldable pub status_json : StatusCode → List ℕ → Data
status_json code message = object (
    member (codes "code") (number (unsigned (code_number code))) (
    member (codes "message") (string message) no_members))

-- An id in lower-case hexadecimal digits, and the empty text where there is no parent.
abbrev pub parent_text : Option SpanId → List ℕ
parent_text None = []
parent_text (Some id) = encode_lower id.0

unfoldable pub event_json : SpanEvent → Data
event_json e = object (
    member (codes "attributes") (list_json attr_json e.attrs) (
    member (codes "name") (string e.name) (
    member (codes "timeUnixNano") (string (decimal e.time)) no_members)))

unfoldable pub link_json : SpanLink → Data
link_json l = object (
    member (codes "attributes") (list_json attr_json l.attrs) (
    member (codes "spanId") (string (encode_lower l.span.0)) (
    member (codes "traceId") (string (encode_lower l.trace.0)) no_members)))

-- A member that is a list, where the list has an item, before the others.
abbrev pub some_member : {A : Type 0} → List ℕ → (A → Data) → List A → Members → Members
some_member name f [] others = others
some_member name f (x ∷ xs) others = member name (list_json f (x ∷ xs)) others

-- A span. Its moments are decimal texts. It has events and links only where there are some.
unfoldable pub span_json : Span → Data
span_json s = object (
    member (codes "attributes") (list_json attr_json s.attrs) (
    member (codes "endTimeUnixNano") (string (decimal s.end)) (
    some_member (codes "events") event_json s.events (
    member (codes "kind") (number (unsigned (kind_number s.kind))) (
    some_member (codes "links") link_json s.links (
    member (codes "name") (string s.name) (
    member (codes "parentSpanId") (string (parent_text s.parent)) (
    member (codes "spanId") (string (encode_lower s.id.0)) (
    member (codes "startTimeUnixNano") (string (decimal s.start)) (
    member (codes "status") (status_json s.status s.message) (
    member (codes "traceId") (string (encode_lower s.trace.0)) no_members)))))))))))

-- A run of spans with equal scopes.
unfoldable pub scope_spans_json : Span × List Span → Data
scope_spans_json (first, more) = object (
    member (codes "scope") (scope_json first.scope) (
    member (codes "spans") (list_json span_json (first ∷ more)) no_members))

-- A run of spans with equal resources, as runs with equal scopes.
unfoldable pub resource_spans_json : Span × List Span → Data
resource_spans_json (first, more) = object (
    member (codes "resource") (resource_json first.resource) (
    member (codes "scopeSpans") (list_json scope_spans_json (runs of_one_scope (first ∷ more))) no_members))

-- A trace, as runs of spans with equal resources.
unfoldable pub trace_json : List Span → Data
trace_json spans = object (
    member (codes "resourceSpans") (list_json resource_spans_json (runs of_one_resource spans)) no_members)

-- The spans of rows.
abbrev pub spans_in : List Row → List Span
spans_in rows = map (λ row. row.span) rows

-- The text of a trace.
unfoldable pub trace_text : List Span → List ℕ
trace_text spans = compact_text (trace_json spans)
