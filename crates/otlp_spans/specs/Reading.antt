-- What spans a line of OTLP/JSON has. Each level of the request is a function of its JSON value, for values of any form:
-- a part of the wrong form is read as absent, and the line is then refused.
use Rattle.std.specs.Prelude.{ℕ, ◌+◌, ◌-◌, ◌^◌, min, All, List, [], length, nat_le, if◌then◌else◌, Option, Some, None, Result, Ok, Err}
use Rattle.std.specs.List.{filter_map, flat_map}
use Rattle.std.specs.Option.{option_map_or}
use Rattle.serde_json.specs.Data.{Data}
use Rattle.serde_json.specs.Find.{as_str}
use Rattle.span_types.specs.declared.attrs.Attr.{Attr}
use Rattle.span_types.specs.declared.attrs.Resource.{Resource}
use Rattle.span_types.specs.declared.attrs.Scope.{Scope}
use Rattle.span_types.specs.declared.ids.SpanId.{SpanId}
use Rattle.span_types.specs.declared.ids.TraceId.{TraceId}
use Rattle.span_types.specs.declared.limits.TheConstants.{MOST_SPANS}
use Rattle.span_types.specs.declared.spans.Span.{Span}
use Rattle.span_types.specs.declared.spans.SpanEvent.{SpanEvent}
use Rattle.span_types.specs.declared.spans.SpanKind.{SpanKind}
use Rattle.span_types.specs.declared.spans.SpanKind.TheVariants.{Unspecified}
use Rattle.span_types.specs.declared.spans.SpanLink.{SpanLink}
use Rattle.span_types.specs.declared.spans.StatusCode.{StatusCode}
use Rattle.span_types.specs.declared.spans.StatusCode.TheVariants.{Unset}
use Rattle.span_types.specs.Promises.{AreDistinct, AreNames}
use Rattle.otlp_spans.specs.declared.ids.SpanIds.{SpanIds}
use Rattle.otlp_spans.specs.declared.paths.Member.TheVariants as m
use Rattle.otlp_spans.specs.declared.paths.Step.{Step}
use Rattle.otlp_spans.specs.Attributes.{attrs_in, list_in, skipped_attrs, skipped_by, text_in}
use Rattle.otlp_spans.specs.Fields.{code_of, kind_of, parent_of, span_id_of, trace_id_of, whole_of}
use Rattle.otlp_spans.specs.Forms.{first_wrong, found, request_form}
use Rattle.otlp_spans.specs.Json.{◌>>=◌, json_of, total}

-- ---- events and links

-- The ids that members are, where they are there and valid.
abbrev pub trace_in : Data → Option TraceId
trace_in d = found m.TraceId d >>= as_str >>= trace_id_of

abbrev pub span_in : Data → Option SpanId
span_in d = found m.SpanId d >>= as_str >>= span_id_of

-- An event's moment: 0 where it is absent.
abbrev pub event_time : Data → Option ℕ
event_time d = option_map_or whole_of (found m.TimeUnixNano d) (Some 0)

-- An event that is kept.
unfoldable pub event_of : Data → Option SpanEvent
event_of d = do
  time ← event_time d
  Some (record { time = time; name = text_in m.Name d; attrs = attrs_in d })

-- A link that is kept.
unfoldable pub link_of : Data → Option SpanLink
link_of d = do
  trace ← trace_in d
  span ← span_in d
  Some (record { trace = trace; span = span; attrs = attrs_in d })

-- Those of a span.
abbrev pub events_in : Data → List SpanEvent
events_in d = filter_map event_of (list_in m.Events d)

abbrev pub links_in : Data → List SpanLink
links_in d = filter_map link_of (list_in m.Links d)

-- What is skipped of a span's attributes, events and links.
unfoldable pub skipped_in : Data → ℕ
skipped_in d =
    skipped_attrs d
    + (total (skipped_by event_of skipped_attrs) (list_in m.Events d) + total (skipped_by link_of skipped_attrs) (list_in m.Links d))

-- ---- a span

-- The parent: none where the member is absent.
abbrev pub parent_from : Option Data → Option (Option SpanId)
parent_from None = Some None
parent_from (Some d) = as_str d >>= parent_of

-- The ids and times of a span that is accepted. It is rejected where one of these five is wrong.
unfoldable pub ids_of : Data → Option SpanIds
ids_of d = do
  trace ← trace_in d
  id ← span_in d
  parent ← parent_from (found m.ParentSpanId d)
  start ← found m.StartTime d >>= whole_of
  end ← found m.EndTime d >>= whole_of
  Some (record { trace = trace; id = id; parent = parent; start = start; end = end })

-- The kind, unspecified where it is absent.
abbrev pub kind_in : Data → SpanKind
kind_in d = option_map_or kind_of (found m.Kind d) Unspecified

-- The status' code and message: unset and empty where they are absent.
abbrev pub status_code_in : Data → StatusCode
status_code_in d = option_map_or code_of (found m.Status d >>= found m.Code) Unset

abbrev pub status_message_in : Data → List ℕ
status_message_in d = option_map_or (text_in m.Message) (found m.Status d) []

-- The span that has these ids and times.
unfoldable pub span_with : Resource → Scope → Data → SpanIds → Span
span_with resource scope d ids = record {
  trace = ids.trace;
  id = ids.id;
  parent = ids.parent;
  name = text_in m.Name d;
  kind = kind_in d;
  start = ids.start;
  end = ids.end;
  status = status_code_in d;
  message = status_message_in d;
  attrs = attrs_in d;
  resource = resource;
  scope = scope;
  events = events_in d;
  links = links_in d;
}

-- The span that an object is, where it isn't rejected.
abbrev pub span_of : Resource → Scope → Data → Option Span
span_of resource scope d = do
  ids ← ids_of d
  Some (span_with resource scope d ids)

-- What is skipped of a span that isn't rejected. Of a rejected span nothing counts.
abbrev pub skipped_of_span : Data → ℕ
skipped_of_span d = option_map_or (λ ids. skipped_in d) (ids_of d) 0

-- ---- a member of `scopeSpans`

-- The attributes of an object that may be absent, and how many of them are skipped.
abbrev pub attrs_from : Option Data → List Attr
attrs_from o = option_map_or attrs_in o []

abbrev pub skipped_from : Option Data → ℕ
skipped_from o = option_map_or skipped_attrs o 0

abbrev pub scope_from : Option Data → Scope
scope_from o = record { name = option_map_or (text_in m.Name) o []; version = option_map_or (text_in m.Version) o []; attrs = attrs_from o }

-- Its spans, in order.
unfoldable pub scope_spans : Resource → Data → List Span
scope_spans resource d = filter_map (span_of resource (scope_from (found m.Scope d))) (list_in m.Spans d)

-- What is skipped in it.
unfoldable pub skipped_of_scope : Data → ℕ
skipped_of_scope d = skipped_from (found m.Scope d) + total skipped_of_span (list_in m.Spans d)

-- ---- a member of `resourceSpans`

abbrev pub resource_from : Option Data → Resource
resource_from o = record { attrs = attrs_from o }

unfoldable pub resource_spans : Data → List Span
resource_spans d = flat_map (scope_spans (resource_from (found m.Resource d))) (list_in m.ScopeSpans d)

unfoldable pub skipped_of_resource : Data → ℕ
skipped_of_resource d = skipped_from (found m.Resource d) + total skipped_of_scope (list_in m.ScopeSpans d)

-- How many span objects it has.
abbrev pub objects_of_scope : Data → ℕ
objects_of_scope d = length (list_in m.Spans d)

unfoldable pub objects_of_resource : Data → ℕ
objects_of_resource d = total objects_of_scope (list_in m.ScopeSpans d)

-- ---- a line

-- The spans of a line's value that aren't rejected, in their order.
unfoldable pub spans_of : Data → List Span
spans_of d = flat_map resource_spans (list_in m.ResourceSpans d)

-- How many span objects it has, those that are rejected among them.
unfoldable pub objects_of : Data → ℕ
objects_of d = total objects_of_resource (list_in m.ResourceSpans d)

-- How much is skipped in it.
unfoldable pub skipped_of : Data → ℕ
skipped_of d = total skipped_of_resource (list_in m.ResourceSpans d)

-- The last values of the counts' types, at which they saturate.
abbrev pub last32 : ℕ
last32 = 2 ^ 32 - 1

abbrev pub last64 : ℕ
last64 = 2 ^ 64 - 1

-- What a line gives: its spans, how many span objects were rejected, and how much was skipped.
pub record Given : Type 0 where
  pub spans : List Span
  pub rejected : ℕ
  pub skipped : ℕ

-- Why a line gives nothing.
pub data Refusal : Type 0 where
  NoJson : Refusal
  WrongForm : (path : List Step) → Refusal
  TooManySpans : (spans : ℕ) → Refusal

-- A value whose forms are right.
abbrev pub counted : Data → Result Given Refusal
counted d =
    if nat_le (objects_of d) MOST_SPANS
    then Ok (record { spans = spans_of d; rejected = objects_of d - length (spans_of d); skipped = min (skipped_of d) last32 })
    else Err (TooManySpans (min (objects_of d) last64))

abbrev pub unless_wrong : Option (List Step) → Result Given Refusal → Result Given Refusal
unless_wrong None given = given
unless_wrong (Some path) given = Err (WrongForm path)

abbrev pub given_by : Option Data → Result Given Refusal
given_by None = Err NoJson
given_by (Some d) = unless_wrong (first_wrong request_form d) (counted d)

-- What a line gives, or why it gives nothing: it is no JSON, a part has the wrong form, or there are too many spans.
unfoldable pub reading_of : List ℕ → Result Given Refusal
reading_of line = given_by (json_of line)

-- What every link that is kept has: no id of zeros alone, and each key of its attributes once.
pub record IsReadableLink (l : SpanLink) : Type 0 where
  pub names : AreNames l.trace l.span None
  pub attrs : AreDistinct l.attrs

-- What every span that a line gives has: no id of zeros alone, and each key of a list of attributes once.
pub record IsReadable (s : Span) : Type 0 where
  pub names : AreNames s.trace s.id s.parent
  pub attrs : AreDistinct s.attrs
  pub events : All (λ e. AreDistinct e.attrs) s.events
  pub links : All IsReadableLink s.links
  pub of_resource : AreDistinct s.resource.attrs
  pub of_scope : AreDistinct s.scope.attrs
