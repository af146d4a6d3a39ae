-- What is written for a resource, a scope, an event, a link and a span reads back, nothing of it is skipped, and no part of it has a
-- wrong form.
use Rattle.std.proofs.Common.{◌≡◌, List, [], ◌∷◌, map, Some, None, decimal, refl, ◌∙◌}
use Rattle.std.proofs.lemmas.List.Elements.{recursion_from_All}
use Rattle.hex.specs.Hex.{encode_lower}
use Rattle.serde_json.specs.Data.{Data, number, string, unsigned}
use Rattle.span_types.specs.declared.attrs.Resource.{Resource}
use Rattle.span_types.specs.declared.attrs.Scope.{Scope}
use Rattle.span_types.specs.declared.spans.Span.{Span}
use Rattle.span_types.specs.declared.spans.SpanEvent.{SpanEvent}
use Rattle.span_types.specs.declared.spans.SpanLink.{SpanLink}
use Rattle.span_types.specs.Numbers.{kind_number}
use Rattle.otlp_spans.specs.declared.paths.Member.TheVariants as m
use Rattle.otlp_spans.specs.Attributes.{list_in, skipped_attrs, skipped_by}
use Rattle.otlp_spans.specs.Fits.{AreFit, FitsEvent, FitsLink, FitsSpan}
use Rattle.otlp_spans.specs.Forms.{event_form, first_wrong, found, link_form, resource_form, scope_form, span_form}
use Rattle.otlp_spans.specs.Reading.{event_of, events_in, ids_of, link_of, links_in, resource_from, scope_from, skipped_from, skipped_in, skipped_of_span, span_of, span_with}
use Rattle.otlp_spans.specs.Writing.{attr_json, event_json, link_json, list_json, parent_text, resource_json, scope_json, span_json, status_json}
use Rattle.otlp_spans.proofs.JsonLemmas.{items_in-items_of}
use Rattle.otlp_spans.proofs.ReadsBackAttributes.{attrs_back, attrs_right, no_attr_skipped}
use Rattle.otlp_spans.proofs.ReadsBackFields.{code_back, kind_back, parent_back, span_id_back, trace_id_back, whole_back}
use Rattle.otlp_spans.proofs.ReadsBackLists.{each, kept_back, list_right, skipped_inside, total_none}

-- ---- resources and scopes

pub resource_back : (r : Resource) → AreFit r.attrs → resource_from (Some (resource_json r)) ≡ r
unfolding resource_json
resource_back r fit = rw (attrs_back (resource_json r) r.attrs (items_in-items_of (map attr_json r.attrs)) fit) refl

pub resource_skips : (r : Resource) → AreFit r.attrs → skipped_from (Some (resource_json r)) ≡ 0
unfolding resource_json
resource_skips r fit = no_attr_skipped (resource_json r) r.attrs (items_in-items_of (map attr_json r.attrs)) fit

pub resource_right : (r : Resource) → first_wrong resource_form (resource_json r) ≡ None
unfolding resource_json
resource_right r = rw (attrs_right r.attrs) refl

pub scope_back : (s : Scope) → AreFit s.attrs → scope_from (Some (scope_json s)) ≡ s
unfolding scope_json
scope_back s fit = rw (attrs_back (scope_json s) s.attrs (items_in-items_of (map attr_json s.attrs)) fit) refl

pub scope_skips : (s : Scope) → AreFit s.attrs → skipped_from (Some (scope_json s)) ≡ 0
unfolding scope_json
scope_skips s fit = no_attr_skipped (scope_json s) s.attrs (items_in-items_of (map attr_json s.attrs)) fit

pub scope_right : (s : Scope) → first_wrong scope_form (scope_json s) ≡ None
unfolding scope_json
scope_right s = rw (attrs_right s.attrs) refl

-- ---- events and links

event_back : (e : SpanEvent) → FitsEvent e → event_of (event_json e) ≡ Some e
unfolding event_of event_json
event_back e fits =
    rw (whole_back e.time fits.time, attrs_back (event_json e) e.attrs (items_in-items_of (map attr_json e.attrs)) fits.attrs) refl

event_skips : (e : SpanEvent) → FitsEvent e → skipped_by event_of skipped_attrs (event_json e) ≡ 0
unfolding event_json
event_skips e fits =
    skipped_inside event_of skipped_attrs (event_json e) e (event_back e fits)
    ∙ no_attr_skipped (event_json e) e.attrs (items_in-items_of (map attr_json e.attrs)) fits.attrs

event_right : (e : SpanEvent) → first_wrong event_form (event_json e) ≡ None
unfolding event_json
event_right e = rw (attrs_right e.attrs) refl

link_back : (l : SpanLink) → FitsLink l → link_of (link_json l) ≡ Some l
unfolding link_of link_json
link_back l fits =
    rw (trace_id_back l.trace fits.trace fits.names.of_trace, span_id_back l.span fits.span fits.names.of_span)
    (rw (attrs_back (link_json l) l.attrs (items_in-items_of (map attr_json l.attrs)) fits.attrs) refl)

link_skips : (l : SpanLink) → FitsLink l → skipped_by link_of skipped_attrs (link_json l) ≡ 0
unfolding link_json
link_skips l fits =
    skipped_inside link_of skipped_attrs (link_json l) l (link_back l fits)
    ∙ no_attr_skipped (link_json l) l.attrs (items_in-items_of (map attr_json l.attrs)) fits.attrs

link_right : (l : SpanLink) → first_wrong link_form (link_json l) ≡ None
unfolding link_json
link_right l = rw (attrs_right l.attrs) refl

-- ---- spans

-- the members that an object has are those of a span
record HasMembers (s : Span) (d : Data) : Type 0 where
  trace : found m.TraceId d ≡ Some (string (encode_lower s.trace.0))
  id : found m.SpanId d ≡ Some (string (encode_lower s.id.0))
  parent : found m.ParentSpanId d ≡ Some (string (parent_text s.parent))
  start : found m.StartTime d ≡ Some (string (decimal s.start))
  end : found m.EndTime d ≡ Some (string (decimal s.end))
  name : found m.Name d ≡ Some (string s.name)
  kind : found m.Kind d ≡ Some (number (unsigned (kind_number s.kind)))
  status : found m.Status d ≡ Some (status_json s.status s.message)
  attrs : found m.Attributes d ≡ Some (list_json attr_json s.attrs)
  events : list_in m.Events d ≡ map event_json s.events
  links : list_in m.Links d ≡ map link_json s.links

abbrev with_lists : Span → List SpanEvent → List SpanLink → Span
with_lists s events links = record s { events = events; links = links }

has_members : (s : Span) (events : List SpanEvent) (links : List SpanLink) → HasMembers (with_lists s events links) (span_json (with_lists s events links))
unfolding span_json status_json
has_members s [] [] = record { trace = refl; id = refl; parent = refl; start = refl; end = refl; name = refl; kind = refl; status = refl; attrs = refl; events = refl; links = refl }
has_members s [] (l ∷ ls) = record { trace = refl; id = refl; parent = refl; start = refl; end = refl; name = refl; kind = refl; status = refl; attrs = refl; events = refl; links = items_in-items_of (map link_json (l ∷ ls)) }
has_members s (e ∷ es) [] = record { trace = refl; id = refl; parent = refl; start = refl; end = refl; name = refl; kind = refl; status = refl; attrs = refl; events = items_in-items_of (map event_json (e ∷ es)); links = refl }
has_members s (e ∷ es) (l ∷ ls) = record { trace = refl; id = refl; parent = refl; start = refl; end = refl; name = refl; kind = refl; status = refl; attrs = refl; events = items_in-items_of (map event_json (e ∷ es)); links = items_in-items_of (map link_json (l ∷ ls)) }

members : (s : Span) → HasMembers s (span_json s)
members s = has_members s s.events s.links

attributes : (s : Span) → list_in m.Attributes (span_json s) ≡ map attr_json s.attrs
attributes s = rw ((members s).attrs) (items_in-items_of (map attr_json s.attrs))

ids_back : (s : Span) → FitsSpan s → ids_of (span_json s) ≡ Some (record { trace = s.trace; id = s.id; parent = s.parent; start = s.start; end = s.end })
unfolding ids_of
ids_back s fits =
    let has = members s in
    rw (has.trace, has.id, has.parent, has.start, has.end)
    (rw (trace_id_back s.trace fits.trace fits.names.of_trace, span_id_back s.id fits.id fits.names.of_span, parent_back s.parent fits.parent fits.names.of_parent, whole_back s.start fits.start, whole_back s.end fits.end) refl)

events_back : (s : Span) → FitsSpan s → events_in (span_json s) ≡ s.events
events_back s fits =
    rw ((members s).events) (kept_back event_of event_json s.events (each event_back s.events (recursion_from_All FitsEvent s.events fits.events)))

links_back : (s : Span) → FitsSpan s → links_in (span_json s) ≡ s.links
links_back s fits =
    rw ((members s).links) (kept_back link_of link_json s.links (each link_back s.links (recursion_from_All FitsLink s.links fits.links)))

pub span_back : (s : Span) → FitsSpan s → span_of s.resource s.scope (span_json s) ≡ Some s
unfolding span_with status_json
span_back s fits =
    let has = members s in
    rw (ids_back s fits)
    (rw (events_back s fits, links_back s fits, attrs_back (span_json s) s.attrs (attributes s) fits.attrs, has.name, has.kind, has.status)
    (rw (kind_back s.kind, code_back s.status) refl))

pub span_skips : (s : Span) → FitsSpan s → skipped_of_span (span_json s) ≡ 0
unfolding skipped_in
span_skips s fits =
    let has = members s in
    let events = total_none (skipped_by event_of skipped_attrs) event_json s.events (each event_skips s.events (recursion_from_All FitsEvent s.events fits.events)) in
    let links = total_none (skipped_by link_of skipped_attrs) link_json s.links (each link_skips s.links (recursion_from_All FitsLink s.links fits.links)) in
    rw (ids_back s fits) (rw (no_attr_skipped (span_json s) s.attrs (attributes s) fits.attrs, has.events, has.links, events, links) refl)

right_with : (s : Span) (events : List SpanEvent) (links : List SpanLink) → first_wrong span_form (span_json (with_lists s events links)) ≡ None
unfolding span_json status_json
right_with s [] [] = rw (attrs_right s.attrs) refl
right_with s [] (l ∷ ls) = rw (attrs_right s.attrs, list_right link_form link_json link_right (l ∷ ls)) refl
right_with s (e ∷ es) [] = rw (attrs_right s.attrs, list_right event_form event_json event_right (e ∷ es)) refl
right_with s (e ∷ es) (l ∷ ls) =
    rw (attrs_right s.attrs, list_right event_form event_json event_right (e ∷ es), list_right link_form link_json link_right (l ∷ ls)) refl

pub span_right : (s : Span) → first_wrong span_form (span_json s) ≡ None
span_right s = right_with s s.events s.links
