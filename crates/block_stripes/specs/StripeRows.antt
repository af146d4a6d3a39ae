-- A row as its cells, one for each column of a stripe.
use Rattle.std.specs.Prelude.{ℕ, List, Option}
use Rattle.span_types.specs.declared.attrs.Attr.{Attr}
use Rattle.span_types.specs.declared.attrs.Resource.{Resource}
use Rattle.span_types.specs.declared.attrs.Scope.{Scope}
use Rattle.span_types.specs.declared.ids.SpanId.{SpanId}
use Rattle.span_types.specs.declared.ids.TraceId.{TraceId}
use Rattle.span_types.specs.declared.spans.Row.{Row}
use Rattle.span_types.specs.declared.spans.SpanEvent.{SpanEvent}
use Rattle.span_types.specs.declared.spans.SpanKind.{SpanKind}
use Rattle.span_types.specs.declared.spans.SpanLink.{SpanLink}
use Rattle.span_types.specs.declared.spans.StatusCode.{StatusCode}

-- trace, span, parent
abbrev pub IdCells : Type 0 → Type 0
IdCells More = TraceId × (SpanId × (Option SpanId × More))

-- push, position, name, kind
abbrev pub NameCells : Type 0 → Type 0
NameCells More = ℕ × (ℕ × (List ℕ × (SpanKind × More)))

-- start, end, status, message
abbrev pub TimeCells : Type 0 → Type 0
TimeCells More = ℕ × (ℕ × (StatusCode × (List ℕ × More)))

-- resource, scope, attributes, events, links
abbrev pub OwnerCells : Type 0
OwnerCells = Resource × (Scope × (List Attr × (List SpanEvent × List SpanLink)))

abbrev pub Cells : Type 0
Cells = IdCells (NameCells (TimeCells OwnerCells))

abbrev pub owner_cells : Row → OwnerCells
owner_cells row = (row.span.resource, (row.span.scope, (row.span.attrs, (row.span.events, row.span.links))))

abbrev pub time_cells : Row → TimeCells OwnerCells
time_cells row = (row.span.start, (row.span.«end», (row.span.status, (row.span.message, owner_cells row))))

abbrev pub name_cells : Row → NameCells (TimeCells OwnerCells)
name_cells row = (row.place.number, (row.place.position, (row.span.name, (row.span.kind, time_cells row))))

abbrev pub cells_of : Row → Cells
cells_of row = (row.span.trace, (row.span.id, (row.span.parent, name_cells row)))

abbrev pub row_of : Cells → Row
row_of (trace, (id, (parent, (number, (position, (name, (kind, (start, (ended, (status, (message, (resource, (scope, (attrs, (events, links))))))))))))))) = record {
  place = record { number = number; position = position };
  span = record {
    trace = trace;
    id = id;
    parent = parent;
    name = name;
    kind = kind;
    start = start;
    «end» = ended;
    status = status;
    message = message;
    attrs = attrs;
    resource = resource;
    scope = scope;
    events = events;
    links = links;
  };
}
