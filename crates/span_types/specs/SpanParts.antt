-- A span as contracts see it: its parts.
use Rattle.std.specs.Prelude.{ℕ, List, Option}
use Rattle.span_types.specs.declared.attrs.Attr.{Attr}
use Rattle.span_types.specs.declared.attrs.Resource.{Resource}
use Rattle.span_types.specs.declared.attrs.Scope.{Scope}
use Rattle.span_types.specs.declared.ids.SpanId.{SpanId}
use Rattle.span_types.specs.declared.ids.TraceId.{TraceId}
use Rattle.span_types.specs.declared.spans.SpanEvent.{SpanEvent}
use Rattle.span_types.specs.declared.spans.SpanKind.{SpanKind}
use Rattle.span_types.specs.declared.spans.SpanLink.{SpanLink}
use Rattle.span_types.specs.declared.spans.StatusCode.{StatusCode}

pub record SpanParts : Type 0 where
  pub trace : TraceId
  pub id : SpanId
  pub parent : Option SpanId
  pub name : List ℕ
  pub kind : SpanKind
  pub start : ℕ
  pub «end» : ℕ
  pub status : StatusCode
  pub message : List ℕ
  pub attrs : List Attr
  pub resource : Resource
  pub scope : Scope
  pub events : List SpanEvent
  pub links : List SpanLink
