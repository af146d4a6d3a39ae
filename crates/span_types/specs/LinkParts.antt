-- A link as contracts see it: its parts.
use Rattle.std.specs.Prelude.{List}
use Rattle.span_types.specs.declared.attrs.Attr.{Attr}
use Rattle.span_types.specs.declared.ids.SpanId.{SpanId}
use Rattle.span_types.specs.declared.ids.TraceId.{TraceId}

pub record LinkParts : Type 0 where
  pub trace : TraceId
  pub span : SpanId
  pub attrs : List Attr
