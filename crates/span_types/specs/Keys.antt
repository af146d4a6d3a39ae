-- What makes two spans the same span, and where a row came in.
use Rattle.span_types.specs.declared.ids.Key.{Key}
use Rattle.span_types.specs.declared.spans.Span.{Span}
use Rattle.span_types.specs.declared.spans.Row.{Row}

-- The key of a span: the ids of its trace and of itself.
abbrev pub span_key : Span → Key
span_key s = record { trace = s.trace; span = s.id }

-- The key of a row: that of its span.
abbrev pub row_key : Row → Key
row_key r = span_key r.span
