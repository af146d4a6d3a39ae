-- A batch as contracts see it: its spans.
use Rattle.std.specs.Prelude.{List}
use Rattle.span_types.specs.declared.spans.Span.{Span}

pub record BatchParts : Type 0 where
  pub spans : List Span
