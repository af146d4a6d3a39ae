-- No attribute so far has this name.
use Rattle.std.proofs.Common.{◌≡◌, drop}
use Rattle.traceql_value.specs.Spans.{attr_named}
use Rattle.traceql_value.proofs.fields.attr_named.Given as goal

abbrev pub invariant-loop-attr : goal.invariant-loop-attr
invariant-loop-attr l = attr_named l.name (drop l.attr-index l.attrs) ≡ attr_named l.name l.attrs
