use Rattle.std.proofs.Common.{◌≡◌, ◌++◌, []}
use Rattle.otlp_spans.specs.Attributes.{firsts_behind}
use Rattle.otlp_spans.specs.Keys.{are_first}
use Rattle.otlp_spans.proofs.attributes.many_firsts.Given as goal

-- what was kept and what stays of the rest, and the marks of the rest
abbrev pub invariant-loop-attr : goal.invariant-loop-attr
invariant-loop-attr l =
    (firsts_behind [] l.fn.attrs.items ≡ l.kept.items ++ firsts_behind l.yielded l.attr-iterator.rest.items)
    × (l.marks.rest.items ≡ are_first l.yielded l.attr-iterator.rest.items)
