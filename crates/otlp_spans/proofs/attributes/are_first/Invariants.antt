use Rattle.std.proofs.Common.{◌≡◌, ◌++◌, [], take, drop}
use Rattle.otlp_spans.specs.Keys.{HasKeysOf, are_first}
use Rattle.otlp_spans.proofs.attributes.are_first.Given as goal

-- the marks so far and those of the rest; the set has the keys so far
abbrev pub invariant-loop-attr : goal.invariant-loop-attr
invariant-loop-attr l =
    (are_first [] l.attrs ≡ l.marks.items ++ are_first (take l.attr-index l.attrs) (drop l.attr-index l.attrs)) × HasKeysOf l.keys (take l.attr-index l.attrs)
