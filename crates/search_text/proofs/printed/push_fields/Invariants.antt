use Rattle.std.proofs.Common.{◌≡◌, ◌++◌, map, take}
use Rattle.traceql_print.specs.Text.{field_text}
use Rattle.search_text.proofs.printed.push_fields.Given as goal

-- The fields so far stand after the others.
abbrev pub invariant-loop-field : goal.invariant-loop-field
invariant-loop-field l = l.texts.items ≡ l.initial.texts.items ++ map field_text (take l.field-index l.field-items)
