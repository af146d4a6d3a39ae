use Rattle.std.proofs.Common.{◌≡◌, ◌++◌, ◌+◌, length, map, min}
use Rattle.std.specs.List.{filter_map}
use Rattle.serde_json.specs.View.{view}
use Rattle.otlp_spans.specs.Attributes.{skipped_by}
use Rattle.otlp_spans.specs.Forms.{first_in_items, first_wrong}
use Rattle.otlp_spans.specs.Json.{total}
use Rattle.otlp_spans.specs.Reading.{last64}
use Rattle.otlp_spans.proofs.lists.kept_of.Given as goal

-- what was kept and skipped, and what is of the rest; so far nothing was wrong
abbrev pub invariant-loop-value : goal.invariant-loop-value
invariant-loop-value g l =
    let t = g.T.ListItem in
    let rest = l.value-iterator.rest.items in
    (filter_map t.of (map view l.fn.values.items) ≡ l.items.items ++ filter_map t.of (map view rest))
    × (min (total (skipped_by t.of t.inside) (map view l.fn.values.items)) last64 ≡ min (l.skipped + total (skipped_by t.of t.inside) (map view rest)) last64)
    × (first_in_items (first_wrong t.form) 0 (map view l.fn.values.items) ≡ first_in_items (first_wrong t.form) l.i (map view rest))
    × (length l.fn.values.items ≡ l.i + length rest)
