use Rattle.std.proofs.Common.{◌≡◌, ◌++◌, ◌+◌, length, map, min}
use Rattle.std.specs.List.{flat_map}
use Rattle.serde_json.specs.View.{view}
use Rattle.otlp_spans.specs.Forms.{first_in_items, first_wrong}
use Rattle.otlp_spans.specs.Json.{total}
use Rattle.otlp_spans.specs.Reading.{last64}
use Rattle.otlp_spans.proofs.gathering.read_all.Given as goal

-- what was gathered with what is of the rest; so far nothing was wrong
abbrev pub invariant-loop-value : goal.invariant-loop-value
invariant-loop-value g l =
    let t = g.L.Level in
    let rest = l.value-iterator.rest.items in
    (l.fn.gathered.spans.items ++ flat_map (t.spans_of l.level) (map view l.fn.values.items) ≡ l.gathered.spans.items ++ flat_map (t.spans_of l.level) (map view rest))
    × (min (l.fn.gathered.skipped + total t.skipped_of (map view l.fn.values.items)) last64 ≡ min (l.gathered.skipped + total t.skipped_of (map view rest)) last64)
    × (min (l.fn.gathered.objects + total t.objects_of (map view l.fn.values.items)) last64 ≡ min (l.gathered.objects + total t.objects_of (map view rest)) last64)
    × (first_in_items (first_wrong t.form) 0 (map view l.fn.values.items) ≡ first_in_items (first_wrong t.form) l.i (map view rest))
    × (length l.fn.values.items ≡ l.i + length rest)
