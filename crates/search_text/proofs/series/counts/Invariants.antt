use Rattle.std.proofs.Common.{◌≡◌, map, take}
use Rattle.serde_json.specs.View.{view}
use Rattle.search_text.specs.Series.{count_json}
use Rattle.search_text.proofs.series.counts.Given as goal

-- Each count so far has its JSON.
abbrev pub invariant-loop-item : goal.invariant-loop-item
invariant-loop-item l = map view l.values.items ≡ map count_json (take l.item-index l.list)
