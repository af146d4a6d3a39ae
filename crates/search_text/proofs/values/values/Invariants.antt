use Rattle.std.proofs.Common.{◌≡◌, map, take}
use Rattle.serde_json.specs.View.{view}
use Rattle.search_text.specs.Results.{value_json}
use Rattle.search_text.proofs.values.values.Given as goal

-- Each value so far has its JSON.
abbrev pub invariant-loop-item : goal.invariant-loop-item
invariant-loop-item l = map view l.values.items ≡ map value_json (take l.item-index l.list)
