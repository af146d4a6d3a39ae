use Rattle.std.proofs.Common.{◌≡◌, map, take}
use Rattle.serde_json.specs.View.{view}
use Rattle.search_text.specs.Results.{set_json}
use Rattle.search_text.proofs.results.sets.Given as goal

-- Each spanset so far has its JSON.
abbrev pub invariant-loop-found : goal.invariant-loop-found
invariant-loop-found l = map view l.list.items ≡ map (set_json l.fields) (take l.found-index l.sets)
