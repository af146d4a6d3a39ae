use Rattle.std.proofs.Common.{◌≡◌, map, take}
use Rattle.serde_json.specs.View.{view}
use Rattle.search_text.specs.Results.{result_json}
use Rattle.search_text.proofs.results.traces.Given as goal

-- Each trace so far has its JSON.
abbrev pub invariant-loop-found : goal.invariant-loop-found
invariant-loop-found l = map view l.list.items ≡ map (result_json l.fields) (take l.found-index l.results)
