use Rattle.std.proofs.Common.{◌≡◌, map, take}
use Rattle.serde_json.specs.View.{view}
use Rattle.search_text.specs.Results.{hit_json}
use Rattle.search_text.proofs.results.hits.Given as goal

-- Each span so far has its JSON.
abbrev pub invariant-loop-span : goal.invariant-loop-span
invariant-loop-span l = map view l.list.items ≡ map (hit_json l.fields) (take l.span-index l.spans)
