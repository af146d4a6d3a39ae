use Rattle.std.proofs.Common.{◌≡◌, map, take}
use Rattle.std.specs.List.{zip}
use Rattle.serde_json.specs.View.{view}
use Rattle.search_text.specs.Results.{field_json}
use Rattle.search_text.proofs.values.fields.Given as goal

-- Each pair so far has its JSON.
abbrev pub invariant-loop-i : goal.invariant-loop-i
invariant-loop-i l = map view l.values.items ≡ map field_json (take l.i (zip l.names l.found))
