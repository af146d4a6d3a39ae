use Rattle.std.proofs.Common.{◌≡◌, map, take}
use Rattle.serde_json.specs.View.{view}
use Rattle.search_text.specs.Series.{series_json}
use Rattle.search_text.proofs.series.all_series.Given as goal

-- Each series so far has its JSON.
abbrev pub invariant-loop-one : goal.invariant-loop-one
invariant-loop-one l = map view l.list.items ≡ map series_json (take l.one-index l.series)
