use Rattle.std.proofs.Common.{◌≡◌, All, map, take}
use Rattle.serde_json.specs.View.{view}
use Rattle.otlp_spans.proofs.values.list.Given as goal

-- each item so far has its value
abbrev pub invariant-loop-item : goal.invariant-loop-item
invariant-loop-item g l = (map view l.values.items ≡ map g.T.ToJson.json (take l.item-index l.items)) × All g.T.ToJson.Fits (take l.item-index l.items)
