use Rattle.std.proofs.Common.{◌≡◌, take}
use Rattle.query_fanout.specs.Taking.{open_picks, traces_of}
use Rattle.query_fanout.proofs.taking.open_traces.Given as goal

abbrev pub invariant-loop-pick : goal.invariant-loop-pick
invariant-loop-pick l = l.ids.items ≡ traces_of (open_picks l.best (take l.pick-index l.few))
