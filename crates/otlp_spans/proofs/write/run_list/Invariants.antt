use Rattle.std.proofs.Common.{◌≡◌, ◌++◌, All, length, map}
use Rattle.serde_json.specs.View.{view}
use Rattle.span_runs.specs.Runs.{of_one, runs}
use Rattle.otlp_spans.specs.Writing.{spans_in}
use Rattle.otlp_spans.proofs.write.run_list.Given as goal

-- The values so far stand before those of the runs that are left. All runs fit where those do.
abbrev pub invariant-loop-rest : goal.invariant-loop-rest
invariant-loop-rest g l =
    let same = of_one g.O.PartialEq.eq g.O.Origin.of in
    let t = g.O.RunJson in
    (map t.json (runs same (spans_in l.rows)) ≡ map view l.values.items ++ map t.json (runs same (spans_in l.rest)))
    × (All t.Fits (runs same (spans_in l.rest)) → All t.Fits (runs same (spans_in l.rows)))

abbrev pub decreases-loop-rest : goal.decreases-loop-rest
decreases-loop-rest g l = length l.rest
