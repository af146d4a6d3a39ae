use Rattle.std.proofs.Common.{◌≡◌, ◌+◌, ◌≤◌, length}
use Rattle.span_runs.specs.Runs.{of_one, runs}
use Rattle.head_log.proofs.groups.count_runs.Given as goal

abbrev pub invariant-loop-rest : goal.invariant-loop-rest
invariant-loop-rest g l =
    let same = of_one g.G.PartialEq.eq g.G.Origin.of in
    (length (runs same l.spans) ≡ l.count + length (runs same l.rest)) × (l.count + length l.rest ≤ length l.spans)

abbrev pub decreases-loop-rest : goal.decreases-loop-rest
decreases-loop-rest g l = length l.rest
