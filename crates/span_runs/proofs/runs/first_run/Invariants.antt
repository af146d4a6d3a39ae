use Rattle.std.proofs.Common.{◌≡◌, ◌+◌, ◌-◌, ◌<◌, ◌≤◌, drop, length, map}
use Rattle.span_runs.specs.Runs.{of_one}
use Rattle.span_runs.proofs.FirstRun.{run_len}
use Rattle.span_runs.proofs.runs.first_run.Given as goal

-- The items so far are of the first run.
abbrev pub invariant-loop-n : goal.invariant-loop-n
invariant-loop-n g l =
    let same = of_one g.O.PartialEq.eq g.O.Origin.of in
    let span = g.H.HasSpan.span in
    (0 < l.n) × (l.n ≤ length l.items)
    × (run_len same (map span l.items) ≡ (l.n - 1) + run_len same (map span (drop (l.n - 1) l.items)))

abbrev pub decreases-loop-n : goal.decreases-loop-n
decreases-loop-n g l = length l.items - l.n
