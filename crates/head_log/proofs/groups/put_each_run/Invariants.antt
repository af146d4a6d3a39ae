use Rattle.std.proofs.Common.{◌≡◌, ◌++◌, length}
use Rattle.std.specs.List.{flat_map}
use Rattle.span_runs.specs.Runs.{of_one, runs}
use Rattle.head_log.specs.Bodies.{run_bytes}
use Rattle.head_log.specs.Written.{AreSoundRuns}
use Rattle.head_log.proofs.groups.put_each_run.Given as goal

-- What is written stands before the runs that are left. All runs are sound where those are.
abbrev pub invariant-loop-rest : goal.invariant-loop-rest
invariant-loop-rest g l =
    let same = g.G.PartialEq.eq in
    let of = g.G.Origin.of in
    let bytes = run_bytes of g.G.Encode.encoding (g.G.Group.content_bytes l.extended) in
    let sound = AreSoundRuns same of g.G.Encode.promise (g.G.Group.content_promise l.extended) in
    (l.fn.out ++ flat_map bytes (runs (of_one same of) l.spans) ≡ l.out ++ flat_map bytes (runs (of_one same of) l.rest))
    × (sound l.rest → sound l.spans)

abbrev pub decreases-loop-rest : goal.decreases-loop-rest
decreases-loop-rest g l = length l.rest
