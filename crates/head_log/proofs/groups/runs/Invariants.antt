use Rattle.std.proofs.Common.{◌≡◌, ◌-◌, ltb, false}
use Rattle.head_log.specs.Scanning.{run_at, runs_at}
use Rattle.head_log.proofs.groups.runs.Given as goal

abbrev pub invariant-loop-index : goal.invariant-loop-index
invariant-loop-index g l =
    let read = run_at g.G.PartialEq.eq g.G.Origin.of (g.G.Decode.decoding l.part.within) (g.G.Group.content_at l.part l.around) in
    runs_at read (l.count - l.index) (ltb 0 l.index) l.spans.items l.reader ≡ runs_at read l.count false l.fn.spans.items l.fn.reader
