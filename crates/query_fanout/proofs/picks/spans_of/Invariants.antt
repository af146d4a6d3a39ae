use Rattle.std.proofs.Common.{◌≡◌, map, take}
use Rattle.column_scan.specs.Candidates.{spans_of}
use Rattle.query_fanout.proofs.picks.spans_of.Given as goal

abbrev pub invariant-loop-row : goal.invariant-loop-row
invariant-loop-row l = map (λ s. s.now) l.spans.items ≡ spans_of (take l.row-index l.rows)
