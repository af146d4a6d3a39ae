-- So far the rows that were gone over are parted.
use Rattle.std.proofs.Common.{◌≡◌, ◌-◌, length, take, drop}
use Rattle.live_traces.specs.Rows.{run_rows}
use Rattle.live_traces.proofs.live.split_runs.Given as goal

abbrev pub invariant-loop-run : goal.invariant-loop-run
invariant-loop-run l = record {
  front : run_rows l.front.items ≡ take l.most (run_rows (take l.run-index l.runs));
  back : run_rows l.back.items ≡ drop l.most (run_rows (take l.run-index l.runs));
  left : l.left ≡ l.most - length (run_rows (take l.run-index l.runs));
}
