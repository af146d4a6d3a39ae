use Rattle.std.proofs.Common.{rules, ◌≡◌, ◌+◌, List, ◌∙◌, ◌++◌, ap, sym, arith, length, length-append, min, take, drop, slice_index_or}
use Rattle.span_types.specs.declared.spans.Row.{Row}
use Rattle.live_traces.specs.Rows.{run_rows}
use Rattle.live_traces.proofs.LiveRows.{run_rows-more, take_more_of}
use Rattle.live_traces.proofs.Ranges.{take_more_rows, drop_more_rows}
use Rattle.live_traces.proofs.live.split_runs.Goals as goal

pub loop-run-preserved : goal.loop-run-preserved
loop-run-preserved c =
    let here : slice_index_or c.args.runs.now c.loop-run.run-index c.run-item.result ≡ c.run-item.result = search rules in
    let before : List Row = run_rows (take c.loop-run.run-index c.args.runs.now) in
    let more : run_rows (take (c.loop-run.run-index + 1) c.args.runs.now) ≡ before ++ c.run-item.result =
    ap run_rows (take_more_of c.args.runs.now c.loop-run.run-index c.run-item.result (omega arith) here) ∙ run_rows-more (take c.loop-run.run-index c.args.runs.now) c.run-item.result in
    let size : c.min-size.result ≡ min (length c.run-item.result) c.loop-run.left = omega (arith, c.min-size.ensures, c.len.ensures) in
    record {
      front = c.in_ok-put_run.ensures ∙ ap (λ q. q ++ c.in_ok-first.first) c.loop-run.invariant.front ∙ ap (λ q. take c.args.most before ++ q) c.in_ok-first.ensures.0
          ∙ take_more_rows c.args.most c.loop-run.left c.min-size.result before c.run-item.result c.loop-run.invariant.left size ∙ ap (take c.args.most) (sym more);
      back = c.in_ok-put_run-2.ensures ∙ ap (λ q. q ++ c.in_ok-first.others) c.loop-run.invariant.back ∙ ap (λ q. drop c.args.most before ++ q) c.in_ok-first.ensures.1
          ∙ drop_more_rows c.args.most c.loop-run.left c.min-size.result before c.run-item.result c.loop-run.invariant.left size ∙ ap (drop c.args.most) (sym more);
      left = let rows : length (run_rows (take (c.loop-run.run-index + 1) c.args.runs.now)) ≡ length (before ++ c.run-item.result) = ap length more in
          omega (arith, rows, length-append before c.run-item.result, c.loop-run.invariant.left, size);
    }
