use Rattle.std.proofs.Common.{◌≡◌, ◌++◌, ◌∙◌, ap, sym, arith, length, append-nil, take, drop}
use Rattle.live_traces.specs.Rows.{push_rows, run_rows}
use Rattle.live_traces.specs.Parts.{LiveParts}
use Rattle.live_traces.proofs.Kept.{head_is, first_again, others_again}
use Rattle.live_traces.proofs.live.Live.take_head.Goals as goal

pub returns-clause-taken : goal.returns-clause-taken
returns-clause-taken c =
    let rows : c.of.result ≡ run_rows c.in_ok-front.front.items =
    c.of.ensures ∙ ap (λ pushes. (run_rows c.in_ok-runs.runs.items ++ run_rows c.new.result.items) ++ push_rows pushes) c.new-2.ensures.items
    ∙ append-nil (run_rows c.in_ok-runs.runs.items ++ run_rows c.new.result.items) ∙ ap (λ rests. run_rows c.in_ok-runs.runs.items ++ run_rows rests) c.new.ensures.items ∙ append-nil (run_rows c.in_ok-runs.runs.items)
    ∙ ap run_rows (c.in_ok-runs.ensures ∙ c.as_slice-2.ensures.value) in
    let front : run_rows c.in_ok-front.front.items ≡ take c.args.most (run_rows c.self.inside.kept.items) =
    c.in_ok-front.ensures.0 ∙ ap (λ runs. take c.args.most (run_rows runs)) c.as_slice.ensures.value in
    let back : run_rows c.in_ok-front.back.items ≡ drop c.args.most (run_rows c.self.inside.kept.items) =
    c.in_ok-front.ensures.1 ∙ ap (λ runs. drop c.args.most (run_rows runs)) c.as_slice.ensures.value in
    let head : run_rows c.self.inside.kept.items ≡ c.args.self.now.head =
    sym (head_is c.self.inside.flushing c.self.inside.kept.items (ap (λ (v : LiveParts). v.flushing) c.self.view_is ∙ c.requires)) ∙ ap (λ (v : LiveParts). v.head) c.self.view_is in
    let size : c.len-size.result ≡ length c.in_ok-front.front.items = omega (arith, c.len-size.ensures) in (
      rows ∙ front ∙ ap (take c.args.most) head,
      first_again c.in_ok-front.front.items c.in_ok-front.back.items c.in_ok-self-inside.field-0.items c.len-size.result size c.in_ok-self-inside.ensures ∙ sym rows,
      others_again c.in_ok-front.front.items c.in_ok-front.back.items c.in_ok-self-inside.field-0.items c.len-size.result size c.in_ok-self-inside.ensures ∙ back ∙ ap (drop c.args.most) head,
    )
