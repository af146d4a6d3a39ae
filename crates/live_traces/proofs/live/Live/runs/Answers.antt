use Rattle.std.proofs.Common.{◌≡◌, ◌++◌, ◌∙◌, ap, sym, append_assoc}
use Rattle.store_model.specs.State.{live_rows}
use Rattle.live_traces.specs.Rows.{push_rows, run_rows}
use Rattle.live_traces.specs.Parts.{LiveParts, arrivals_of, live_of}
use Rattle.live_traces.proofs.LiveRows.{both_runs, live_rows-append}
use Rattle.live_traces.proofs.live.Live.runs.Goals as goal

pub returns : goal.returns
returns c =
    let kept : run_rows c.in_ok-runs.runs.items ≡ run_rows c.self.inside.kept.items = ap run_rows (c.in_ok-runs.ensures ∙ c.as_slice.ensures.value) in
    let rests : run_rows c.in_ok-rests.rests.items ≡ live_rows (live_of c.self.inside.entries.items) =
    c.in_ok-rests.ensures ∙ ap (λ es. live_rows (live_of es)) c.as_slice-2.ensures.value in
    let both : run_rows c.in_ok-runs.runs.items ++ run_rows c.in_ok-rests.rests.items ≡ run_rows c.self.inside.kept.items ++ live_rows (live_of c.self.inside.entries.items) =
    ap (λ q. q ++ run_rows c.in_ok-rests.rests.items) kept ∙ ap (λ q. run_rows c.self.inside.kept.items ++ q) rests in
    let pushes : push_rows c.in_ok-pushes.pushes.items ≡ live_rows (arrivals_of c.self.inside.arrivals.items) =
    c.in_ok-pushes.ensures ∙ ap (λ xs. live_rows (arrivals_of xs)) c.as_slice-3.ensures.value in
    c.of.ensures ∙ ap (λ q. q ++ push_rows c.in_ok-pushes.pushes.items) both
    ∙ ap (λ q. (run_rows c.self.inside.kept.items ++ live_rows (live_of c.self.inside.entries.items)) ++ q) pushes
    ∙ append_assoc (run_rows c.self.inside.kept.items) (live_rows (live_of c.self.inside.entries.items)) (live_rows (arrivals_of c.self.inside.arrivals.items))
    ∙ ap (λ q. run_rows c.self.inside.kept.items ++ q) (sym (live_rows-append (live_of c.self.inside.entries.items) (arrivals_of c.self.inside.arrivals.items)))
    ∙ ap (λ q. q ++ live_rows (live_of c.self.inside.entries.items ++ arrivals_of c.self.inside.arrivals.items)) (sym (both_runs c.self.inside.flushing c.self.inside.kept.items))
    ∙ ap (λ (v : LiveParts). v.flushing ++ v.head ++ live_rows v.live) c.self.view_is
