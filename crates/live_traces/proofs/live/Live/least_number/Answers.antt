use Rattle.std.proofs.Common.{◌≡◌, ◌++◌, ◌∙◌, ap, drop, None}
use Rattle.store_model.specs.State.{live_rows}
use Rattle.live_traces.specs.Rows.{run_rows}
use Rattle.live_traces.specs.Parts.{LiveParts, arrivals_of, least_number, least_with, live_of}
use Rattle.live_traces.proofs.Least.{least_parts}
use Rattle.live_traces.proofs.live.Live.least_number.Goals as goal

pub returns : goal.returns
returns c =
    let one : c.least_of_arrivals.result ≡ least_with c.least_of_entries-least.result (live_rows (arrivals_of c.self.inside.arrivals.items)) =
    c.least_of_arrivals.ensures ∙ ap (λ xs. least_with c.least_of_entries-least.result (live_rows (arrivals_of xs))) c.as_slice-3.ensures.value in
    let two : c.least_of_entries-least.result ≡ least_with c.least_of_runs-least.result (live_rows (live_of c.self.inside.entries.items)) =
    c.least_of_entries-least.ensures ∙ ap (λ xs. least_with c.least_of_runs-least.result (live_rows (live_of xs))) c.as_slice-2.ensures.value in
    let three : c.least_of_runs-least.result ≡ least_with None (run_rows (drop c.self.inside.flushing c.self.inside.kept.items)) = cc in
    one ∙ ap (λ o. least_with o (live_rows (arrivals_of c.self.inside.arrivals.items))) (two ∙ ap (λ o. least_with o (live_rows (live_of c.self.inside.entries.items))) three)
    ∙ least_parts (run_rows (drop c.self.inside.flushing c.self.inside.kept.items)) (live_of c.self.inside.entries.items) (arrivals_of c.self.inside.arrivals.items)
    ∙ ap (λ (v : LiveParts). least_number (v.head ++ live_rows v.live)) c.self.view_is
