use Rattle.std.proofs.Common.{◌≡◌, ◌++◌, ◌∙◌, ap, sym, arith, length, length-append, append-nil, drop}
use Rattle.live_traces.specs.Rows.{run_rows}
use Rattle.live_traces.specs.Parts.{LiveParts, arrivals_of, goes, live_of}
use Rattle.live_traces.proofs.Groups.{cut_by_trace}
use Rattle.live_traces.proofs.Kept.{cut_counts, cut_moves, cut_stays, on_err}
use Rattle.live_traces.proofs.live.Live.cut.Goals as goal

pub add_run-requires : goal.add_run-requires
add_run-requires c = cut_by_trace c.in_order-moved.result.items c.in_order-moved.ensures.order

pub returns-in_err-add_run-clause-refused : goal.returns-in_err-add_run-clause-refused
returns-in_err-add_run-clause-refused c = on_err c.from_residual-in_err-add_run.result _ (
  ap (λ (v : LiveParts). v.live) c.self.view_is,
  ap (λ runs. run_rows (drop c.self.inside.flushing runs)) c.in_err-add_run.ensures.refused ∙ ap (λ (v : LiveParts). v.head) c.self.view_is,
)

pub overflow_sub-self : goal.overflow_sub-self
overflow_sub-self c =
    let counts = cut_counts (goes c.args.idle (live_of c.as_slice-entries.result.now ++ arrivals_of c.as_slice.result.now)) c.self.inside.entries.items c.as_slice-entries.result.now
    c.self.inside.arrivals.items c.as_slice.result.now (live_of c.in_ok-moved.stay.items) c.in_ok-moved.moved.items c.self.inside.count c.len-count.result
    c.as_slice-entries.ensures.value c.as_slice.ensures.value c.in_ok-moved.ensures.0 c.in_ok-moved.ensures.1 c.self.invariant.counted
    (omega (arith, c.in_order-moved.ensures.length, c.len-count.ensures)) in
    omega (arith, counts)

pub overflow_add-self : goal.overflow_add-self
overflow_add-self c =
    let counts = cut_counts (goes c.args.idle (live_of c.as_slice-entries.result.now ++ arrivals_of c.as_slice.result.now)) c.self.inside.entries.items c.as_slice-entries.result.now
    c.self.inside.arrivals.items c.as_slice.result.now (live_of c.in_ok-moved.stay.items) c.in_ok-moved.moved.items c.self.inside.count c.len-count.result
    c.as_slice-entries.ensures.value c.as_slice.ensures.value c.in_ok-moved.ensures.0 c.in_ok-moved.ensures.1 c.self.invariant.counted
    (omega (arith, c.in_order-moved.ensures.length, c.len-count.ensures)) in
    omega (arith, counts, c.self.invariant.fits)

pub invariant_of-self-2 : goal.invariant_of-self-2
invariant_of-self-2 c =
    let counts = cut_counts (goes c.args.idle (live_of c.as_slice-entries.result.now ++ arrivals_of c.as_slice.result.now)) c.self.inside.entries.items c.as_slice-entries.result.now
    c.self.inside.arrivals.items c.as_slice.result.now (live_of c.in_ok-moved.stay.items) c.in_ok-moved.moved.items c.self.inside.count c.len-count.result
    c.as_slice-entries.ensures.value c.as_slice.ensures.value c.in_ok-moved.ensures.0 c.in_ok-moved.ensures.1 c.self.invariant.counted
    (omega (arith, c.in_order-moved.ensures.length, c.len-count.ensures)) in
    let stays : length (live_of c.in_ok-moved.stay.items ++ arrivals_of c.truncate.new.self.items) ≡ length (live_of c.in_ok-moved.stay.items) =
    ap (λ xs. length (live_of c.in_ok-moved.stay.items ++ arrivals_of xs)) c.truncate.ensures.items ∙ ap length (append-nil (live_of c.in_ok-moved.stay.items)) in
    let rows : length (run_rows c.add_run.new.kept.items) ≡ length (run_rows c.self.inside.kept.items ++ c.in_order-moved.result.items) = ap length (c.in_ok-add_run.ensures.others 0 (omega arith)) in
    record {
      within = omega (arith, c.self.invariant.within, c.in_ok-add_run.ensures.longer);
      counted = omega (arith, counts, stays);
      every = omega (arith, rows, length-append (run_rows c.self.inside.kept.items) c.in_order-moved.result.items, c.self.invariant.every, c.len-count.ensures);
      taken = c.self.invariant.taken ∙ ap length (sym (c.in_ok-add_run.ensures.first c.self.inside.flushing c.self.invariant.within));
      fits = omega (arith, counts, c.self.invariant.fits);
    }

pub returns-clause-moved : goal.returns-clause-moved
returns-clause-moved c =
    let live : live_of c.self.inside.entries.items ++ arrivals_of c.self.inside.arrivals.items ≡ c.args.self.now.live = ap (λ (v : LiveParts). v.live) c.self.view_is in (
      c.in_order-moved.result.items,
      cut_moves c.args.idle c.args.self.now.live c.self.inside.entries.items c.as_slice-entries.result.now c.self.inside.arrivals.items c.as_slice.result.now c.in_ok-moved.moved.items
          c.in_order-moved.result.items c.as_slice-entries.ensures.value c.as_slice.ensures.value live c.in_ok-moved.ensures.0 c.in_order-moved.ensures.same c.in_order-moved.ensures.order,
      omega (arith, c.len-count.ensures),
      c.in_ok-add_run.ensures.others c.self.inside.flushing c.self.invariant.within ∙ ap (λ (v : LiveParts). v.head ++ c.in_order-moved.result.items) c.self.view_is,
      cut_stays c.args.idle c.args.self.now.live (live_of c.in_ok-moved.stay.items) c.self.inside.entries.items c.as_slice-entries.result.now c.self.inside.arrivals.items c.as_slice.result.now
          c.truncate.new.self.items c.as_slice-entries.ensures.value c.as_slice.ensures.value live c.in_ok-moved.ensures.1 c.truncate.ensures.items,
    )
