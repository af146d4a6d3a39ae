use Rattle.std.proofs.Common.{◌≡◌, ◌-◌, List, ◌++◌, ◌∙◌, ap, sym, arith, length, take, drop}
use Rattle.span_types.specs.declared.spans.Row.{Row}
use Rattle.live_traces.specs.Rows.{run_rows}
use Rattle.live_traces.proofs.LiveRows.{both_lengths}
use Rattle.live_traces.proofs.Kept.{rotated}
use Rattle.live_traces.proofs.live.Live.end_flush.Goals as goal

pub invariant_of-self : goal.invariant_of-self
invariant_of-self c =
    let kept : List (List Row) = c.self.inside.kept.items in
    let rest : c.truncate.new.self.items ≡ drop c.self.inside.flushing kept =
    c.truncate.ensures.items ∙ ap (take (c.len.result - c.replace-flushed.result)) c.rotate_left.ensures.items
    ∙ ap (λ f. take (c.len.result - f) (drop f kept ++ take f kept)) c.replace-flushed.ensures.value
    ∙ rotated c.self.inside.flushing (c.len.result - c.self.inside.flushing) kept (omega (arith, c.len.ensures)) in
    let rows : length (run_rows c.truncate.new.self.items) ≡ length (run_rows (drop c.self.inside.flushing kept)) = ap (λ runs. length (run_rows runs)) rest in
    record {
      within = omega (arith, c.replace-flushed.ensures.after);
      counted = c.self.invariant.counted;
      every = omega (arith, rows, both_lengths c.self.inside.flushing kept, c.self.invariant.every, c.self.invariant.taken, c.replace-rows.ensures.value);
      taken = c.replace-rows.ensures.after ∙ ap (λ n. length (run_rows (take n c.truncate.new.self.items))) (sym c.replace-flushed.ensures.after);
      fits = omega (arith, c.self.invariant.fits);
    }
