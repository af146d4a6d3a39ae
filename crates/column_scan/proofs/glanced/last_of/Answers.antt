use Rattle.std.proofs.Common.{◌≡◌, ◌-◌, ℕ, length, get_or, ap, ◌∙◌, arith}
use Rattle.column_scan.proofs.Starts.{last_told}
use Rattle.column_scan.proofs.glanced.last_of.Goals as goal

pub returns : goal.returns
returns c = λ rows told.
    let traces = c.args.glance.now.traces.items in
    let size : c.len.result ≡ length traces = omega arith in
    last_told rows c.args.glance.now (length traces - 1) c.index.result.now told (omega arith) (c.index.ensures ∙ ap (λ (n : ℕ). get_or traces (n - 1) c.index.result.now) size)
