use Rattle.std.proofs.Common.{◌≡◌, ◌-◌, ◌≤◌, length, take, drop, ap, ◌∙◌}
use Rattle.io_edges.proofs.Buffers.{drop-pending}
use Rattle.io_edges.proofs.block.Block.pass.Goals as goal

pub returns-clause-pending : goal.returns-clause-pending
returns-clause-pending c =
    let b = c.self.inside in
    let seen : take (b.to - b.from) (drop b.from b.bytes.items) ≡ c.args.self.now.pending = ap (λ v. v.pending) c.self.view_is in
    let within : c.args.count ≤ length (take (b.to - b.from) (drop b.from b.bytes.items)) = rw seen c.requires in
    drop-pending b.bytes.items b.from b.to c.args.count within ∙ ap (drop c.args.count) seen
