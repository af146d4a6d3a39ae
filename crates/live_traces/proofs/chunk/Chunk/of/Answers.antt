use Rattle.std.proofs.Common.{refl, subst, sym}
use Rattle.live_traces.specs.Rows.{chunk_rows}
use Rattle.live_traces.specs.Order.{IsOrderOf}
use Rattle.live_traces.specs.declared.chunk.Body.{Body}
use Rattle.live_traces.proofs.chunk.Chunk.of.Goals as goal

pub invariant_of-result : goal.invariant_of-result
invariant_of-result c =
    subst (λ (b : Body). IsOrderOf b.order.items (chunk_rows (record { number = c.args.number; spans = b.batch.spans }))) (sym c.in-Ok-new.ensures.ok)
    (c.in-Ok.ensures (record { number = c.args.number; spans = c.args.batch.spans }) refl)
