use Rattle.std.proofs.Common.{◌∙◌, ◌++◌, ◌∷◌, [], ap, sym, arith, append_assoc, take}
use Rattle.live_traces.specs.Rows.{chunk_rows, row_of}
use Rattle.live_traces.proofs.ChunkRows.{one_more, length_chunk_rows, take_whole}
use Rattle.live_traces.proofs.chunk.ChunkHasRows.lend_rows.Goals as goal

pub loop-at-preserved : goal.loop-at-preserved
loop-at-preserved c =
    c.in_ok-push.ensures.items ∙ ap (λ r. c.loop-at.rows.items ++ r ∷ []) c.lent.ensures
    ∙ ap (λ q. q ++ row_of c.args.self.now c.loop-at.at ∷ []) c.loop-at.invariant
    ∙ append_assoc c.args.rows.now.items (take c.loop-at.at (chunk_rows c.args.self.now)) (row_of c.args.self.now c.loop-at.at ∷ [])
    ∙ ap (λ q. c.args.rows.now.items ++ q) (sym (one_more c.args.self.now c.loop-at.at (omega arith)))

pub returns : goal.returns
returns c =
    c.loop-at.invariant
    ∙ ap (λ rows. c.args.rows.now.items ++ rows) (take_whole (chunk_rows c.args.self.now) c.loop-at.at (omega (arith, length_chunk_rows c.args.self.now)))
