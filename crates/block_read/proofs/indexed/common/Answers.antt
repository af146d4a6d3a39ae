use Rattle.std.proofs.Common.{arith}
use Rattle.block_read.proofs.BlockBoth.{stops_other, stops_short}
use Rattle.block_read.proofs.indexed.common.Goals.{then-bytes-index-via-then-bytes-index, then-bytes-index-via-else-bytes-index+then-bytes-index-2}
use Rattle.block_read.proofs.indexed.common.Goals as goal

pub returns-then-bytes-index-clause-count : goal.returns-then-bytes-index-clause-count
returns-then-bytes-index-clause-count c =
    elim c.then-bytes-index.branch [
      | then-bytes-index-via-then-bytes-index w ↦ stops_short c.args.wanted.now c.args.bytes.now c.loop-index.index (omega (arith, w.if-bytes-index.true)) c.loop-index.invariant.0
      | then-bytes-index-via-else-bytes-index+then-bytes-index-2 w ↦
          stops_other c.args.wanted.now c.args.bytes.now c.loop-index.index (omega (arith, c.loop-index-test.true)) (omega (arith, w.if-bytes-index.false)) w.if-bytes-index-2.true c.loop-index.invariant.0
    ]
