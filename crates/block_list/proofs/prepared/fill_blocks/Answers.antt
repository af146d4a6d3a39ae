use Rattle.std.proofs.Common.{◌<◌, length, arith}
use Rattle.block_list.specs.Body.{block_bytes}
use Rattle.block_list.proofs.BodyLemmas.{entries_more}
use Rattle.block_list.proofs.prepared.fill_blocks.Goals as goal

pub loop-block-preserved : goal.loop-block-preserved
loop-block-preserved c =
    let index = c.loop-block.block-index in
    let inside : index < length c.args.blocks.now = omega arith in
    record {
      text = rw (c.put_block.ensures.text, c.loop-block.invariant.text) (entries_more block_bytes c.args.text.now.items c.args.blocks.now index _ inside);
      len = omega (arith, c.put_block.ensures.len, c.loop-block.invariant.len);
      room = omega (arith, c.put_block.ensures.room, c.loop-block.invariant.room);
    }
