use Rattle.std.proofs.Common.{◌<◌, length, arith}
use Rattle.block_list.specs.Body.{segment_bytes}
use Rattle.block_list.proofs.BodyLemmas.{entries_more}
use Rattle.block_list.proofs.prepared.fill_segments.Goals as goal

pub loop-segment-preserved : goal.loop-segment-preserved
loop-segment-preserved c =
    let index = c.loop-segment.segment-index in
    let inside : index < length c.args.segments.now = omega arith in
    record {
      text = rw (c.put_segment.ensures.text, c.loop-segment.invariant.text) (entries_more segment_bytes c.args.text.now.items c.args.segments.now index _ inside);
      len = omega (arith, c.put_segment.ensures.len, c.loop-segment.invariant.len);
      room = omega (arith, c.put_segment.ensures.room, c.loop-segment.invariant.room);
    }
