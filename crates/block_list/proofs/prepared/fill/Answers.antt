use Rattle.std.proofs.Common.{length, ap, arith}
use Rattle.block_list.proofs.BodyLemmas.{length-text, text_parts}
use Rattle.block_list.proofs.prepared.fill.Goals as goal

pub fill_head-requires-clause-room : goal.fill_head-requires-clause-room
fill_head-requires-clause-room c = omega (arith, length-text c.args.body.now)

pub fill_segments-requires : goal.fill_segments-requires
fill_segments-requires c = omega (arith, length-text c.args.body.now, ap length c.as_slice.ensures)

pub fill_blocks-requires : goal.fill_blocks-requires
fill_blocks-requires c = omega (arith, length-text c.args.body.now, ap length c.as_slice.ensures, ap length c.as_slice-2.ensures)

pub fill_files-requires : goal.fill_files-requires
fill_files-requires c = omega (arith, length-text c.args.body.now, ap length c.as_slice.ensures, ap length c.as_slice-2.ensures, ap length c.as_slice-3.ensures)

pub returns-clause-text : goal.returns-clause-text
returns-clause-text c =
    rw (c.fill_files.ensures.text, c.fill_blocks.ensures.text, c.fill_segments.ensures.text, c.fill_head.ensures.text, c.as_slice.ensures, c.as_slice-2.ensures, c.as_slice-3.ensures) (text_parts c.args.text.now.items c.args.body.now)
