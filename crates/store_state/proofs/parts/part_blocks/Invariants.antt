-- So far the blocks that were gone over were parted.
use Rattle.std.proofs.Common.{◌≡◌, ◌≤◌, ◌+◌, ◌++◌, take, length}
use Rattle.std.specs.Vec.{vec_len, vec_capacity}
use Rattle.store_state.specs.Parted.{inside, outside}
use Rattle.store_state.proofs.parts.part_blocks.Given as goal

abbrev pub invariant-loop-block : goal.invariant-loop-block
invariant-loop-block l = record {
  stay : l.blocks.items ≡ outside l.files (take l.block-index l.now);
  go : l.loose.items ≡ l.initial.loose.items ++ inside l.files (take l.block-index l.now);
  blocks_len : vec_len l.blocks ≤ l.block-index;
  blocks_room : length l.now + 1 ≤ vec_capacity l.blocks;
  blocks_kept : vec_capacity l.initial.blocks ≤ vec_capacity l.blocks;
  loose_len : vec_len l.loose ≤ vec_len l.initial.loose + l.block-index;
  loose_room : vec_capacity l.initial.loose ≤ vec_capacity l.loose;
}
