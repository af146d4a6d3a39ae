use Rattle.std.proofs.Common.{◌≡◌, ◌≤◌, ◌+◌, ◌*◌, ◌++◌, take, vec_len, vec_capacity}
use Rattle.std.specs.List.{flat_map}
use Rattle.block_list.specs.Body.{block_bytes}
use Rattle.block_list.proofs.prepared.fill_blocks.Given as goal

-- the entries so far, and room for the others
abbrev pub invariant-loop-block : goal.invariant-loop-block
invariant-loop-block l = record {
  text : l.text.items ≡ l.fn.text.items ++ flat_map block_bytes (take l.block-index l.blocks);
  len : vec_len l.text ≡ vec_len l.fn.text + 9 * l.block-index;
  room : vec_capacity l.fn.text ≤ vec_capacity l.text;
}
