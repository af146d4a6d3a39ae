use Rattle.std.proofs.Common.{◌≡◌, ◌≤◌, ◌+◌, ◌*◌, ◌++◌, take, vec_len, vec_capacity}
use Rattle.std.specs.List.{flat_map}
use Rattle.block_list.specs.Body.{segment_bytes}
use Rattle.block_list.proofs.prepared.fill_segments.Given as goal

-- the entries so far, and room for the others
abbrev pub invariant-loop-segment : goal.invariant-loop-segment
invariant-loop-segment l = record {
  text : l.text.items ≡ l.fn.text.items ++ flat_map segment_bytes (take l.segment-index l.segments);
  len : vec_len l.text ≡ vec_len l.fn.text + 12 * l.segment-index;
  room : vec_capacity l.fn.text ≤ vec_capacity l.text;
}
