use Rattle.std.proofs.Common.{◌≡◌, ◌≤◌, ◌+◌, ◌*◌, ◌++◌, take, vec_len, vec_capacity}
use Rattle.std.specs.List.{flat_map}
use Rattle.byte_fields.specs.Spelling.{fixed32_bytes}
use Rattle.block_list.proofs.prepared.fill_files.Given as goal

-- the entries so far, and room for the others
abbrev pub invariant-loop-file : goal.invariant-loop-file
invariant-loop-file l = record {
  text : l.text.items ≡ l.fn.text.items ++ flat_map fixed32_bytes (take l.file-index l.files);
  len : vec_len l.text ≡ vec_len l.fn.text + 4 * l.file-index;
  room : vec_capacity l.fn.text ≤ vec_capacity l.text;
}
