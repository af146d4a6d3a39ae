-- A list body: how it is encoded, and the rules that it meets.
use Rattle.std.specs.Prelude.{ℕ, ◌+◌, ◌-◌, ◌%◌, ◌^◌, ◌<◌, ◌≤◌, List, [], ◌∷◌, ◌++◌, length, map, slice_index, nat_eq, All}
use Rattle.std.specs.List.{flat_map, IsDistinct}
use Rattle.std.specs.List.Sorted.{IsNonDecreasing}
use Rattle.byte_fields.specs.Spelling.{fixed32_bytes, fixed64_bytes}
use Rattle.block_list.specs.declared.body.SegmentRef.{SegmentRef}
use Rattle.block_list.specs.declared.body.BlockRef.{BlockRef}
use Rattle.block_list.specs.declared.body.ListBody.{ListBody}

-- the files that a body names, in the order of the bytes
abbrev pub files_of : ListBody → List ℕ
files_of body = map (λ segment. segment.file) body.segments ++ map (λ block. block.file) body.blocks ++ body.loose

-- the first numbers of its segments
abbrev pub firsts_of : ListBody → List ℕ
firsts_of body = map (λ segment. segment.first) body.segments

pub record MeetsRules (body : ListBody) : Type 0 where
  pub generation : body.generation < 256
  pub next_file : body.next_file < 2 ^ 32
  pub some_segment : 0 < length body.segments
  -- each file is a log segment's or a block's, was given out, and is named once
  pub files : All (λ file. (2 ≤ file) × (file < body.next_file)) (files_of body)
  pub once : IsDistinct nat_eq (files_of body)
  -- the floor stands in the segments
  pub order : IsNonDecreasing (firsts_of body)
  pub firsts : All (λ first. first ≤ 4294967295) (firsts_of body)
  pub from_floor : slice_index (firsts_of body) 0 ≤ body.floor
  pub to_floor : body.floor ≤ slice_index (firsts_of body) (length body.segments - 1)
  pub levels : All (λ block. block.level ≤ 63) body.blocks
  pub rows : All (λ block. (1 ≤ block.rows) × (block.rows ≤ 1048576)) body.blocks

-- `TSL1`
abbrev pub magic : List ℕ
magic = 84 ∷ 83 ∷ 76 ∷ 49 ∷ []

unfoldable pub segment_bytes : SegmentRef → List ℕ
segment_bytes segment = fixed32_bytes segment.file ++ fixed64_bytes segment.first

unfoldable pub block_bytes : BlockRef → List ℕ
block_bytes block = fixed32_bytes block.file ++ block.level ∷ [] ++ fixed32_bytes block.rows

-- the 29 bytes of fixed fields
unfoldable pub head_bytes : ListBody → List ℕ
head_bytes body =
    magic ++ body.generation ∷ [] ++ fixed32_bytes body.next_file ++ fixed64_bytes body.floor
    ++ fixed32_bytes (length body.segments) ++ fixed32_bytes (length body.blocks) ++ fixed32_bytes (length body.loose)

-- the bytes after the gate
unfoldable pub text_of : ListBody → List ℕ
text_of body =
    head_bytes body ++ flat_map segment_bytes body.segments ++ flat_map block_bytes body.blocks ++ flat_map fixed32_bytes body.loose

-- the generation after that one
abbrev pub successor : ℕ → ℕ
successor generation = (generation + 1) % 256
