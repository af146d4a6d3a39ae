-- Reading a slot's fields, in the order of the bytes, up to the first that breaks its rule or is missing.
use Rattle.std.specs.Prelude.{◌≡◌, ℕ, zero, suc, ◌%◌, Bool, true, false, not, ◌&&◌, ◌||◌, Option, Some, None, List, [], ◌∷◌, ◌++◌, length, map, slice_index, nat_eq, nat_lt, nat_le, ◌==◌, if◌then◌else◌, Result, Ok, Err}
use Rattle.std.specs.List.{list_any}
use Rattle.byte_fields.specs.declared.error.FieldError.{FieldError}
use Rattle.byte_fields.specs.declared.error.FieldError.TheVariants.{Short, NotShortest, NotText, Memory}
use Rattle.byte_fields.specs.Reading.{Stand, ◌>>=◌, byte_at, fixed32_at, fixed64_at}
use Rattle.block_list.specs.Body.{successor}
use Rattle.block_list.specs.declared.body.SegmentRef.{SegmentRef}
use Rattle.block_list.specs.declared.body.BlockRef.{BlockRef}
use Rattle.block_list.specs.declared.body.ListBody.{ListBody}
use Rattle.block_list.specs.declared.reading.Head.{Head}

-- the offset where a field breaks
abbrev pub offset_of : FieldError → ℕ
offset_of (Short at) = at
offset_of (NotShortest at) = at
offset_of (NotText at) = at
offset_of Memory = 0

-- what was read, or the offset where it breaks
abbrev pub located : {X : Type 0} → Result X FieldError → Result X ℕ
located (Ok x) = Ok x
located (Err e) = Err (offset_of e)

-- a value that meets its rule, or the offset of its field
abbrev pub ruled : {X : Type 0} → Bool → ℕ → X → Result X ℕ
ruled true at x = Ok x
ruled false at x = Err at

unfoldable pub read8 : Stand → Result (ℕ × Stand) ℕ
read8 s = located (byte_at s)

unfoldable pub read32 : Stand → Result (ℕ × Stand) ℕ
read32 s = located (fixed32_at s)

unfoldable pub read64 : Stand → Result (ℕ × Stand) ℕ
read64 s = located (fixed64_at s)

-- `TSL1` as a number
abbrev pub tag : ℕ
tag = 827085652

-- one of the two is the other's successor
abbrev pub are_neighbours : ℕ → Option ℕ → Bool
are_neighbours generation None = true
are_neighbours generation (Some other) = generation == successor other || other == successor generation

unfoldable pub tag_at : Stand → Result (ℕ × Stand) ℕ
tag_at s = do
  number ← read32 s
  ruled (number.0 == tag) s.at number

-- the generation of the slot of that number, beside another list's
unfoldable pub generation_at : ℕ → Option ℕ → Stand → Result (ℕ × Stand) ℕ
generation_at slot other s = do
  generation ← read8 s
  ruled (generation.0 % 2 == slot && are_neighbours generation.0 other) s.at generation

-- there is a segment
unfoldable pub count_at : Stand → Result (ℕ × Stand) ℕ
count_at s = do
  count ← read32 s
  ruled (nat_lt 0 count.0) s.at count

unfoldable pub head_at : ℕ → Option ℕ → Stand → Result (Head × Stand) ℕ
head_at slot other s = do
  number ← tag_at s
  generation ← generation_at slot other number.1
  next_file ← read32 generation.1
  floor ← read64 next_file.1
  segments ← count_at floor.1
  blocks ← read32 segments.1
  loose ← read32 blocks.1
  Ok (record { generation = generation.0; next_file = next_file.0; floor = floor.0; segments = segments.0; blocks = blocks.0; loose = loose.0 }, loose.1)

-- a file that was given out, and that none of these is
unfoldable pub file_at : ℕ → List ℕ → Stand → Result (ℕ × Stand) ℕ
file_at next_file seen s = do
  file ← read32 s
  ruled (nat_le 2 file.0 && nat_lt file.0 next_file && not (list_any (nat_eq file.0) seen)) s.at file

-- the first segment's number is at most the floor, and no other one falls
abbrev pub goes_on : ℕ → Option ℕ → ℕ → Bool
goes_on floor None first = nat_le first floor
goes_on floor (Some before) first = nat_le before first

-- a segment's first number; the last one's is at least the floor
unfoldable pub first_number_at : ℕ → Bool → Option ℕ → Stand → Result (ℕ × Stand) ℕ
first_number_at floor is_last before s = do
  first ← read64 s
  ruled (nat_le first.0 4294967295 && goes_on floor before first.0 && (not is_last || nat_le floor first.0)) s.at first

unfoldable pub segment_ref_at : ℕ → ℕ → Bool → Option ℕ → List ℕ → Stand → Result (SegmentRef × Stand) ℕ
segment_ref_at next_file floor is_last before seen s = do
  file ← file_at next_file seen s
  first ← first_number_at floor is_last before file.1
  Ok (record { file = file.0; first = first.0 }, first.1)

-- so many segments more, after these
unfoldable pub segments_at : ℕ → ℕ → ℕ → Option ℕ → List SegmentRef → Stand → Result (List SegmentRef × Stand) ℕ
segments_at next_file floor zero before done s = Ok (done, s)
segments_at next_file floor (suc count) before done s = do
  segment ← segment_ref_at next_file floor (count == 0) before (map (λ segment. segment.file) done) s
  segments_at next_file floor count (Some segment.0.first) (done ++ segment.0 ∷ []) segment.1

unfoldable pub level_at : Stand → Result (ℕ × Stand) ℕ
level_at s = do
  level ← read8 s
  ruled (nat_le level.0 63) s.at level

unfoldable pub rows_at : Stand → Result (ℕ × Stand) ℕ
rows_at s = do
  rows ← read32 s
  ruled (nat_le 1 rows.0 && nat_le rows.0 1048576) s.at rows

unfoldable pub block_at : ℕ → List ℕ → Stand → Result (BlockRef × Stand) ℕ
block_at next_file seen s = do
  file ← file_at next_file seen s
  level ← level_at file.1
  rows ← rows_at level.1
  Ok (record { file = file.0; level = level.0; rows = rows.0 }, rows.1)

-- so many blocks more, after these; the earlier files are named already
unfoldable pub blocks_at : ℕ → List ℕ → ℕ → List BlockRef → Stand → Result (List BlockRef × Stand) ℕ
blocks_at next_file earlier zero done s = Ok (done, s)
blocks_at next_file earlier (suc count) done s = do
  block ← block_at next_file (earlier ++ map (λ block. block.file) done) s
  blocks_at next_file earlier count (done ++ block.0 ∷ []) block.1

-- so many loose files more, after these
unfoldable pub loose_at : ℕ → List ℕ → ℕ → List ℕ → Stand → Result (List ℕ × Stand) ℕ
loose_at next_file earlier zero done s = Ok (done, s)
loose_at next_file earlier (suc count) done s = do
  file ← file_at next_file (earlier ++ done) s
  loose_at next_file earlier count (done ++ file.0 ∷ []) file.1

-- a list after an open gate
unfoldable pub list_body_at : ℕ → Option ℕ → Stand → Result (ListBody × Stand) ℕ
list_body_at slot other s = do
  head ← head_at slot other s
  segments ← segments_at head.0.next_file head.0.floor head.0.segments None [] head.1
  blocks ← blocks_at head.0.next_file (map (λ segment. segment.file) segments.0) head.0.blocks [] segments.1
  loose ← loose_at head.0.next_file (map (λ segment. segment.file) segments.0 ++ map (λ block. block.file) blocks.0) head.0.loose [] blocks.1
  Ok (record { generation = head.0.generation; next_file = head.0.next_file; floor = head.0.floor; segments = segments.0; blocks = blocks.0; loose = loose.0 }, loose.1)

-- ---- what calls that read answer

-- What a call gave, seen by view, and where the reader then stands are what reading gives; or it breaks there, or memory
-- was wanted.
abbrev pub GivesAt : {X Y : Type 0} → (X → Y) → Result X (Option ℕ) → Stand → Result (Y × Stand) ℕ → Type 0
GivesAt view (Ok x) new read = read ≡ Ok (view x, new)
GivesAt view (Err None) new read = Unit {0}
GivesAt view (Err (Some at)) new read = read ≡ Err at

-- the same files, in whatever order
abbrev pub SameFiles : List ℕ → List ℕ → Type 0
SameFiles these those = (file : ℕ) → list_any (nat_eq file) these ≡ list_any (nat_eq file) those

-- one file more, in whatever order
abbrev pub WithFile : ℕ → List ℕ → List ℕ → Type 0
WithFile file before after = (other : ℕ) → list_any (nat_eq other) after ≡ (nat_eq other file || list_any (nat_eq other) before)

-- the slot holds no list
abbrev pub is_vacant : List ℕ → Bool
is_vacant bytes = nat_lt (length bytes) 30 || not (slice_index bytes 0 == 1)

-- what the slot of that number holds, beside a list of that generation in the other one
unfoldable pub slot_at : ℕ → Option ℕ → List ℕ → Result (Option ListBody) ℕ
slot_at slot other bytes =
    if is_vacant bytes then Ok None
    else (do
      gate ← read8 (record { whole = bytes; at = 0 })
      list ← list_body_at slot other gate.1
      Ok (Some list.0))

-- with the slot beside the offset of its break
abbrev pub in_slot : {X : Type 0} → ℕ → Result X ℕ → Result X (ℕ × ℕ)
in_slot slot (Ok x) = Ok x
in_slot slot (Err at) = Err (slot, at)

abbrev pub generation_of : Option ListBody → Option ℕ
generation_of None = None
generation_of (Some body) = Some body.generation

-- of two lists the one that is the other's successor
abbrev pub newer_of : Option ListBody → Option ListBody → Option ListBody
newer_of None second = second
newer_of (Some first) None = Some first
newer_of (Some first) (Some second) = if second.generation == successor first.generation then Some second else Some first

-- what the two slots say, or the slot and the offset where the first of them breaks
unfoldable pub slots_at : List ℕ → List ℕ → Result (Option ListBody) (ℕ × ℕ)
slots_at first second = do
  one ← in_slot 0 (slot_at 0 None first)
  two ← in_slot 1 (slot_at 1 (generation_of one) second)
  Ok (newer_of one two)

-- what a call gave is what reading gives, or memory ran out
abbrev pub GivesSlot : {X : Type 0} → Result X (Option ℕ) → Result X ℕ → Type 0
GivesSlot (Ok x) read = read ≡ Ok x
GivesSlot (Err None) read = Unit {0}
GivesSlot (Err (Some at)) read = read ≡ Err at
