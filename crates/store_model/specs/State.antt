-- What a store keeps beside its history: which rows are where. It knows no bytes.
use Rattle.std.specs.Prelude.{◌≡◌, ℕ, ◌+◌, ◌==◌, ◌≤◌, Bool, false, if◌then◌else◌, not, List, [], ◌∷◌, ◌++◌, length, map, filter, Option, None, Some}
use Rattle.std.specs.List.{flat_map, list_any}
use Rattle.span_types.specs.declared.spans.Row.{Row}

-- a live row, with the moment of its push
pub record LiveRow : Type 0 where
  pub row : Row
  pub moment : ℕ

pub record Block : Type 0 where
  pub file : ℕ
  pub level : ℕ
  -- how many rows its information says that it has: their number, wherever that information was read from its bytes
  pub size : ℕ
  pub rows : List Row

-- a log segment, and the number of its first push
pub record Segment : Type 0 where
  pub file : ℕ
  pub first : ℕ

-- an open flush: its block's file, its new segment's file, and the rows that it took
pub record Flush : Type 0 where
  pub number : ℕ
  pub file : ℕ
  pub segment : ℕ
  pub rows : List Row

-- an open compaction: its block's file and level, and its pin's number
pub record Compaction : Type 0 where
  pub number : ℕ
  pub file : ℕ
  pub level : ℕ
  pub pin : ℕ

-- a pin, and the blocks that stay while it is open
pub record Pinned : Type 0 where
  pub number : ℕ
  pub blocks : List Block

pub record State : Type 0 where
  -- in the order in which they came
  pub live : List LiveRow
  pub head : List Row
  pub flush : Option Flush
  pub compaction : Option Compaction
  pub blocks : List Block
  pub segments : List Segment
  pub floor : ℕ
  pub loose : List ℕ
  pub pins : List Pinned
  pub next_file : ℕ
  -- how many jobs were begun since opening
  pub begun : ℕ

-- ---- rows

abbrev pub live_rows : List LiveRow → List Row
live_rows live = map (λ entry. entry.row) live

abbrev pub block_rows : List Block → List Row
block_rows blocks = flat_map (λ block. block.rows) blocks

abbrev pub flush_rows : Option Flush → List Row
flush_rows None = []
flush_rows (Some job) = job.rows

-- all rows, those in blocks first and the live ones last
abbrev pub state_rows : State → List Row
state_rows u = block_rows u.blocks ++ flush_rows u.flush ++ u.head ++ live_rows u.live

-- the rows held outside of blocks, repeats among them
abbrev pub held_of : State → ℕ
held_of u = length (flush_rows u.flush) + length u.head + length u.live

-- ---- files

abbrev pub is_among : ℕ → List ℕ → Bool
is_among file files = list_any (λ other. other == file) files

abbrev pub block_files : List Block → List ℕ
block_files blocks = map (λ block. block.file) blocks

abbrev pub segment_files : List Segment → List ℕ
segment_files segments = map (λ segment. segment.file) segments

abbrev pub flush_files : Option Flush → List ℕ
flush_files None = []
flush_files (Some job) = job.file ∷ job.segment ∷ []

abbrev pub compaction_files : Option Compaction → List ℕ
compaction_files None = []
compaction_files (Some job) = job.file ∷ []

-- the files that open jobs were given: a flush's new segment among them
abbrev pub open_files : State → List ℕ
open_files u = flush_files u.flush ++ compaction_files u.compaction

-- the loose files that a list names when it is committed: those, and the files of the jobs that stay open
abbrev pub listed_loose : State → List ℕ
listed_loose u = u.loose ++ flush_files u.flush ++ compaction_files u.compaction

abbrev pub pinned_files : List Pinned → List ℕ
pinned_files pins = flat_map (λ pin. block_files pin.blocks) pins

-- loose files that no pin names, and those that one does
abbrev pub free_files : State → List ℕ
free_files u = filter (λ file. not (is_among file (pinned_files u.pins))) u.loose

abbrev pub kept_files : State → List ℕ
kept_files u = filter (λ file. is_among file (pinned_files u.pins)) u.loose

-- ---- pins

abbrev pub pin_numbers : List Pinned → List ℕ
pin_numbers pins = map (λ pin. pin.number) pins

-- the least number that no pin has
pub record IsFreeNumber (n : ℕ) (pins : List Pinned) : Type 0 where
  pub is_free : is_among n (pin_numbers pins) ≡ false
  pub least : (m : ℕ) → is_among m (pin_numbers pins) ≡ false → n ≤ m

abbrev pub without_pin : ℕ → List Pinned → List Pinned
without_pin n pins = filter (λ pin. not (pin.number == n)) pins

-- the blocks of the pin with this number, and none where there is no such pin
abbrev pub pinned_blocks : ℕ → List Pinned → List Block
pinned_blocks n [] = []
pinned_blocks n (pin ∷ pins) = if pin.number == n then pin.blocks else pinned_blocks n pins

-- ---- jobs

abbrev pub flush_numbers : Option Flush → List ℕ
flush_numbers None = []
flush_numbers (Some job) = job.number ∷ []

abbrev pub compaction_numbers : Option Compaction → List ℕ
compaction_numbers None = []
compaction_numbers (Some job) = job.number ∷ []

-- the pin of an open compaction
abbrev pub compaction_pins : Option Compaction → List ℕ
compaction_pins None = []
compaction_pins (Some job) = job.pin ∷ []
