-- What events leave of the state.
use Rattle.std.specs.Prelude.{ℕ, ◌+◌, nat_le, min, Bool, if◌then◌else◌, not, List, [], ◌∷◌, ◌++◌, map, filter, take, drop, None, Some}
use Rattle.span_types.specs.declared.spans.Span.{Span}
use Rattle.span_types.specs.declared.spans.Row.{Row}
use Rattle.store_model.specs.History.{batch_rows}
use Rattle.store_model.specs.State.{State, LiveRow, Segment, Flush, Compaction, live_rows, block_files, pinned_blocks, without_pin}
use Rattle.store_model.specs.Choice.{choice, level_of, in_files, outside_files, most_rows}

-- the rows of a push as live ones
abbrev pub arrived : ℕ → List Row → List LiveRow
arrived moment rows = map (λ row. record { row = row; moment = moment }) rows

abbrev pub after_push : ℕ → List Span → ℕ → State → State
after_push number spans moment u = record u { live = u.live ++ arrived moment (batch_rows number spans) }

abbrev pub after_cut : (LiveRow → Bool) → List Row → State → State
after_cut goes moved u = record u { live = filter (λ entry. not (goes entry)) u.live; head = u.head ++ moved }

-- ---- a flush

-- A begin takes rows from the head's front, and two file numbers: the block's, then the new segment's.
abbrev pub taken : State → Flush
taken u = record {
  number = u.begun + 1;
  file = u.next_file;
  segment = u.next_file + 1;
  rows = take most_rows u.head;
}

abbrev pub after_begin_flush : State → State
after_begin_flush u = record u {
  head = drop most_rows u.head;
  flush = Some (taken u);
  next_file = u.next_file + 2;
  begun = u.begun + 1;
}

-- the least number of these rows, and of no row the count
abbrev pub least : ℕ → List Row → ℕ
least count [] = count
least count (row ∷ rows) = min row.place.number (least count rows)

-- the floor that a flush's commit sets: the least number that waits outside of blocks, or the history's length
abbrev pub floor_after : ℕ → State → ℕ
floor_after count u = least count (u.head ++ live_rows u.live)

-- segments that stay with a floor, and those that it releases: the ones whose follower begins at or below it
abbrev pub staying : ℕ → List Segment → List Segment
staying floor [] = []
staying floor (a ∷ []) = a ∷ []
staying floor (a ∷ b ∷ rest) =
    if nat_le b.first floor then staying floor (b ∷ rest) else a ∷ staying floor (b ∷ rest)

abbrev pub released : ℕ → List Segment → List ℕ
released floor [] = []
released floor (a ∷ []) = []
released floor (a ∷ b ∷ rest) =
    if nat_le b.first floor then a.file ∷ released floor (b ∷ rest) else released floor (b ∷ rest)

-- the segments, with a new one that begins at the history's length
abbrev pub with_segment : ℕ → Flush → State → List Segment
with_segment count job u = u.segments ++ record { file = job.segment; first = count } ∷ []

abbrev pub after_commit_flush : ℕ → Flush → ℕ → List Row → State → State
after_commit_flush count job size firsts u = record u {
  flush = None;
  blocks = u.blocks ++ record { file = job.file; level = 0; size = size; rows = firsts } ∷ [];
  segments = staying (floor_after count u) (with_segment count job u);
  floor = floor_after count u;
  loose = u.loose ++ released (floor_after count u) (with_segment count job u);
}

abbrev pub after_drop_flush : Flush → State → State
after_drop_flush job u = record u {
  flush = None;
  head = job.rows ++ u.head;
  loose = u.loose ++ job.file ∷ job.segment ∷ [];
}

-- ---- a compaction

abbrev pub chosen_job : ℕ → State → Compaction
chosen_job pin u = record {
  number = u.begun + 1;
  file = u.next_file;
  level = level_of (choice u.blocks) + 1;
  pin = pin;
}

abbrev pub after_begin_compact : ℕ → State → State
after_begin_compact pin u = record u {
  compaction = Some (chosen_job pin u);
  pins = u.pins ++ record { number = pin; blocks = choice u.blocks } ∷ [];
  next_file = u.next_file + 1;
  begun = u.begun + 1;
}

-- the files of the blocks that a compaction joins
abbrev pub job_files : Compaction → State → List ℕ
job_files job u = block_files (pinned_blocks job.pin u.pins)

abbrev pub after_commit_compact : Compaction → ℕ → List Row → State → State
after_commit_compact job size firsts u = record u {
  compaction = None;
  pins = without_pin job.pin u.pins;
  blocks = outside_files (job_files job u) u.blocks
      ++ record { file = job.file; level = job.level; size = size; rows = firsts } ∷ [];
  loose = u.loose ++ block_files (in_files (job_files job u) u.blocks);
}

abbrev pub after_drop_compact : Compaction → State → State
after_drop_compact job u = record u {
  compaction = None;
  pins = without_pin job.pin u.pins;
  loose = u.loose ++ job.file ∷ [];
}

-- ---- a look

abbrev pub after_look : ℕ → State → State
after_look pin u = record u { pins = u.pins ++ record { number = pin; blocks = u.blocks } ∷ [] }

abbrev pub after_done : ℕ → State → State
after_done pin u = record u { pins = without_pin pin u.pins }
