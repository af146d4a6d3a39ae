-- The disk model for all files: what they held at first, and each change since.
use Rattle.std.specs.Prelude.{◌≡◌, ◌≢◌, ℕ, ◌+◌, ◌^◌, ◌<◌, ◌≤◌, List, [], ◌∷◌, ◌++◌, length, map, take, slice_index_or, if◌then◌else◌, ◌==◌}
use Rattle.disk_model.specs.Images.{Image, bytes_of}
use Rattle.disk_model.specs.Files.{FileState, MayBeLeft, settled, wrote, lost_write, cut_to, lost_cut, synced_now}
use Rattle.disk_model.specs.declared.change.Change.{Change}
use Rattle.disk_model.specs.declared.change.Change.TheVariants.{Write, LostWrite, Cut, LostCut, Sync}

-- what the files held at first, all of it synced, and the changes since, the oldest first
pub record Past : Type 0 where
  pub first : Image
  pub changes : List Change

abbrev pub Files : Type 0
Files = List (ℕ × FileState)

-- the state of a file; a file that was never touched is empty
abbrev pub state_of : Files → ℕ → FileState
state_of [] file = settled []
state_of (entry ∷ files) file = if entry.0 == file then entry.1 else state_of files file

-- the files with one of them changed
abbrev pub updated : ℕ → (FileState → FileState) → Files → Files
updated file change [] = (file, change (settled [])) ∷ []
updated file change (entry ∷ files) =
    if entry.0 == file then (file, change entry.1) ∷ files else entry ∷ updated file change files

-- the file that a change changes
abbrev pub file_of : Change → ℕ
file_of (Write file at bytes) = file
file_of (LostWrite file at len) = file
file_of (Cut file len) = file
file_of (LostCut file len) = file
file_of (Sync file) = file

-- what a change makes of its file
abbrev pub changed : Change → FileState → FileState
changed (Write file at bytes) = wrote at bytes
changed (LostWrite file at len) = lost_write at len
changed (Cut file len) = cut_to len
changed (LostCut file len) = lost_cut len
changed (Sync file) = synced_now

-- a write that is done ends below 2^63
abbrev pub IsInRange : Change → Type 0
IsInRange (Write file at bytes) = at + length bytes < 2 ^ 63
IsInRange (LostWrite file at len) = Unit {0}
IsInRange (Cut file len) = Unit {0}
IsInRange (LostCut file len) = Unit {0}
IsInRange (Sync file) = Unit {0}

-- the files after a change
abbrev pub after : Files → Change → Files
after files change = updated (file_of change) (changed change) files

-- the files after several changes, the first of them first
abbrev pub replayed : Files → List Change → Files
replayed files [] = files
replayed files (change ∷ changes) = replayed (after files change) changes

-- the files of an image, all of it synced
abbrev pub unchanged : Image → Files
unchanged image = map (λ entry. (entry.0, settled entry.1)) image

-- the files as they are now
abbrev pub files_now : Past → Files
files_now past = replayed (unchanged past.first) past.changes

-- what the files hold now
abbrev pub held_now : Past → Image
held_now past = map (λ entry. (entry.0, entry.1.held)) (files_now past)

-- a crash may leave this of the files: in each file what it may leave of that file
abbrev pub IsLeft : Files → Image → Type 0
IsLeft files image = (file : ℕ) → MayBeLeft (state_of files file) (bytes_of image file)

-- a crash may leave this now
abbrev pub MayLeave : Past → Image → Type 0
MayLeave past image = IsLeft (files_now past) image

-- a crash may have left this after some of the changes, that many at least
abbrev pub LeftSince : Past → ℕ → Image → Type 0
LeftSince past since image =
    (count : ℕ) × (since ≤ count) × (count ≤ length past.changes) × IsLeft (replayed (unchanged past.first) (take count past.changes)) image

-- one change more
abbrev pub added : Past → Change → Past
added past change = record { first = past.first; changes = past.changes ++ change ∷ [] }

-- these files are what the changes left
abbrev pub IsReplayed : Files → Past → Type 0
IsReplayed files past = (file : ℕ) → state_of files file ≡ state_of (files_now past) file

-- a file's entry is the first of its number, at this place
pub record StandsAt (files : Files) (file place : ℕ) : Type 0 where
  pub inside : place < length files
  pub named : (other : ℕ × FileState) → (slice_index_or files place other).0 ≡ file
  pub first : (earlier : ℕ) (other : ℕ × FileState) → earlier < place → (slice_index_or files earlier other).0 ≢ file
