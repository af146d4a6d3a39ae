-- Loose files, which an opening empties, and the list that it leaves.
use Rattle.std.specs.Prelude.{◌+◌, ◌≡◌, ◌⊎◌, ◌<◌, ◌≤◌, ℕ, List, [], ◌∷◌, ◌++◌, map, IsTrue}
use Rattle.std.specs.List.{Contains}
use Rattle.disk_model.specs.Images.{Image, bytes_of}
use Rattle.disk_model.specs.Crash.{OnlyBytes, Run}
use Rattle.disk_model.specs.declared.disk.Device.{Ghosts}
use Rattle.block_list.specs.Body.{successor, files_of}
use Rattle.block_list.specs.declared.body.BlockRef.{BlockRef}
use Rattle.block_list.specs.declared.body.SegmentRef.{SegmentRef}
use Rattle.block_list.specs.declared.body.ListBody.{ListBody}
use Rattle.store_images.specs.Stored.{KeepsStored}

-- the next list, which names no loose file
abbrev pub next_without : ListBody → ListBody
next_without body = record body { generation = successor body.generation; loose = [] }

-- a list that names no loose file stays, and after one that does comes the next one
abbrev pub list_after : List ℕ → ListBody → ListBody
list_after [] body = body
list_after (file ∷ files) body = next_without body

abbrev pub without_loose : ListBody → ListBody
without_loose body = list_after body.loose body

-- The file is neither a segment nor a block of the list: it was given out since the list was committed, or the list names it as
-- loose, as one does that was committed while its job was open.
abbrev pub IsSpare : ListBody → ℕ → Type 0
IsSpare list file = (list.next_file ≤ file) ⊎ Contains list.loose file

-- the files of its segments and blocks
abbrev pub used_files : ListBody → List ℕ
used_files body = map (λ (segment : SegmentRef). segment.file) body.segments ++ map (λ (block : BlockRef). block.file) body.blocks

-- files from 2 on that are none of those
abbrev pub AreUnused : ListBody → List ℕ → Type 0
AreUnused body files = (file : ℕ) → Contains files file → (2 ≤ file) × (Contains (used_files body) file → ⊥)

-- the next list, with this next file and these loose files
abbrev pub next_with : ListBody → ℕ → List ℕ → ListBody
next_with body next_file loose = record body { generation = successor body.generation; next_file = next_file; loose = loose }

-- Files may be emptied and the next list be committed without them: none of them is a segment's or a block's, and each other file that
-- the list names, or that was given out since, is named by the next one.
pub record MayEmpty (body : ListBody) (next_file : ℕ) (loose files : List ℕ) : Type 0 where
  pub unused : AreUnused body files
  pub named : (file : ℕ) → Contains (files_of body) file ⊎ ((body.next_file ≤ file) × (file < next_file))
      → Contains (files_of (next_with body next_file loose)) file ⊎ Contains files file

-- Each file from 2 on but those that change so holds what it held, and where it had one image it has that one still.
pub record OthersStay (changes : ℕ → Type 0) (held later : Image) (before after : Image → Type 0) : Type 0 where
  pub still : (file : ℕ) → 2 ≤ file → (changes file → ⊥) → bytes_of later file ≡ bytes_of held file
  pub images : (file : ℕ) (known : List ℕ) → 2 ≤ file → (changes file → ⊥) → OnlyBytes file known before → OnlyBytes file known after

-- An opening, refused or not: whenever a crash comes, the image stands for what some image stood for before and for nothing else.
abbrev pub KeepsDisk : {D : Type 0} (g : Ghosts D) → D → D → Type 0
KeepsDisk g disk later = IsTrue (g.tells disk) → Run KeepsStored g.moment g.left_since g.may_leave disk later

-- ---- what jobs left

-- eight files in a row from that one on are empty
abbrev pub IsGap : Image → ℕ → Type 0
IsGap image start = (file : ℕ) → start ≤ file → file < start + 8 → bytes_of image file ≡ []

-- The file has a number from that one on that a job may get, and no such gap lies between the two.
pub record IsReached (image : Image) (first file : ℕ) : Type 0 where
  pub from : first ≤ file
  pub given : file < 4294967295
  pub no_gap : (start : ℕ) → first ≤ start → start + 8 ≤ file → IsGap image start → ⊥

-- Each file that is reached from that number on, as the first eight are, is empty in each of these images.
abbrev pub AreFreed : Image → ℕ → (Image → Type 0) → Type 0
AreFreed before first images = (file : ℕ) → IsReached before first file → OnlyBytes file [] images
