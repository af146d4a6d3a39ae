-- What loading a list answers, and what it leaves.
use Rattle.std.specs.Prelude.{◌≡◌, ◌⊎◌, ℕ, ◌<◌, ◌≤◌, Option, Some, None, List, length, take, ◌&&◌, nat_le, if◌then◌else◌, Result, Ok, Err}
use Rattle.disk_model.specs.Images.{Image, bytes_of}
use Rattle.disk_model.specs.Bytes.{HalfCut}
use Rattle.disk_model.specs.Crash.{OnlyBytes}
use Rattle.block_list.specs.Slots.{IsOpen, IsVacant, ImageHoldsList}
use Rattle.block_list.specs.Reading.{is_vacant}
use Rattle.block_list.specs.declared.body.ListBody.{ListBody}
use Rattle.block_list.specs.declared.error.ListError.{ListError}
use Rattle.block_list.specs.declared.error.ListError.TheVariants.{Fault, NotList, Memory}

-- the error of a slot that breaks at an offset, or of lack of memory
abbrev pub error_of : ℕ → Option ℕ → ListError
error_of slot None = Memory
error_of slot (Some at) = NotList slot at

-- what a call gave is what reading gives, or memory ran out
abbrev pub GivesList : {X : Type 0} → Result X ListError → Result X (ℕ × ℕ) → Type 0
GivesList (Ok x) read = read ≡ Ok x
GivesList (Err Memory) read = Unit {0}
GivesList (Err (NotList slot at)) read = read ≡ Err (slot, at)
GivesList (Err Fault) read = ⊥

-- a slot stays as it was, or it is vacant, though long enough for a list, and is cut to its first
-- byte, or is on the way there
abbrev pub StaysOrClears : List ℕ → List ℕ → Type 0
StaysOrClears old new = (new ≡ old) ⊎ (IsVacant old × (30 ≤ length old) × HalfCut 1 old new)

-- The new image stands for what the old one stood for. Whatever the slots hold, malformed bytes
-- too, one that isn't vacant stays as it was, and so does each other file.
pub record KeepsList (old new : Image) : Type 0 where
  pub list : (found : Option ListBody) → ImageHoldsList old found → ImageHoldsList new found
  pub slots : (slot : ℕ) → slot < 2 → StaysOrClears (bytes_of old slot) (bytes_of new slot)
  pub files : (file : ℕ) → 2 ≤ file → bytes_of new file ≡ bytes_of old file

-- a list may be laid into the slot, if it doesn't hold the one that counts
abbrev pub IsFree : List ℕ → Type 0
IsFree bytes = IsOpen bytes ⊎ (length bytes < 30)

-- The slots stand for this list, and the next one may be laid: each slot has one image, which is what a read gives, and a
-- gate may be closed in either.
pub record IsReady (held : Image) (may_leave : Image → Type 0) (list : Option ListBody) : Type 0 where
  pub stands : ImageHoldsList held list
  pub slot_0 : OnlyBytes 0 (bytes_of held 0) may_leave
  pub slot_1 : OnlyBytes 1 (bytes_of held 1) may_leave
  pub free_0 : IsFree (bytes_of held 0)
  pub free_1 : IsFree (bytes_of held 1)

-- a vacant slot of 30 bytes or more is cut to its first byte
abbrev pub cleared : List ℕ → List ℕ
cleared bytes = if is_vacant bytes && nat_le 30 (length bytes) then take 1 bytes else bytes
