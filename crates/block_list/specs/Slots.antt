-- Two slots, which stand for one list or for none.
use Rattle.std.specs.Prelude.{◌≡◌, ◌≢◌, ◌⊎◌, ℕ, ◌-◌, ◌%◌, ◌<◌, Option, Some, None, List, ◌∷◌, ◌++◌, length, slice_index}
use Rattle.disk_model.specs.Images.{Image, bytes_of}
use Rattle.block_list.specs.Body.{MeetsRules, text_of, successor}
use Rattle.block_list.specs.declared.body.ListBody.{ListBody}

-- the slot's first byte, its gate, is 1
abbrev pub IsOpen : List ℕ → Type 0
IsOpen bytes = slice_index bytes 0 ≡ 1

-- the slot holds no list: it has fewer than 30 bytes, or its gate is closed
abbrev pub IsVacant : List ℕ → Type 0
IsVacant bytes = (length bytes < 30) ⊎ (slice_index bytes 0 ≢ 1)

-- the slot of that number holds this list; bytes after it don't count
pub record SlotHolds (slot : ℕ) (bytes : List ℕ) (body : ListBody) : Type 0 where
  pub rest : List ℕ
  pub encoded : bytes ≡ (1 ∷ text_of body) ++ rest
  pub parity : body.generation % 2 ≡ slot
  pub rules : MeetsRules body

-- What the two slots stand for: none where both are vacant, else the one list, or the one of two whose generation is the
-- successor of the other's. The bytes are those of the slot of that number and those of the other slot.
pub data SlotsHold (slot : ℕ) (bytes others : List ℕ) (list : Option ListBody) : Type 0 where
  none : IsVacant bytes → IsVacant others → list ≡ None → SlotsHold slot bytes others list
  alone : (body : ListBody) → SlotHolds slot bytes body → IsVacant others → list ≡ Some body → SlotsHold slot bytes others list
  other_alone : (body : ListBody) → IsVacant bytes → SlotHolds (1 - slot) others body → list ≡ Some body → SlotsHold slot bytes others list
  newer : (body older : ListBody) → SlotHolds slot bytes body → SlotHolds (1 - slot) others older → body.generation ≡ successor older.generation → list ≡ Some body → SlotsHold slot bytes others list
  other_newer : (body older : ListBody) → SlotHolds slot bytes older → SlotHolds (1 - slot) others body → body.generation ≡ successor older.generation → list ≡ Some body → SlotsHold slot bytes others list

-- what an image stands for: slot 0 is file 0, and slot 1 is file 1
abbrev pub ImageHoldsList : Image → Option ListBody → Type 0
ImageHoldsList image list = SlotsHold 0 (bytes_of image 0) (bytes_of image 1) list

-- the generation that comes after a list, and the first one
abbrev pub IsNext : ℕ → Option ListBody → Type 0
IsNext generation None = generation ≡ 0
IsNext generation (Some body) = generation ≡ successor body.generation
