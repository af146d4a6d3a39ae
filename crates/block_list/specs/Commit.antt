-- Where a list may be written, and what its writing leaves.
use Rattle.std.specs.Prelude.{◌≡◌, ◌⊎◌, ℕ, ◌-◌, ◌%◌, ◌<◌, Option, Some, List, ◌∷◌, ◌++◌, length, drop}
use Rattle.disk_model.specs.Images.{Image, bytes_of, Besides}
use Rattle.disk_model.specs.Crash.{OnlyBytes}
use Rattle.block_list.specs.Body.{MeetsRules, text_of, successor}
use Rattle.block_list.specs.Slots.{IsOpen, IsVacant, SlotHolds, ImageHoldsList, IsNext}
use Rattle.block_list.specs.ListText.{ListText}
use Rattle.block_list.specs.declared.body.ListBody.{ListBody}

-- the slot that a list goes to
abbrev pub slot_of : ListText → ℕ
slot_of list = list.generation % 2

-- the prepared list is this body in bytes
pub record IsListText (list : ListText) (body : ListBody) : Type 0 where
  pub generation : list.generation ≡ body.generation
  pub text : list.text ≡ text_of body
  pub rules : MeetsRules body

-- the slot's bytes once the list stands in it after a closed gate; what stood after it before stays
abbrev pub laid : List ℕ → List ℕ → List ℕ
laid text before = (0 ∷ text) ++ drop (length text) (drop 1 before)

-- A list may be laid into the slot of its generation: each slot has one image, which is what a read gives; the list comes
-- after the one that counts, and its slot doesn't hold that one.
pub record CanLay (held : Image) (may_leave : Image → Type 0) (list : ListText) : Type 0 where
  pub slot_0 : OnlyBytes 0 (bytes_of held 0) may_leave
  pub slot_1 : OnlyBytes 1 (bytes_of held 1) may_leave
  pub follows : (old : Option ListBody) × ImageHoldsList held old × IsNext list.generation old
  pub free : IsOpen (bytes_of held (slot_of list)) ⊎ (length (bytes_of held (slot_of list)) < 30)

-- A laid list's gate may be opened: the other slot has one image, which is what a read gives, and the list comes after
-- the one there; in each image its own slot is as it was laid.
pub record CanOpen (held : Image) (may_leave : Image → Type 0) (list : ListText) : Type 0 where
  pub other : OnlyBytes (1 - slot_of list) (bytes_of held (1 - slot_of list)) may_leave
  pub follows : (IsVacant (bytes_of held (1 - slot_of list)) × (list.generation ≡ 0)) ⊎ ((old : ListBody) × SlotHolds (1 - slot_of list) (bytes_of held (1 - slot_of list)) old × (list.generation ≡ successor old.generation))
  pub in_place : (rest : List ℕ) × OnlyBytes (slot_of list) ((0 ∷ list.text) ++ rest) may_leave

-- the image stands for the old list or for the new one
abbrev pub ImageHoldsEither : Option ListBody → ListBody → Image → Type 0
ImageHoldsEither old new image = ImageHoldsList image old ⊎ ImageHoldsList image (Some new)

-- Writing a list into a slot: every other file has what it had in the origin, and the image has the property.
pub record WritesSlot (slot : ℕ) (property : Image → Type 0) (origin image : Image) : Type 0 where
  pub list : property image
  pub besides : Besides slot origin image
