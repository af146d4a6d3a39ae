-- A new store: its list, and what its disk holds.
use Rattle.std.specs.Prelude.{◌≡◌, [], ◌∷◌}
use Rattle.disk_model.specs.Images.{Image}
use Rattle.block_list.specs.declared.body.ListBody.{ListBody}
use Rattle.store_model.specs.History.{History, count_of}
use Rattle.store_model.specs.Laws.{AgreesOn}
use Rattle.store_images.specs.Stored.{ImageStandsFor, IsTidy}
use Rattle.store_images.specs.Settled.{Tail, IsSettled}

-- a history without rows and entries
pub record IsEmptyHistory (h : History) : Type 0 where
  pub no_rows : AgreesOn [] h
  pub no_entries : count_of h ≡ 0

-- the list of a new store: one segment, file 2
abbrev pub new_list : ListBody
new_list = record {
  generation = 0;
  next_file = 3;
  floor = 0;
  segments = record { file = 2; first = 0 } ∷ [];
  blocks = [];
  loose = [];
}

-- its segment, which has no record
abbrev pub new_tail : Tail
new_tail = record { file = 2; first = 0; count = 0; gate = 1 }

-- the image stands for each empty history and for no other, and is tidy
pub record StoresNothing (image : Image) : Type 0 where
  pub stands : (h : History) → IsEmptyHistory h → ImageStandsFor image h
  pub only : (h : History) → ImageStandsFor image h → IsEmptyHistory h
  pub tidy : IsTidy image

-- the disk of a new store
abbrev pub IsNewStore : Image → (Image → Type 0) → Type 0
IsNewStore held may_leave = (h : History) → IsEmptyHistory h → IsSettled held may_leave new_list [] new_tail h
