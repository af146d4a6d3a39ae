-- What is stored over requests, from a moment on at which a core stood for a history.
use Rattle.std.specs.Prelude.{◌≡◌}
use Rattle.disk_model.specs.Images.{Image}
use Rattle.disk_model.specs.declared.disk.Device.{Ghosts}
use Rattle.store_core.specs.Cores.{CoreStandsFor, unsure_of}
use Rattle.store_core.specs.Stood.{StoodFor}
use Rattle.store_core.specs.declared.store.Core.{Core}
use Rattle.store_images.specs.Stored.{MayStandFor}
use Rattle.store_model.specs.History.{History, count_of}
use Rattle.store_model.specs.Step.{Machine}

-- The core stands for a store with this history.
abbrev pub HasHistory : {D : Type 0} → Ghosts D → Core D → History → Type 0
HasHistory g core h = (m : Machine) × CoreStandsFor g core m × (m.history ≡ h)

-- A core went on from one history to another. At each moment in between a crash left all of the first one: its image stands for
-- the later one at some length from there on, or for it and then the push whose call failed. Now a crash leaves all of the later.
pub record KeepsFrom {D : Type 0} (g : Ghosts D) (old new : Core D) (h later : History) : Type 0 where
  pub stands : HasHistory g new later
  pub any_moment : (image : Image) → g.left_since new.disk (g.moment old.disk) image
      → StoodFor (count_of h) later (unsure_of new.state) image
  pub now : (image : Image) → g.may_leave new.disk image → MayStandFor later (unsure_of new.state) image
