-- What it makes of a store to close it and to open it again.
use Rattle.std.specs.Prelude.{◌≡◌, ◌≢◌, ℕ, ◌+◌, Result, Err, IfOk, IfErr, OnErr, IsTrue}
use Rattle.disk_model.specs.Calls.{Counts}
use Rattle.disk_model.specs.declared.disk.Device.{Ghosts}
use Rattle.store_images.specs.Stored.{IsSoundImage}
use Rattle.store_core.specs.Opening.{HasEntries, LeavesAlone, Opened, StoreBreaks}
use Rattle.store_files.specs.Loose.{KeepsDisk}
use Rattle.store_files.specs.declared.error.OpenError.{OpenError}
use Rattle.store_files.specs.declared.error.OpenError.TheVariants.{Fault, NotStore}
use Rattle.store_core.specs.declared.store.Core.{Core}
use Rattle.store_reopen.specs.declared.store.Store.{Store}
use Rattle.store_reopen.specs.declared.store.Store.TheVariants.{Open, Closed}

-- the disk of a store that is open, or of one that is closed
abbrev pub disk_of : {D : Type 0} → Store D → D
disk_of (Open core) = core.disk
disk_of (Closed disk) = disk

-- how many entries a core's history has
abbrev pub entries_of : {D : Type 0} → Core D → ℕ
entries_of core = core.state.segment.first + core.state.segment.count

-- A disk is opened again, or not. Opened, the store is one that was opened on this disk, and the answer is how many entries it has and,
-- whatever its bytes are, how many they have; else it is closed. In either case, whenever a crash comes, what was stored is kept. Refused
-- for another cause than a fault, all bytes are left as they were; and it is refused for its bytes just where they break, and so never if
-- they were a store's. It is refused for a fault just where a call of the disk failed.
pub record Reopens {D : Type 0} (g : Ghosts D) (disk : D) (moment : ℕ) (store : Store D) (result : Result ℕ OpenError) : Type 0 where
  pub opened : IfOk result (λ entries. (core : Core D) × (store ≡ Open core) × Opened g disk moment core × (entries ≡ entries_of core))
  pub closed : OnErr result ((later : D) × (store ≡ Closed later))
  pub kept : KeepsDisk g disk (disk_of store)
  pub left : IfErr result (λ why. IsTrue (g.tells disk) → why ≢ Fault → LeavesAlone g disk (disk_of store))
  pub breaks : IfErr result (λ why. IsTrue (g.tells disk) → (file at : ℕ) → why ≡ NotStore file at → StoreBreaks (g.held disk) file at)
  pub unbroken : IfOk result (λ entries. IsTrue (g.tells disk) → (file at : ℕ) → StoreBreaks (g.held disk) file at → ⊥)
  pub entries : IfOk result (λ entries. IsTrue (g.tells disk) → HasEntries (g.held disk) entries)
  pub sound : IfErr result (λ why. IsTrue (g.tells disk) → IsSoundImage (g.held disk) → (file at : ℕ) → why ≢ NotStore file at)
  pub counts : Counts g 0 (result ≢ Err Fault) (result ≡ Err Fault) disk (disk_of store)
