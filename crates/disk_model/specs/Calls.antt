-- What a run of calls makes of a disk's counts, and what it leaves alone.
use Rattle.std.specs.Prelude.{◌≡◌, ℕ, ◌^◌, ◌<◌, ◌≤◌, Result, IsOk, IsErr, IsErrOf}
use Rattle.disk_model.specs.Counts.{Raised, MakesCalls}
use Rattle.disk_model.specs.Images.{Image}
use Rattle.disk_model.specs.declared.disk.Device.{Ghosts}

-- Time passes: no moment is undone, and what a crash might have left since a moment it might still have left.
pub record Passes {D : Type 0} (g : Ghosts D) (old new : D) : Type 0 where
  pub later : g.moment old ≤ g.moment new
  pub keeps : (start : ℕ) (image : Image) → start ≤ g.moment old → g.left_since old start image → g.left_since new start image

-- A run that ends with its first failed call: no call failed if it is fine, and just one if it failed. If the last byte of its
-- writes is to end at `end` and that is below 2^63, it makes no far write. Whether the disk shows its bytes stays.
pub record Counts {D : Type 0} (g : Ghosts D) (end : ℕ) (fine failed : Type 0) (old new : D) : Type 0 where
  pub time : Passes g old new
  pub telling : g.tells new ≡ g.tells old
  pub later : g.faults old ≤ g.faults new
  pub quiet : fine → g.faults new ≡ g.faults old
  pub fault : failed → Raised (g.faults old) (g.faults new)
  pub near : end < 2 ^ 63 → g.far_writes new ≡ g.far_writes old

-- A run of at most so many calls, and of just so many if it succeeds, none of them a read. It ends with its first failed
-- call, and makes no far write if the last byte of its writes is to end at `end` and that is below 2^63.
pub record Calls {D T E : Type 0} (g : Ghosts D) (count end : ℕ) (old new : D) (result : Result T E) : Type 0 where
  pub time : Passes g old new
  pub telling : g.tells new ≡ g.tells old
  pub later : g.faults old ≤ g.faults new
  pub quiet : IsOk result → g.faults new ≡ g.faults old
  pub fault : IsErr result → Raised (g.faults old) (g.faults new)
  pub near : end < 2 ^ 63 → g.far_writes new ≡ g.far_writes old
  pub calls : MakesCalls count (g.calls old) (g.calls new) result
  pub no_read : g.reads new ≡ g.reads old

-- A run that can end otherwise than by a failed call: it answers `fault` just where a call failed.
abbrev pub CountsFault : {D T E : Type 0} → Ghosts D → ℕ → E → D → D → Result T E → Type 0
CountsFault g end fault old new result = Counts g end (IsErrOf result fault → ⊥) (IsErrOf result fault) old new
