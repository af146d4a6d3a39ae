-- What a crash may leave, over calls and over time.
use Rattle.std.specs.Prelude.{◌≡◌, ◌⊎◌, ℕ, ◌≤◌, Bool, IsTrue, List, Result, IsErr}
use Rattle.span_types.specs.Faults.{Rose}
use Rattle.disk_model.specs.Images.{Image, bytes_of, Besides, SameBytes}

-- an image that comes from one of these by this step
abbrev pub Reached : (Image → Image → Type 0) → (Image → Type 0) → Image → Type 0
Reached step images image = (origin : Image) × images origin × step origin image

-- each image that may be left now comes from one that might have been left before, by this step
abbrev pub Follows : (Image → Image → Type 0) → (Image → Type 0) → (Image → Type 0) → Type 0
Follows step old new = (image : Image) → new image → Reached step old image

-- each image that may be left now might have been left before
abbrev pub Within : (Image → Type 0) → (Image → Type 0) → Type 0
Within old new = (image : Image) → new image → old image

-- in each image the file has just these bytes
abbrev pub OnlyBytes : ℕ → List ℕ → (Image → Type 0) → Type 0
OnlyBytes file bytes images = (image : Image) → images image → bytes_of image file ≡ bytes

-- Time goes on: a crash since the start might have left what it might have left before, or what it may leave now.
pub record Elapses (before now : ℕ) (past since : ℕ → Image → Type 0) (may_leave : Image → Type 0) : Type 0 where
  pub later : before ≤ now
  pub nothing_else : (start : ℕ) (image : Image) → start ≤ before → since start image → past start image ⊎ may_leave image
  pub keeps : (start : ℕ) (image : Image) → start ≤ before → past start image → since start image

-- A crash at any moment since the old disk leaves an image that has the property.
pub record LeavesOnly {D : Type 0} (moment : D → ℕ) (left_since : D → ℕ → Image → Type 0) (old new : D) (property : Image → Type 0) : Type 0 where
  pub later : moment old ≤ moment new
  pub each : (image : Image) → left_since new (moment old) image → property image
  -- for a run that began earlier
  pub before : (start : ℕ) (image : Image) → start ≤ moment old → left_since new start image → left_since old start image ⊎ property image
  -- what a crash might have left before it might still have left
  pub keeps : (start : ℕ) (image : Image) → start ≤ moment old → left_since old start image → left_since new start image

-- an image that differs in this file alone from one that might have been left, with bytes there that have the property
pub record ButFor (file : ℕ) (property : List ℕ → Type 0) (images : Image → Type 0) (image : Image) : Type 0 where
  pub origin : Image
  pub possible : images origin
  pub besides : Besides file origin image
  pub here : property (bytes_of image file)

-- A run of calls: a crash at any moment of it, or after it, leaves what comes by this step from what a crash might have
-- left at its start.
pub record Run {D : Type 0} (step : Image → Image → Type 0)
    (moment : D → ℕ) (left_since : D → ℕ → Image → Type 0) (may_leave : D → Image → Type 0) (old new : D) : Type 0 where
  pub since : LeavesOnly moment left_since old new (Reached step (may_leave old))
  pub now : Within (Reached step (may_leave old)) (may_leave new)

-- A run of calls that change one file alone. A crash at any moment of it leaves what a crash might have left at its
-- start, but for this file, whose bytes have the first property. After it they have the second one.
pub record RunInFile {D : Type 0} (moment : D → ℕ) (left_since : D → ℕ → Image → Type 0) (may_leave : D → Image → Type 0)
    (file : ℕ) (during after : List ℕ → Type 0) (old new : D) : Type 0 where
  pub since : LeavesOnly moment left_since old new (ButFor file during (may_leave old))
  pub now : Within (ButFor file after (may_leave old)) (may_leave new)

-- A run of calls that change nothing: the disk holds what it held, and a crash at any moment of it, or after it, leaves
-- what it might have left before.
pub record Untouched {D : Type 0} (tells : D → Bool) (held : D → Image) (may_leave : D → Image → Type 0)
    (moment : D → ℕ) (left_since : D → ℕ → Image → Type 0) (old new : D) : Type 0 where
  pub telling : tells new ≡ tells old
  pub same_bytes : IsTrue (tells old) → SameBytes (held old) (held new)
  pub crash : Within (may_leave old) (may_leave new)
  pub any_moment : LeavesOnly moment left_since old new (may_leave old)

-- the count of faults didn't fall, and a call fails only where it rose
pub record HasCause {T E : Type 0} (before now : ℕ) (result : Result T E) : Type 0 where
  pub later : before ≤ now
  pub rose : IsErr result → Rose before now
