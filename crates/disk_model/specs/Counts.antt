-- What calls make of a disk's counts, and what they leave alone. A count is a number of 64 bits, which saturates.
use Rattle.std.specs.Prelude.{◌≡◌, ℕ, ◌+◌, ◌^◌, ◌<◌, ◌≤◌, Bool, Result, IsOk, IsErr}
use Rattle.disk_model.specs.Script.{raised}

-- the count rose by just so much, but where that would pass its last value
pub record RoseBy (count before now : ℕ) : Type 0 where
  pub later : before ≤ now
  pub at_most : now ≤ before + count
  pub exact : before + count < 2 ^ 64 → now ≡ before + count

-- the run makes at most so many calls, and just so many where it succeeds
pub record MakesCalls {T E : Type 0} (count before now : ℕ) (result : Result T E) : Type 0 where
  pub later : before ≤ now
  pub at_most : now ≤ before + count
  pub all : IsOk result → before + count < 2 ^ 64 → now ≡ before + count

-- the count is one higher, or stands at the last value of its type
pub record Raised (before now : ℕ) : Type 0 where
  pub later : before ≤ now
  pub is : now ≡ raised before

-- A call of a disk: a read, a write with its end, or another one.
pub data Kind : Type 0 where
  Plain : Kind
  Reading : Kind
  Writing : ℕ → Kind

-- the count of reads before and after a call
abbrev pub CountsRead : Kind → ℕ → ℕ → Type 0
CountsRead Plain before now = now ≡ before
CountsRead Reading before now = Raised before now
CountsRead (Writing end) before now = now ≡ before

-- the call is no write that ends too far
abbrev pub IsNear : Kind → Type 0
IsNear Plain = Unit {0}
IsNear Reading = Unit {0}
IsNear (Writing end) = end < 2 ^ 63

-- the call is a write that ends too far
abbrev pub IsFar : Kind → Type 0
IsFar Plain = ⊥
IsFar Reading = ⊥
IsFar (Writing end) = 2 ^ 63 ≤ end

-- One call of a disk: it is counted, among the faults too just where it fails, among the reads just if it is one, and
-- among the far writes just if it is one. Whether the disk shows its bytes stays.
pub record IsOneCall {D T E : Type 0} (tells : D → Bool) (faults calls reads far_writes : D → ℕ)
    (kind : Kind) (old new : D) (result : Result T E) : Type 0 where
  pub telling : tells new ≡ tells old
  pub quiet : IsOk result → faults new ≡ faults old
  pub fault : IsErr result → Raised (faults old) (faults new)
  pub call : Raised (calls old) (calls new)
  pub read : CountsRead kind (reads old) (reads new)
  pub near : IsNear kind → far_writes new ≡ far_writes old
  pub far : IsFar kind → Raised (far_writes old) (far_writes new)
