-- Private mechanism: where the reader stands, if reading goes on from there.
use Rattle.std.specs.Prelude.{◌≡◌, Ok}
use Rattle.byte_fields.specs.Reading.{Stand}
use Rattle.block_columns.specs.ColumnReadings.{Read, Spot}

-- If reading gives something from the old place on, whatever was counted before, it stands at the new place, and what it gives is so.
pub record Lands {A : Type 0} (so : A → Type 0) (read : Read A) (old new : Stand) : Type 0 where
  pub lands : (s t : Spot) (x : A) → s.stand ≡ old → read s ≡ Ok (x, t) → (t.stand ≡ new) × so x

-- Nothing is said of what it gives.
abbrev pub Leaps : {A : Type 0} → Read A → Stand → Stand → Type 0
Leaps {A} read old new = Lands {A = A} (λ _. Unit {0}) read old new

-- It gives this.
abbrev pub Keeps : {A : Type 0} → Read A → Stand → A → Stand → Type 0
Keeps {A} read old seen new = Lands {A = A} (λ x. x ≡ seen) read old new

-- If reading gives something from the old place on, it is so.
pub record Shows {A : Type 0} (so : A → Type 0) (read : Read A) (old : Stand) : Type 0 where
  pub shows : (s t : Spot) (x : A) → s.stand ≡ old → read s ≡ Ok (x, t) → so x
