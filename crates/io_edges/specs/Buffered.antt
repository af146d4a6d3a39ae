-- What contracts see of the buffer between a source and the lines.
use Rattle.std.specs.Prelude.{ℕ, List}

-- The bytes that weren't looked at yet, and how many bytes were taken in all.
pub record Buffered : Type 0 where
  pub pending : List ℕ
  pub taken : ℕ
