-- A list in bytes as contracts see it, ready to be written into the slot of its generation.
use Rattle.std.specs.Prelude.{ℕ, List}

-- the list's generation, its bytes after the gate, and how many bytes there is room for
pub record ListText : Type 0 where
  pub generation : ℕ
  pub text : List ℕ
  pub room : ℕ
