-- A block's file in memory.
use Rattle.std.specs.Prelude.{ℕ, List, [], ◌==◌, if◌then◌else◌}

-- one file with its bytes, which reads are to fail, and how many failed and were made
pub record FileInMemory : Type 0 where
  pub file : ℕ
  pub bytes : List ℕ
  pub failing : List ℕ
  pub faults : ℕ
  pub reads : ℕ

-- the bytes of each file: of one these, all others are empty
abbrev pub file_of : FileInMemory → ℕ → List ℕ
file_of memory file = if file == memory.file then memory.bytes else []
