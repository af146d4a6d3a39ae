-- Which bytes are no text, or end within one.
use Rattle.std.specs.Prelude.{◌≡◌, ℕ, ◌^◌, ◌<◌, ◌⊎◌, List, ◌++◌, length}
use Rattle.std.specs.Str.{IsUtf8}
use Rattle.byte_fields.specs.Spelling.{var_bytes, text_bytes}
use Rattle.byte_fields.specs.Numbers.{EndsInNumber}

-- a length, and fewer bytes than it says
pub record LacksBytes (bytes : List ℕ) : Type 0 where
  pub promised : ℕ
  pub there : List ℕ
  pub fits : promised < 2 ^ 64
  pub parts : bytes ≡ var_bytes promised ++ there
  pub fewer : length there < promised

-- the bytes end within the length of a text, or within its bytes
abbrev pub EndsInText : List ℕ → Type 0
EndsInText bytes = EndsInNumber 9 bytes ⊎ LacksBytes bytes

-- a length and so many bytes, which are not UTF-8
pub record IsNoText (bytes : List ℕ) : Type 0 where
  pub field : List ℕ
  pub rest : List ℕ
  pub fits : length field < 2 ^ 64
  pub parts : bytes ≡ text_bytes field ++ rest
  pub other : IsUtf8 field → ⊥
