-- The bytes of a log segment: a version, and records after gates.
use Rattle.std.specs.Prelude.{◌≡◌, ◌≢◌, ◌⊎◌, ℕ, ◌<◌, ◌^◌, List, [], ◌∷◌, ◌++◌, length}
use Rattle.std.specs.List.{flat_map, AllByRecursion}
use Rattle.byte_fields.specs.Spelling.{fixed64_bytes}

-- what counts as a record: 1, which opens its gate, and a body after its length
unfoldable pub record_bytes : List ℕ → List ℕ
record_bytes body = 1 ∷ (fixed64_bytes (length body) ++ body)

-- the bytes of a segment up to its last gate
abbrev pub written : List (List ℕ) → List ℕ
written bodies = 1 ∷ flat_map record_bytes bodies

-- eight bytes can tell the length
abbrev pub IsShort : List ℕ → Type 0
IsShort body = length body < 2 ^ 64

-- The records of these bytes are those with these bodies: the byte after them, at this place, opens no further one. It
-- doesn't matter what follows it.
pub record HasBodies (bodies : List (List ℕ)) (gate : ℕ) (bytes : List ℕ) : Type 0 where
  pub shut : ℕ
  pub rest : List ℕ
  pub closed : shut ≢ 1
  pub parts : bytes ≡ written bodies ++ shut ∷ rest
  pub place : gate ≡ length (written bodies)
  pub short : AllByRecursion IsShort bodies

-- the same, wherever that byte stands
abbrev pub IsSegment : List (List ℕ) → List ℕ → Type 0
IsSegment bodies bytes = (gate : ℕ) × HasBodies bodies gate bytes

-- a body after its length, and a byte that opens no further record
unfoldable pub framed : List ℕ → List ℕ
framed body = fixed64_bytes (length body) ++ body ++ 0 ∷ []

-- a record was added or wasn't, and those before it are there
abbrev pub IsEarlierOrWith : List (List ℕ) → List ℕ → List ℕ → Type 0
IsEarlierOrWith bodies body bytes = IsSegment bodies bytes ⊎ IsSegment (bodies ++ body ∷ []) bytes
