-- Reading a number in groups of seven bits, from the front.
use Rattle.std.specs.Prelude.{◌≡◌, ℕ, zero, suc, ◌+◌, ◌-◌, ◌*◌, ◌<◌, ◌≤◌, ◌⊎◌, List, [], ◌∷◌, ◌++◌, length, All, Result, Ok, Err, nat_lt, ◌==◌, if◌then◌else◌}
use Rattle.byte_fields.specs.declared.number.NumberFault.{NumberFault}
use Rattle.byte_fields.specs.declared.number.NumberFault.TheVariants.{Short, Long}

-- What a call returned, seen by view, is what reading gives.
abbrev pub Gives : {X Y E : Type 0} → (X → Y) → Result X E → Result Y E → Type 0
Gives view (Ok x) read = read ≡ Ok (view x)
Gives view (Err e) read = read ≡ Err e

-- the number with this lowest group, where the others make the rest; a rest of 0 would be no shortest form
abbrev pub with_low : ℕ → Result (ℕ × List ℕ) NumberFault → Result (ℕ × List ℕ) NumberFault
with_low group (Ok x) = if x.0 == 0 then Err Long else Ok (group - 128 + 128 * x.0, x.1)
with_low group (Err fault) = Err fault

-- The number at the front, and the bytes after it. At most so many groups stand before the last one.
unfoldable pub number_at : ℕ → List ℕ → Result (ℕ × List ℕ) NumberFault
number_at more [] = Err Short
number_at zero (group ∷ rest) = if nat_lt 1 group then Err Long else Ok (group, rest)
number_at (suc more) (group ∷ rest) = if nat_lt group 128 then Ok (group, rest) else with_low group (number_at more rest)

-- The bytes end within a number: each of them says that another one follows, and there are no more than so many.
pub record EndsInNumber (more : ℕ) (bytes : List ℕ) : Type 0 where
  pub few : length bytes ≤ more
  pub follow : All (λ b. 128 ≤ b) bytes

-- The first group that no other one follows is 0 and has another before it, or it is the last that may stand and
-- goes past the sixty-fourth bit.
pub record IsLongNumber (more : ℕ) (bytes : List ℕ) : Type 0 where
  pub front : List ℕ
  pub last : ℕ
  pub rest : List ℕ
  pub parts : bytes ≡ front ++ last ∷ rest
  pub follow : All (λ b. 128 ≤ b) front
  pub long : ((0 < length front) × (length front ≤ more) × (last ≡ 0)) ⊎ ((length front ≡ more) × (1 < last))
