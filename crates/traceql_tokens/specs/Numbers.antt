-- Numbers and durations. A duration is parts that are added; a fraction of a part may be of any length, so sums are
-- compared after both sides are multiplied by a power of ten.
use Rattle.std.specs.Prelude.{◌≡◌, ◌≢◌, ℕ, ◌+◌, ◌-◌, ◌*◌, ◌^◌, ◌≤◌, max, List, [], ◌∷◌, ◌++◌, length}
use Rattle.std.specs.List.{flat_map, AllByRecursion}
use Rattle.traceql_tokens.specs.Bytes.{AreDigits, decimal}
use Rattle.traceql_tokens.specs.Fixed.{unit_text, unit_nanos}
use Rattle.traceql_tokens.specs.declared.units.TimeUnit.{TimeUnit}

-- the least number that is out of range
abbrev pub LIMIT : ℕ
LIMIT = 2 ^ 63

-- decimal digits, at least one
abbrev pub IsDigitRun : List ℕ → Type 0
IsDigitRun text = AreDigits text × (text ≢ [])

-- a part of a duration: digits, digits after a dot or none, and a unit
pub record Part : Type 0 where
  pub whole : List ℕ
  pub fraction : List ℕ
  pub unit : TimeUnit

-- a fraction as it is written: nothing where it has no digits
abbrev pub fraction_text : List ℕ → List ℕ
fraction_text [] = []
fraction_text (d ∷ ds) = 46 ∷ (d ∷ ds)

abbrev pub part_text : Part → List ℕ
part_text p = p.whole ++ (fraction_text p.fraction ++ unit_text p.unit)

abbrev pub IsPart : Part → Type 0
IsPart p = IsDigitRun p.whole × AreDigits p.fraction

-- the most digits after a dot
abbrev pub places : List Part → ℕ
places [] = 0
places (p ∷ ps) = max (length p.fraction) (places ps)

-- 10 ^ k times the sum of the parts in nanoseconds, where no part has more than k digits after its dot
abbrev pub scaled : ℕ → List Part → ℕ
scaled k [] = 0
scaled k (p ∷ ps) = decimal (p.whole ++ p.fraction) * unit_nanos p.unit * 10 ^ (k - length p.fraction) + scaled k ps

-- the text is a duration of these parts
pub record IsDuration (text : List ℕ) (ps : List Part) : Type 0 where
  pub each : AllByRecursion IsPart ps
  pub some : ps ≢ []
  pub written : text ≡ flat_map part_text ps

-- the parts are n nanoseconds
abbrev pub AreNanos : List Part → ℕ → Type 0
AreNanos ps n = scaled (places ps) ps ≡ n * 10 ^ places ps

-- the parts are 2 ^ 63 nanoseconds or more
abbrev pub AreTooMany : List Part → Type 0
AreTooMany ps = LIMIT * 10 ^ places ps ≤ scaled (places ps) ps

-- digits, a dot and digits
abbrev pub IsBareDecimal : List ℕ → Type 0
IsBareDecimal text = (whole fraction : List ℕ) × IsDigitRun whole × IsDigitRun fraction × (text ≡ whole ++ 46 ∷ fraction)
