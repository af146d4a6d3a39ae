-- Private mechanism. The running sum of a duration's parts, in decimal columns.
use Rattle.std.specs.Prelude.{◌≡◌, ℕ, ◌+◌, ◌*◌, ◌^◌, ◌<◌, min, List, length, fold, All}
use Rattle.traceql_tokens.specs.Numbers.{LIMIT, Part as ThePart, places, scaled}
use Rattle.traceql_tokens.specs.declared.numbers.Sum.{Sum}
use Rattle.traceql_tokens.specs.declared.numbers.Part.{Part}

-- decimal digits as numbers
abbrev pub AreColumns : List ℕ → Type 0
AreColumns columns = All (λ c. c < 10) columns

-- the number that they stand for
abbrev pub column_value : List ℕ → ℕ
column_value columns = fold (λ n c. 10 * n + c) 0 columns

-- a part without where it lies in memory
abbrev pub part_of : Part → ThePart
part_of p = record { whole = p.whole.now; fraction = p.fraction.now; unit = p.unit }

-- the sum is that of these parts: whole nanoseconds up to 2 ^ 63, and as many columns as the longest fraction has digits
pub record Holds (s : Sum) (ps : List ThePart) : Type 0 where
  pub carried : ℕ
  pub whole : s.whole ≡ min carried LIMIT
  pub depth : length s.columns.items ≡ places ps
  pub columns : AreColumns s.columns.items
  pub total : carried * 10 ^ places ps + column_value s.columns.items ≡ scaled (places ps) ps
