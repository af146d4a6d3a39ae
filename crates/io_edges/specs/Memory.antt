-- What contracts see of source, sink and clock in memory, and how their counts rise.
use Rattle.std.specs.Prelude.{ℕ, ◌+◌, ◌-◌, ◌^◌, List, min}

-- One more than a count, which saturates at its type's end.
abbrev pub one_more : ℕ → ℕ
one_more count = min (count + 1) (2 ^ 64 - 1)

-- A source in memory: the bytes that remain, the calls that are to fail, the number of calls made, and the count of
-- faults.
pub record SourceState : Type 0 where
  pub left : List ℕ
  pub failing : List ℕ
  pub calls : ℕ
  pub faults : ℕ

-- A sink in memory: the bytes taken, the calls that are to fail, the number of calls made, the count of faults, and how
-- many of the faults were refused growths.
pub record SinkState : Type 0 where
  pub taken : List ℕ
  pub failing : List ℕ
  pub calls : ℕ
  pub faults : ℕ
  pub starved : ℕ
