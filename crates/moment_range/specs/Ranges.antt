-- The moments that a search asks for: from one on, and before another if it has an end.
use Rattle.std.specs.Prelude.{ℕ, Bool, true, ◌&&◌, nat_le, nat_lt, Option, Some, None}
use Rattle.moment_range.specs.declared.range.Range.{Range}

-- the moment is before the end, where there is one
abbrev pub is_before : Option ℕ → ℕ → Bool
is_before None moment = true
is_before (Some until) moment = nat_lt moment until

-- the moment is in the range
abbrev pub is_within : Range → ℕ → Bool
is_within range moment = nat_le range.from moment && is_before range.until moment
