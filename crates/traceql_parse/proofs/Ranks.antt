-- The order in which the functions over field expressions call each other at one depth.
use Rattle.std.proofs.Common.{◌≡◌, ℕ, zero, suc, Some, None, refl}
use Rattle.traceql_syntax.specs.declared.field.Level.{Level}
use Rattle.traceql_syntax.specs.declared.field.Level.TheVariants as level
use Rattle.traceql_parse.specs.Descent.{readers_over, below}

abbrev pub level_rank : Level → ℕ
level_rank level.Product = 0
level_rank level.Sum = 3
level_rank level.Comparison = 6
level_rank level.Choice = 9

pub below_none : (n : ℕ) → n ≡ 0 → below n ≡ None
unfolding below
below_none zero h = refl
below_none (suc n) h = cc

pub below_some : (n m : ℕ) → n ≡ suc m → below n ≡ Some (readers_over (below m))
unfolding below
below_some n m h = rw h refl
