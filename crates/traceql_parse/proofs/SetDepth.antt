-- How deep spansets may be nested, and the order in which their functions call each other at one depth.
use Rattle.std.proofs.Common.{◌≡◌, ℕ, zero, suc, Some, None, refl}
use Rattle.traceql_syntax.specs.declared.query.SpansetLevel.{SpansetLevel}
use Rattle.traceql_syntax.specs.declared.query.SpansetLevel.TheVariants as set_level
use Rattle.traceql_parse.specs.Descent.{sets, sets_below}

abbrev pub set_rank : SpansetLevel → ℕ
set_rank set_level.Structure = 0
set_rank set_level.Union = 3

pub sets_below_none : (n : ℕ) → n ≡ 0 → sets_below n ≡ None
unfolding sets_below
sets_below_none zero h = refl
sets_below_none (suc n) h = cc

pub sets_below_some : (n m : ℕ) → n ≡ suc m → sets_below n ≡ Some (sets m (sets_below m) set_level.Union)
unfolding sets_below
sets_below_some n m h = rw h refl
