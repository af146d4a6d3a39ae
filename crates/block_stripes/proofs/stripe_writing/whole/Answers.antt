use Rattle.std.proofs.Common.{List, ℕ, subst}
use Rattle.byte_fields.specs.Reading.{AreBytes}
use Rattle.block_stripes.proofs.stripe_writing.whole.Goals as goal

pub returns-clause-fit : goal.returns-clause-fit
returns-clause-fit c = subst (λ (l : List ℕ). AreBytes l) c.as_slice.ensures c.each_fits.ensures
