use Rattle.std.proofs.Common.{Bor, sym, ◌∙◌}
use Rattle.block_columns.proofs.Guesses.{seen_laws, number_at_guess, there_at_guess}
use Rattle.block_columns.proofs.pages.is_at.Goals as goal

pub returns-clause-number : goal.returns-clause-number
returns-clause-number g c = λ is. number_at_guess _ (seen_laws (λ (k : Bor _). k.now) g.T.PartialEq.eq g.met.T.Eq.laws) c.args.values.now.keys c.args.number c.args.value c.in-Some.there.now c.len.ensures.unique (sym c.in-Some.ensures.key) (sym c.eq.ensures ∙ is)

pub returns-clause-there : goal.returns-clause-there
returns-clause-there g c = λ is. there_at_guess _ (seen_laws (λ (k : Bor _). k.now) g.T.PartialEq.eq g.met.T.Eq.laws) c.args.values.now.keys c.args.number c.args.value c.in-Some.there.now c.len.ensures.unique (sym c.in-Some.ensures.key) (sym c.eq.ensures ∙ is)
