use Rattle.std.proofs.Common.{[], ◌∷◌, ◌++◌, ◌∙◌, List, Option, ap, refl, subst, ℕ}
use Rattle.session_meaning.specs.Asked.{IsNextMoment, after_moment}
use Rattle.traceql_types.proofs.Calls.{refuses-none, refuses-on}
use Rattle.trace_shell.proofs.DrillLemmas.{made_holds, made_then}
use Rattle.trace_shell.proofs.drilling.search_all.Goals as goal

pub search-large-requires-after_bounds : goal.search-large-requires-after_bounds
search-large-requires-after_bounds g c = λ κs outlives. made_holds g.D.Device _ _ _ _ _ _ c.search-errors.ensures.asked.3 c.requires

pub search-crossing-requires-after_bounds : goal.search-crossing-requires-after_bounds
search-crossing-requires-after_bounds g c = λ κs outlives. made_holds g.D.Device _ _ _ _ _ _ c.search-large.ensures.asked.3 (made_holds g.D.Device _ _ _ _ _ _ c.search-errors.ensures.asked.3 c.requires)

pub returns : goal.returns
returns g c =
    let one = c.search-errors.ensures.asked in
    let two = c.search-large.ensures.asked in
    let three = c.search-crossing.ensures.asked in
    let first = c.search-errors.ensures.clock in
    let second = c.search-large.ensures.clock ∙ ap after_moment first in
    let third = c.search-crossing.ensures.clock ∙ ap after_moment second in (
      one.0 ∷ two.0 ∷ three.0 ∷ [],
      one.1 ++ (two.1 ++ (three.1 ++ [])),
      refuses-on g.P.PatternMaker.makes _ _ _ one.1 (two.1 ++ (three.1 ++ [])) one.2
          (refuses-on g.P.PatternMaker.makes _ _ _ two.1 (three.1 ++ []) two.2
          (refuses-on g.P.PatternMaker.makes _ _ _ three.1 [] three.2 (refuses-none g.P.PatternMaker.makes _ c.search-crossing.new.patterns c.search-crossing.new.patterns))),
      made_then g.D.Device _ _ _ _ _ _ (one.0 ∷ []) (two.0 ∷ three.0 ∷ []) (c.search-errors.result ∷ []) (c.search-large.result ∷ c.search-crossing.result ∷ []) one.3
          (made_then g.D.Device _ _ _ _ _ _ (two.0 ∷ []) (three.0 ∷ []) (c.search-large.result ∷ []) (c.search-crossing.result ∷ []) two.3 three.3),
      (
        one.1,
        two.1 ++ (three.1 ++ []),
        refl,
        (one.4, one.5, (refl, one.6)),
        (
          two.1,
          three.1 ++ [],
          refl,
          (two.4, subst (λ (o : Option (List ℕ)). IsNextMoment o two.4) first two.5, (refl, two.6)),
          (three.1, [], refl, (three.4, subst (λ (o : Option (List ℕ)). IsNextMoment o three.4) second three.5, (refl, three.6)), (refl, refl)),
        ),
      ),
      third,
    )
