use Rattle.std.proofs.Common.{◌≡◌, ◌+◌, ◌++◌, ◌∷◌, [], take, subst, sym, ap, ◌∙◌}
use Rattle.std.proofs.lemmas.List.{take_all, take_more}
use Rattle.traceql_syntax.specs.Trees.{query_tree}
use Rattle.traceql_types.specs.Asked.{asked_patterns}
use Rattle.traceql_types.specs.Checks.{AreMade}
use Rattle.traceql_value.specs.Matchers.{AreSearches, all_known}
use Rattle.traceql_value.proofs.Placing.{found_by_place}
use Rattle.traceql_value.proofs.Searching.{EachSearchesFor-first, SearchFor-first}
use Rattle.traceql_value.proofs.matchers.Matchers.of.Goals as goal

pub loop-pattern-preserved : goal.loop-pattern-preserved
loop-pattern-preserved c =
    let ps = c.as_slice-patterns.result.now in
    let i = c.loop-pattern.pattern-index in
    let p = c.pattern-item.result in
    let more : take (i + 1) ps ≡ take i ps ++ p ∷ [] = take_more ps i p c.loop-pattern-test.true ∙ ap (λ q. take i ps ++ q ∷ []) (sym c.pattern-item.is) in
    subst (λ qs. AreSearches qs (all_known c.add_search.new.searches.items) c.add_search.new.numbers) (sym more)
    (c.in_ok-add_search.ensures (take i ps) c.loop-pattern.invariant)

pub returns-clause-placed : goal.returns-clause-placed
returns-clause-placed c =
    let checked = c.args.checked.now in
    let asked = asked_patterns (query_tree checked.query) in
    let ps = c.as_slice-patterns.result.now in
    let searches = all_known c.loop-pattern.searches.items in
    let numbers = c.loop-pattern.numbers in
    let all : AreSearches ps searches numbers =
    subst (λ qs. AreSearches qs searches numbers) (take_all c.loop-pattern.pattern-index ps c.loop-pattern-test.false) c.loop-pattern.invariant in
    found_by_place asked ps searches numbers c.in_ok-places.places (subst (AreMade asked) (sym c.as_slice-patterns.ensures) checked.made) all c.in_ok-places.ensures

pub invariant_of-result : goal.invariant_of-result
invariant_of-result c =
    let ps = c.as_slice-patterns.result.now in
    let searches = all_known c.loop-pattern.searches.items in
    let numbers = c.loop-pattern.numbers in
    let all : AreSearches ps searches numbers =
    subst (λ qs. AreSearches qs searches numbers) (take_all c.loop-pattern.pattern-index ps c.loop-pattern-test.false) c.loop-pattern.invariant in
    record {
      tied = SearchFor-first ps searches numbers all;
      each = EachSearchesFor-first ps searches numbers all;
    }
