use Rattle.std.proofs.Common.{◌≡◌, ◌<◌, ◌++◌, ◌∙◌, [], ◌∷◌, map, take, length, refl, sym, subst, ap, arith}
use Rattle.std.proofs.lemmas.List.{map_more}
use Rattle.std.proofs.lemmas.Result.{err_from_is_err_and}
use Rattle.traceql_syntax.specs.Trees.{query_tree}
use Rattle.traceql_types.specs.Asked.{asked_patterns}
use Rattle.traceql_types.specs.declared.asked.Asked.{Asked}
use Rattle.traceql_types.specs.Checks.{Ascends}
use Rattle.traceql_types.specs.Shown.{shown}
use Rattle.traceql_types.proofs.Calls.{leads-on, refused-before, refused-last, called-step, called-found, called-at_end, called-start, called-starved, ascends-taken}
use Rattle.traceql_types.proofs.Made.{cause-at_end, first-at_end, after_made-at_end, found-at_end, shown-taken, stands-step, made-if-none, stands-start, first_is_of_kinds}
use Rattle.traceql_types.proofs.checked.make_all.Goals as goal

pub loop-pattern-preserved : goal.loop-pattern-preserved
loop-pattern-preserved g c =
    let maker = g.P.PatternMaker in
    let items = c.as_slice-pattern-items.result.now in
    let within : c.loop-pattern.pattern-index < length items = omega arith in
    let old = c.loop-pattern.invariant in
    let step = c.in_ok-first.ensures.step in
    record {
      stands =
          rw (map_more shown items c.loop-pattern.pattern-index c.pattern-item.result within, ← c.pattern-item.is)
          (stands-step _ _ _ _ _ _ _ _ _ step.0
          (λ t was. refused-before maker.makes _ _ _ t step.0 was step.1)
          (λ is. refused-last maker.makes _ _ _ _ old.called.0 step.0 old.called.1 step.1 is)
          step.2 old.stands);
      called =
          rw (map_more shown items c.loop-pattern.pattern-index c.pattern-item.result within, ← c.pattern-item.is) (
            old.called.0 ++ step.0,
            leads-on maker.makes _ _ _ old.called.0 step.0 old.called.1 step.1,
            called-step _ _ _ _ _ _ old.called.0 step.0 (made-if-none _ _ _ _ _ old.stands) step.2 old.called.2,
          );
    }

pub returns-clause-cause : goal.returns-clause-cause
returns-clause-cause g c =
    let items = c.as_slice-pattern-items.result.now in
    let all : map shown (take c.loop-pattern.pattern-index items) ≡ asked_patterns (query_tree c.args.query.now) =
    shown-taken items c.loop-pattern.pattern-index c.loop-pattern-test.false ∙ ap (map shown) c.as_slice-pattern-items.ensures.value ∙ c.in_ok-asked.ensures in
    let found = found-at_end _ _ _ _ _ c.in-Some.refusal _ c.in-Some.is all c.loop-pattern.invariant.stands in
    cause-at_end (query_tree c.args.query.now) _ _ _ c.query_refusal-first.ensures found.cause

pub returns-clause-first : goal.returns-clause-first
returns-clause-first g c =
    let items = c.as_slice-pattern-items.result.now in
    let all : map shown (take c.loop-pattern.pattern-index items) ≡ asked_patterns (query_tree c.args.query.now) =
    shown-taken items c.loop-pattern.pattern-index c.loop-pattern-test.false ∙ ap (map shown) c.as_slice-pattern-items.ensures.value ∙ c.in_ok-asked.ensures in
    let found = found-at_end _ _ _ _ _ c.in-Some.refusal _ c.in-Some.is all c.loop-pattern.invariant.stands in
    first-at_end (query_tree c.args.query.now) _ _ c.query_refusal-first.ensures found.first

pub returns-clause-after_made : goal.returns-clause-after_made
returns-clause-after_made g c =
    let items = c.as_slice-pattern-items.result.now in
    let all : map shown (take c.loop-pattern.pattern-index items) ≡ asked_patterns (query_tree c.args.query.now) =
    shown-taken items c.loop-pattern.pattern-index c.loop-pattern-test.false ∙ ap (map shown) c.as_slice-pattern-items.ensures.value ∙ c.in_ok-asked.ensures in
    let found = found-at_end _ _ _ _ _ c.in-Some.refusal _ c.in-Some.is all c.loop-pattern.invariant.stands in
    after_made-at_end (query_tree c.args.query.now) _ found.after_made

pub returns-clause-asked : goal.returns-clause-asked
returns-clause-asked g c =
    let items = c.as_slice-pattern-items.result.now in
    let all : map shown (take c.loop-pattern.pattern-index items) ≡ asked_patterns (query_tree c.args.query.now) =
    shown-taken items c.loop-pattern.pattern-index c.loop-pattern-test.false ∙ ap (map shown) c.as_slice-pattern-items.ensures.value ∙ c.in_ok-asked.ensures in
    let old = c.loop-pattern.invariant.called in (
      old.0,
      old.1,
      called-at_end (query_tree c.args.query.now) c.in-Some.refusal old.0
          (called-found _ (asked_patterns (query_tree c.args.query.now)) c.loop-pattern.first c.in-Some.refusal _ old.0 c.in-Some.is all old.2),
    )

pub loop-pattern-init : goal.loop-pattern-init
loop-pattern-init g c = record {
  stands = stands-start c.query_refusal-first.result _ _ c.new-made.ensures.items;
  called = ([], refl, called-start c.query_refusal-first.result _ c.new-made.ensures.items (first_is_of_kinds (query_tree c.args.query.now) c.query_refusal-first.result c.query_refusal-first.ensures));
}

pub returns-in_err-first-clause-asked : goal.returns-in_err-first-clause-asked
returns-in_err-first-clause-asked g c =
    let items = c.as_slice-pattern-items.result.now in
    let within : c.loop-pattern.pattern-index < length items = omega arith in
    let all : map shown items ≡ asked_patterns (query_tree c.args.query.now) = ap (map shown) c.as_slice-pattern-items.ensures.value ∙ c.in_ok-asked.ensures in
    let p = err_from_is_err_and c.from_residual-in_err-first.result c.from_residual-in_err-first.ensures.1 in
    let step = c.in_err-first.ensures.step in
    let old = c.loop-pattern.invariant.called in (
      old.0 ++ step.0,
      leads-on g.P.PatternMaker.makes _ _ _ old.0 step.0 old.1 step.1,
      rw (p.1, p.2) (λ asc.
          called-starved _ (shown c.pattern-item.result) _ _ old.0 step.0 (made-if-none _ _ _ _ _ c.loop-pattern.invariant.stands) step.2.0 step.2.1 old.2
          (subst (λ (a : Asked). Ascends (map shown (take c.loop-pattern.pattern-index items) ++ shown a ∷ [])) (sym c.pattern-item.is)
          (ascends-taken items c.loop-pattern.pattern-index c.pattern-item.result within (subst Ascends (sym all) asc)))),
    )
