use Rattle.std.proofs.Common.{◌≡◌, ◌++◌, List, ap, subst, sym, ◌∙◌}
use Rattle.std.specs.List.{AllByRecursion}
use Rattle.span_types.specs.declared.spans.Row.{Row}
use Rattle.block_stripes.specs.StripeReadings.{rows_of}
use Rattle.block_stripes.specs.Stripes.{IsNamed}
use Rattle.block_stripes.proofs.ReadSteps.{named_next, rows_end, rows_go}
use Rattle.block_stripes.proofs.rows.rows_of_cells.Goals as goal

pub loop-one-init : goal.loop-one-init
loop-one-init c =
    let is = c.into_iter-one-iterator.ensures.into_iter_gives.0 in
    (ap (λ (l : List Row). l ++ rows_of c.into_iter-one-iterator.result.rest.items) c.in_ok-rows.ensures.items ∙ ap rows_of is, subst (AllByRecursion IsNamed) (sym is) c.requires)

pub row-requires : goal.row-requires
row-requires c = (named_next c.loop-one.one-iterator.rest.items c.next.new.self.rest.items c.in-Some.one c.in-Some.ensures.steps.0 c.loop-one.invariant.1).0

pub loop-one-preserved : goal.loop-one-preserved
loop-one-preserved c = (
  rows_go c.loop-one.rows.items _ c.loop-one.one-iterator.rest.items c.next.new.self.rest.items c.in-Some.one c.row.result _ c.in-Some.ensures.steps.0 c.row.ensures c.in_ok-push.ensures.items c.loop-one.invariant.0,
  (named_next c.loop-one.one-iterator.rest.items c.next.new.self.rest.items c.in-Some.one c.in-Some.ensures.steps.0 c.loop-one.invariant.1).1,
)

pub returns : goal.returns
returns c = rows_end c.loop-one.rows.items c.loop-one.one-iterator.rest.items _ (sym c.loop-one.one-iterator.rest.ok.0 ∙ c.in-None.ensures.steps.0) c.loop-one.invariant.0
