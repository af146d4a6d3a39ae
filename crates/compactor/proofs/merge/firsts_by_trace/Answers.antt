use Rattle.std.proofs.Common.{List, subst, sym, ◌∙◌}
use Rattle.span_types.specs.declared.spans.Row.{Row}
use Rattle.span_types.specs.First.{IsFirstOf}
use Rattle.block_build.specs.Merging.{GoneOver}
use Rattle.block_build.proofs.TraceByTrace.{ends, starts}
use Rattle.compactor.proofs.merge.firsts_by_trace.Goals as goal

pub loop-row-init : goal.loop-row-init
loop-row-init c =
    starts c.args.rows c.new-group.result.items c.into_iter-row-iterator.result.rest.items c.in_ok-firsts.firsts.items
    c.new-group.ensures.items (c.into_iter-row-iterator.ensures.into_iter_gives.0 ∙ c.into_vec-row-items.ensures) c.in_ok-firsts.ensures.items c.requires

pub loop-row-preserved : goal.loop-row-preserved
loop-row-preserved c =
    c.in_ok-take_row.ensures c.args.rows c.next.new.self.rest.items
    (subst (λ (l : List Row). GoneOver c.args.rows c.loop-row.group.items l c.loop-row.firsts.items) c.in-Some.ensures.steps.0 c.loop-row.invariant)

pub returns : goal.returns
returns c =
    subst (IsFirstOf c.args.rows) (sym c.of.ensures)
    (ends c.args.rows c.loop-row.group.items c.loop-row.row-iterator.rest.items c.loop-row.firsts.items c.settle.new.firsts.items
    (sym c.loop-row.row-iterator.rest.ok.0 ∙ c.in-None.ensures.steps.0) c.loop-row.invariant c.in_ok-settle.ensures.added)
