use Rattle.std.proofs.Common.{List, ◌∷◌, ◌+◌, ap, subst, sym, ◌∙◌, refl, arith, drop}
use Rattle.std.proofs.lemmas.List.{drop_more, length-drop}
use Rattle.span_types.specs.declared.spans.Row.{Row}
use Rattle.block_build.specs.Merging.{GoneOver}
use Rattle.block_build.proofs.TraceByTrace.{ends, starts}
use Rattle.block_build.proofs.order.firsts_by_trace.Goals as goal

pub loop-row-init : goal.loop-row-init
loop-row-init c =
    starts c.args.rows.now c.new-group.result.items (drop 0 c.args.rows.now) c.in_ok-firsts.firsts.items c.new-group.ensures.items refl c.in_ok-firsts.ensures.items c.requires

pub loop-row-preserved : goal.loop-row-preserved
loop-row-preserved c =
    c.in_ok-take_row.ensures c.args.rows.now (drop (c.loop-row.row-index + 1) c.args.rows.now)
    (subst (λ (l : List Row). GoneOver c.args.rows.now c.loop-row.group.items l c.loop-row.firsts.items)
    (drop_more c.args.rows.now c.loop-row.row-index c.row-item.result (omega (arith, c.loop-row-test.true)) ∙ ap (λ (r : Row). r ∷ drop (c.loop-row.row-index + 1) c.args.rows.now) (sym c.row-item.is)) c.loop-row.invariant)

pub returns : goal.returns
returns c =
    ends c.args.rows.now c.loop-row.group.items (drop c.loop-row.row-index c.args.rows.now) c.loop-row.firsts.items c.settle.new.firsts.items
    (let size = length-drop c.loop-row.row-index c.args.rows.now in omega (arith, size, c.loop-row-test.false)) c.loop-row.invariant c.in_ok-settle.ensures.added
