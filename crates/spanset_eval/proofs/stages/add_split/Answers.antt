use Rattle.std.proofs.Common.{◌≡◌, ◌++◌, ◌∙◌, ap, map}
use Rattle.traceql_value.proofs.Orders.{value_cmp_total}
use Rattle.spanset_eval.specs.InContext.{split_in, value_in}
use Rattle.spanset_eval.specs.Parts.{arranged, part_at, part_group, part_of}
use Rattle.spanset_eval.specs.Stages.{split_by}
use Rattle.spanset_eval.proofs.PartLaws.{split_is}
use Rattle.spanset_eval.proofs.SelectLaws.{on_ok}
use Rattle.spanset_eval.proofs.stages.add_split.Goals as goal

pub returns-clause-found : goal.returns-clause-found
unfolding split_by
returns-clause-found c =
    let f = value_in c.args.context.now c.args.expr.now in
    let g = c.args.group in
    let old = c.args.found.now.items in
    let valued = c.in_ok-valued.valued.items in
    on_ok c.add_parts.result (c.add_parts.new.found.items ≡ old ++ map (part_group g.by) c.in_ok-parts.parts.items)
    (c.add_parts.new.found.items ≡ old ++ split_in c.args.context.now c.args.expr.now g)
    (λ e. e ∙ ap (λ gs. old ++ gs) (split_is value_cmp_total f g.by g.members valued c.in_ok-parts.parts.items
    (c.in_ok-valued.ensures.valued ∙ ap (map (part_at f)) c.as_slice.ensures)
    (c.in_ok-parts.ensures ∙ ap (λ vs. arranged (map part_of vs)) c.as_slice-2.ensures.value)))
    c.add_parts.ensures
