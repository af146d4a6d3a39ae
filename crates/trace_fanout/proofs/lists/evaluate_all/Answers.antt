use Rattle.std.proofs.Common.{All, List, Vec, Global, ◌∙◌, subst, sym}
use Rattle.std.specs.List.{AllZip, flat_map}
use Rattle.rayon.specs.Lists.{chunks_of}
use Rattle.rayon.proofs.ToStd.{chunks_of-concat}
use Rattle.span_tree.specs.Nodes.{IsOneTrace}
use Rattle.span_types.specs.declared.spans.Row.{Row}
use Rattle.spanset_eval.specs.declared.results.TraceResult.{TraceResult}
use Rattle.traceql_syntax.specs.Trees.{query_tree}
use Rattle.search_answer.specs.Parts.{Answers}
use Rattle.trace_fanout.proofs.Each.{parts_answer}
use Rattle.trace_fanout.proofs.lists.evaluate_all.Goals as goal

pub part_results-requires-clause-one : goal.part_results-requires-clause-one
part_results-requires-clause-one g c κs within = subst (All IsOneTrace) (sym c.as_slice.ensures) c.requires

pub returns : goal.returns
returns g c =
    let ps = c.args.checked.now.patterns in
    let q = query_tree c.args.checked.now.query in
    let traces = c.args.traces.now in
    let size = c.part_len-size.result in
    let parts = c.in_ok-parts.parts.items in
    let each = subst (λ ts. AllZip (λ (part : List (List Row)) (found : Vec TraceResult Global). Answers ps q part found.items) (chunks_of size ts) parts) c.as_slice.ensures c.in_ok-parts.ensures in
    let whole = subst (λ ts. Answers ps q ts (flat_map (λ (found : Vec TraceResult Global). found.items) parts)) (chunks_of-concat size traces c.part_len-size.ensures)
    (parts_answer ps q (chunks_of size traces) parts each) in
    subst (Answers ps q traces) (sym (c.of.ensures ∙ c.in_ok-found.ensures)) whole
