use Rattle.std.proofs.Common.{Vec, Global, ◌∙◌, ap, subst, sym, take}
use Rattle.std.specs.List.{flat_map}
use Rattle.rayon.specs.Lists.{chunks_of}
use Rattle.rayon.proofs.ToStd.{chunks_of-concat}
use Rattle.spanset_eval.specs.declared.results.TraceResult.{TraceResult}
use Rattle.traceql_syntax.specs.Trees.{query_tree}
use Rattle.search_answer.specs.InRange.{rows_of_each}
use Rattle.search_answer.specs.Parts.{AreFirstAnswers}
use Rattle.trace_fanout.proofs.Firsts.{parts_first}
use Rattle.trace_fanout.proofs.windows.window_results.Goals as goal

pub returns : goal.returns
returns g c =
    let ps = c.args.checked.now.patterns in
    let q = query_tree c.args.checked.now.query in
    let bounds = c.args.bounds in
    let traces = c.args.traces.now in
    let size = c.part_len.result in
    let parts = c.in_ok-parts.parts.items in
    let whole = subst (λ ts. AreFirstAnswers ps q bounds (rows_of_each ts) (take bounds.limit (flat_map (λ (found : Vec TraceResult Global). found.items) parts)))
    (chunks_of-concat size traces c.part_len.ensures) (parts_first ps q bounds (chunks_of size traces) parts c.in_ok-parts.ensures) in
    subst (λ l. AreFirstAnswers ps q bounds (rows_of_each traces) l) (sym (c.truncate.ensures.items ∙ ap (take bounds.limit) c.in_ok-found.ensures)) whole
