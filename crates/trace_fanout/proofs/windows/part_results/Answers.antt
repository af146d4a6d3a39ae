use Rattle.std.proofs.Common.{◌≡◌, All, List, Vec, Global, ◌∙◌, ap, arith, max, subst, sym}
use denote.Param.Send.{sendable}
use Rattle.std.proofs.Crossing.{crosses}
use Rattle.rayon.specs.Lists.{chunks_of, chunks_size, chunks_slice, min_len_base}
use Rattle.span_tree.specs.Nodes.{IsOneTrace}
use Rattle.spanset_eval.specs.declared.results.TraceResult.{TraceResult}
use Rattle.traceql_syntax.specs.Trees.{query_tree}
use Rattle.traceql_types.proofs.Crossing.{checked-sync}
use Rattle.search_answer.specs.declared.traces.TraceInRange.{TraceInRange}
use Rattle.search_answer.specs.InRange.{rows_of_each}
use Rattle.search_answer.specs.Parts.{AreFirstAnswers}
use Rattle.trace_fanout.proofs.Crossing.{row-sync}
use Rattle.trace_fanout.proofs.Chunks.{collected, in_each_chunk, these_chunks}
use Rattle.trace_fanout.proofs.windows.part_results.Goals as goal

pub collect-requires-clause-ready : goal.collect-requires-clause-ready
collect-requires-clause-ready g c κs within =
    let one : max c.args.size 1 ≡ c.args.size = grind (arith, c.requires.some) in
    let each = in_each_chunk (λ (t : TraceInRange). IsOneTrace t.rows.now) c.args.size c.args.traces.now c.requires.some c.requires.one in
    rw (c.map.ensures.base, c.map.ensures.f, c.with_min_len.ensures.base, c.par_chunks.ensures.size, c.par_chunks.ensures.slice, one)
    (λ k d low part is. (subst (λ (l : List TraceInRange). All (λ (t : TraceInRange). IsOneTrace t.rows.now) l) (sym is) (each k d low), λ y p. tt))

-- the closure holds a reference to the query, which threads may share
pub map-requires-send-F : goal.map-requires-send-F
map-requires-send-F g c κs within = search (checked-sync, sendable, crosses) depth 80 fits 100000

pub map-requires-sync-F : goal.map-requires-sync-F
map-requires-sync-F g c κs within = search (checked-sync, sendable, crosses) depth 80 fits 100000

pub collect-requires-send-Self : goal.collect-requires-send-Self
collect-requires-send-Self g c κs within = search (row-sync, checked-sync, sendable, crosses) depth 80 fits 100000

pub returns : goal.returns
returns g c =
    let ps = c.args.checked.now.patterns in
    let q = query_tree c.args.checked.now.query in
    let base = ap min_len_base c.map.ensures.base ∙ c.with_min_len.ensures.base in
    let len = ap chunks_size base ∙ c.par_chunks.ensures.size in
    let slice = ap chunks_slice base ∙ c.par_chunks.ensures.slice in
    let each = rw c.map.ensures.f at c.in_ok-parts.ensures.1.2 in
    collected (λ (part : List TraceInRange) (found : Vec TraceResult Global). AreFirstAnswers ps q c.args.bounds (rows_of_each part) found.items)
    c.in_ok-parts.ensures.1.0 (chunks_of c.args.size c.args.traces.now) c.in_ok-parts.ensures.0 c.in_ok-parts.parts
    (c.in_ok-parts.ensures.1.1 ∙ these_chunks c.args.size _ c.args.traces.now _ c.requires.some len slice) each c.in_ok-parts.ensures.2
