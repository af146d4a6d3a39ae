use Rattle.std.proofs.Common.{rules, ◌≡◌, ℕ, ◌∙◌, ap, sym, arith, take, cond, Some, unwrap_or, slice_index_or}
use Rattle.std.specs.BTreeMap.{get}
use Rattle.std.specs.Ordering.{is_eq}
use Rattle.span_types.specs.Orders.{trace_cmp}
use Rattle.store_model.specs.After.{arrived}
use Rattle.store_model.specs.Cut.{last_moment}
use Rattle.live_traces.proofs.LiveRows.{kept_last, take_more_of}
use Rattle.live_traces.proofs.cut.note.Goals as goal

pub loop-row-preserved : goal.loop-row-preserved
loop-row-preserved c = λ t.
    let before : ℕ = unwrap_or (get trace_cmp c.args.last.now t) 0 in
    let here : slice_index_or c.args.rows.now c.loop-row.row-index c.row-item.result ≡ c.row-item.result = search rules in
    ap (λ o. unwrap_or o 0) (c.in_ok-insert.ensures.updates.0 t)
    ∙ ap (λ own. unwrap_or (cond (is_eq (trace_cmp own t)) (Some c.args.moment) (get trace_cmp c.loop-row.last t)) 0) c.trace-trace.ensures
    ∙ kept_last t before c.args.moment (take c.loop-row.row-index c.args.rows.now) c.row-item.result (get trace_cmp c.loop-row.last t) (c.loop-row.invariant t)
    ∙ ap (λ rows. last_moment t before (arrived c.args.moment rows)) (sym (take_more_of c.args.rows.now c.loop-row.row-index c.row-item.result (omega arith) here))
