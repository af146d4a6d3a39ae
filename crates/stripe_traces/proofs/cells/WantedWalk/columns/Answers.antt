use Rattle.std.proofs.Common.{◌-◌, List, length, map, ap, ◌∙◌}
use Rattle.std.specs.Prelude.{filter, slice_get}
use Rattle.span_types.specs.declared.ids.TraceId.{TraceId}
use Rattle.stripe_traces.specs.Wanted.{is_one_of}
use Rattle.stripe_traces.proofs.RowLaws.{chosen_named, chosen_told, reads_chosen}
use Rattle.stripe_traces.proofs.cells.WantedWalk.columns.Goals as goal

pub rows_of_cells-requires : goal.rows_of_cells-requires
rows_of_cells-requires c =
    let p = is_one_of c.args.self.now.ids.now in
    let same = c.as_slice-2.ensures.value in
    chosen_named _ _ _ _ _ _ _ _ _ _ (reads_chosen p c.args.extended c.args.texts.now (record { list = c.args.resources.list; values = c.args.resources.values.now })
    (record { list = c.args.scopes.list; values = c.args.scopes.values.now }) c.args.count c.args.fields.now c.column.new.fields c.choose.new.fields c.in-Ok.traces.items c.in_ok-marked.marked.traces.items
    c.as_slice-3.result.now c.in_ok-further.further.items c.in-Ok-beside.cells.items c.in-Ok.ensures (c.as_slice-3.ensures.value ∙ c.in_ok-marked.ensures.wanted ∙ ap (map p) same)
    (c.in_ok-marked.ensures.traces ∙ ap (filter p) same) c.in_ok-further.ensures c.in-Ok-beside.ensures)

pub returns : goal.returns
returns c =
    let p = is_one_of c.args.self.now.ids.now in
    let same = c.as_slice-2.ensures.value in
    let wanted_are = c.as_slice-3.ensures.value ∙ c.in_ok-marked.ensures.wanted ∙ ap (map p) same in
    chosen_told _ _ _ _ _ _ _ _ _ _ (reads_chosen p c.args.extended c.args.texts.now (record { list = c.args.resources.list; values = c.args.resources.values.now })
    (record { list = c.args.scopes.list; values = c.args.scopes.values.now }) c.args.count c.args.fields.now c.column.new.fields c.choose.new.fields c.in-Ok.traces.items c.in_ok-marked.marked.traces.items
    c.as_slice-3.result.now c.in_ok-further.further.items c.in-Ok-beside.cells.items c.in-Ok.ensures wanted_are (c.in_ok-marked.ensures.traces ∙ ap (filter p) same) c.in_ok-further.ensures c.in-Ok-beside.ensures)
    c.args.self.now.ids.now _ wanted_are c.in-Ok-rows_of_cells.ensures
    (c.copied-last.ensures ∙ c.last.ensures.value ∙ ap (λ (l : List TraceId). slice_get l (length l - 1)) c.as_slice-4.ensures.value)
