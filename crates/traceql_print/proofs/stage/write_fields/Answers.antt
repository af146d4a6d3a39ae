use Rattle.std.proofs.Common.{ap, sym, ◌∙◌}
use Rattle.traceql_print.specs.Printer.{put_all}
use Rattle.traceql_print.specs.Kinds.{fields_kinds}
use Rattle.traceql_print.proofs.Putting.{put_none, put_before, no_fields, some_fields}
use Rattle.traceql_print.proofs.stage.write_fields.Goals as goal

pub returns-in_default : goal.returns-in_default
returns-in_default c =
    sym (put_none c.args.printer.now) ∙ ap (put_all c.args.printer.now) (sym (no_fields c.as_slice.result.now c.in_default.len_below) ∙ ap fields_kinds c.as_slice.ensures)

pub returns-in_ok-write_more_fields : goal.returns-in_ok-write_more_fields
returns-in_ok-write_more_fields c =
    put_before _ _ _ _ _ c.in_ok-field.ensures c.in_ok-write_more_fields.ensures
    ∙ ap (put_all c.args.printer.now) (some_fields c.as_slice.result.now c.first-item.result c.in-len1-up.len_at_least c.first-item.is ∙ ap fields_kinds c.as_slice.ensures)
