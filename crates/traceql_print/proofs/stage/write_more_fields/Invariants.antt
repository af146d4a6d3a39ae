use Rattle.std.proofs.Common.{◌≡◌, take}
use Rattle.traceql_print.specs.Kinds as kinds
use Rattle.traceql_print.specs.Printer.{put_all}
use Rattle.traceql_print.proofs.stage.write_more_fields.Given as goal

abbrev pub invariant-loop-field : goal.invariant-loop-field
invariant-loop-field l = l.printer ≡ put_all l.fn.printer (kinds.more_fields_kinds (take l.field-index l.fields))
