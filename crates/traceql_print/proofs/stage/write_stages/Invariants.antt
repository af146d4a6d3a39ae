use Rattle.std.proofs.Common.{◌≡◌, map, take}
use Rattle.traceql_syntax.specs.Trees.{stage_tree}
use Rattle.traceql_print.specs.Kinds as kinds
use Rattle.traceql_print.specs.Printer.{put_all}
use Rattle.traceql_print.proofs.stage.write_stages.Given as goal

abbrev pub invariant-loop-stage : goal.invariant-loop-stage
invariant-loop-stage l = l.printer ≡ put_all l.fn.printer (kinds.stages_kinds (map stage_tree (take l.stage-index l.stage-items)))
