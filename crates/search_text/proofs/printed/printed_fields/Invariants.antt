use Rattle.std.proofs.Common.{◌≡◌, map, take}
use Rattle.std.specs.List.{flat_map}
use Rattle.traceql_syntax.specs.Trees.{stage_tree}
use Rattle.traceql_print.specs.Text.{field_text}
use Rattle.spanset_eval.specs.Stages.{fields_of_stage}
use Rattle.search_text.proofs.printed.printed_fields.Given as goal

-- The fields of the stages so far are printed.
abbrev pub invariant-loop-stage : goal.invariant-loop-stage
invariant-loop-stage l = l.texts.items ≡ map field_text (flat_map fields_of_stage (map stage_tree (take l.stage-index l.stage-items)))
