-- A checked query may be handed to another thread, and be shared among threads. `search` finds this of a type that holds
-- no recursive one; for the others it is shown part by part.
use denote.Hole.{as_row}
use denote.Param.Send.{IsSend, IsSync, sendable}
use denote.Param.SendFields.{as_row_send, as_row_sync, declared_send, declared_sync, variants_send, variants_sync}
use denote.Struct.Field.{bool-field, u64-field}
use Rattle.std.proofs.Crossing.{crosses}
use Rattle.std.proofs.MapsCrossing.{String-send, String-sync}
use Rattle.std.specs.contracts.option.Option as Option
use Rattle.regex.specs.contracts.pattern.Pattern as Compiled
use Rattle.regex.specs.contracts.string.regex.Regex as Regex
use Rattle.regex_hir.proofs.hir.Hir.TheLaws.TheKnot.{send-Hir, sync-Hir}
use Rattle.regex_hir.specs.contracts.hir.Hir as Hir
use Rattle.regex_meta.specs.contracts.plan.Plans as Plans
use Rattle.regex_meta.specs.contracts.program.Program as Program
use Rattle.span_types.proofs.text.Text.TheSendSync as text
use Rattle.span_types.specs.contracts.list.Seq as Seq
use Rattle.traceql_syntax.proofs.field.Comparison.TheSendSync as comparison
use Rattle.traceql_syntax.proofs.field.Field.TheSendSync as field
use Rattle.traceql_syntax.proofs.field.FieldExpr.TheLaws.TheKnot.{send-Operand, sync-Operand}
use Rattle.traceql_syntax.proofs.query.AggregateOp.TheSendSync as op
use Rattle.traceql_syntax.proofs.query.SpansetExpr.TheLaws.TheKnot.{send-SpansetExpr, sync-SpansetExpr}
use Rattle.traceql_syntax.specs.contracts.field.Field as Field
use Rattle.traceql_syntax.specs.contracts.field.Operand as Operand
use Rattle.traceql_syntax.specs.contracts.query.Aggregate as Aggregate
use Rattle.traceql_syntax.specs.contracts.query.Query as Query
use Rattle.traceql_syntax.specs.contracts.query.SpansetExpr as SpansetExpr
use Rattle.traceql_syntax.specs.contracts.query.Stage as Stage
use Rattle.traceql_syntax.specs.contracts.query.Threshold as Threshold
use Rattle.traceql_types.specs.contracts.checked.Checked as Checked
use Rattle.traceql_types.specs.contracts.pattern.Pattern as Pattern

-- ---- handed to another thread
u64-send : IsSend (as_row u64-field)
u64-send = as_row_send u64-field (search sendable)

bool-send : IsSend (as_row bool-field)
bool-send = as_row_send bool-field (search sendable)

operand-send : IsSend Operand.the_row
operand-send = search (send-Operand, sendable, crosses) depth 80 fits 10000

spansets-send : IsSend SpansetExpr.the_row
spansets-send = search (operand-send, send-SpansetExpr, sendable, crosses) depth 80 fits 10000

condition-send : IsSend (Option.the_row Operand.the_row)
condition-send = search (operand-send, sendable, crosses) depth 40

aggregate-send : IsSend Aggregate.the_row
aggregate-send = variants_send Aggregate.enum (tt, ((op.the_send, (operand-send, tt)), tt))

threshold-send : IsSend Threshold.the_row
threshold-send =
    variants_send Threshold.enum ((aggregate-send, tt), ((u64-send, (bool-send, (u64-send, tt))), ((u64-send, (bool-send, (u64-send, tt))), tt)))

fields-send : IsSend (Seq.the_row Field.the_row)
fields-send = search (field.the_send, sendable, crosses) depth 40

stage-send : IsSend Stage.the_row
stage-send =
    variants_send Stage.enum (
      (u64-send, (condition-send, tt)),
      (
        (operand-send, tt),
        (
          tt,
          (
            (fields-send, tt),
            ((aggregate-send, (u64-send, (comparison.the_send, (threshold-send, tt)))), tt),
          ),
        ),
      ),
    )

stages-send : IsSend (Seq.the_row Stage.the_row)
stages-send = search (stage-send, sendable, crosses) depth 40

query-send : IsSend Query.the_row
query-send = declared_send Query.the_type (spansets-send, (stages-send, tt))

hir-send : IsSend Hir.the_row
hir-send = search (sendable, crosses, send-Hir) depth 40 fits 10000

plans-send : IsSend Plans.the_row
plans-send = search (hir-send, sendable, crosses) depth 80 fits 10000

program-send : IsSend Program.the_row
program-send = declared_send Program.the_type (search (hir-send, plans-send, sendable, crosses) depth 80 fits 10000)

compiled-send : IsSend Compiled.the_row
compiled-send = declared_send Compiled.the_type (search (String-send, program-send, sendable, crosses) depth 80 fits 10000)

pub pattern-send : IsSend Pattern.the_row
pattern-send = declared_send Pattern.the_type (text.the_send, (declared_send Regex.the_type (compiled-send, tt), tt))

patterns-send : IsSend (Seq.the_row Pattern.the_row)
patterns-send = search (pattern-send, sendable, crosses) depth 40

pub checked-send : IsSend Checked.the_row
checked-send = declared_send Checked.the_type (query-send, (patterns-send, tt))

-- ---- shared among threads
u64-sync : IsSync (as_row u64-field)
u64-sync = as_row_sync u64-field (search sendable)

bool-sync : IsSync (as_row bool-field)
bool-sync = as_row_sync bool-field (search sendable)

operand-sync : IsSync Operand.the_row
operand-sync = search (sync-Operand, sendable, crosses) depth 80 fits 10000

spansets-sync : IsSync SpansetExpr.the_row
spansets-sync = search (operand-sync, sync-SpansetExpr, sendable, crosses) depth 80 fits 10000

condition-sync : IsSync (Option.the_row Operand.the_row)
condition-sync = search (operand-sync, sendable, crosses) depth 40

aggregate-sync : IsSync Aggregate.the_row
aggregate-sync = variants_sync Aggregate.enum (tt, ((op.the_sync, (operand-sync, tt)), tt))

threshold-sync : IsSync Threshold.the_row
threshold-sync =
    variants_sync Threshold.enum ((aggregate-sync, tt), ((u64-sync, (bool-sync, (u64-sync, tt))), ((u64-sync, (bool-sync, (u64-sync, tt))), tt)))

fields-sync : IsSync (Seq.the_row Field.the_row)
fields-sync = search (field.the_sync, sendable, crosses) depth 40

stage-sync : IsSync Stage.the_row
stage-sync =
    variants_sync Stage.enum (
      (u64-sync, (condition-sync, tt)),
      (
        (operand-sync, tt),
        (
          tt,
          (
            (fields-sync, tt),
            ((aggregate-sync, (u64-sync, (comparison.the_sync, (threshold-sync, tt)))), tt),
          ),
        ),
      ),
    )

stages-sync : IsSync (Seq.the_row Stage.the_row)
stages-sync = search (stage-sync, sendable, crosses) depth 40

query-sync : IsSync Query.the_row
query-sync = declared_sync Query.the_type (spansets-sync, (stages-sync, tt))

hir-sync : IsSync Hir.the_row
hir-sync = search (sendable, crosses, sync-Hir) depth 40 fits 10000

plans-sync : IsSync Plans.the_row
plans-sync = search (hir-sync, sendable, crosses) depth 80 fits 10000

program-sync : IsSync Program.the_row
program-sync = declared_sync Program.the_type (search (hir-sync, plans-sync, sendable, crosses) depth 80 fits 10000)

compiled-sync : IsSync Compiled.the_row
compiled-sync = declared_sync Compiled.the_type (search (String-sync, program-sync, sendable, crosses) depth 80 fits 10000)

pub pattern-sync : IsSync Pattern.the_row
pattern-sync = declared_sync Pattern.the_type (text.the_sync, (declared_sync Regex.the_type (compiled-sync, tt), tt))

patterns-sync : IsSync (Seq.the_row Pattern.the_row)
patterns-sync = search (pattern-sync, sendable, crosses) depth 40

pub checked-sync : IsSync Checked.the_row
checked-sync = declared_sync Checked.the_type (query-sync, (patterns-sync, tt))
