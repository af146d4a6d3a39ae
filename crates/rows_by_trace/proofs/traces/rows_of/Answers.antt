use Rattle.std.proofs.Common.{sym, subst}
use Rattle.span_types.specs.First.{IsFirstOf}
use Rattle.rows_by_trace.specs.Traces.{rows_of_trace}
use Rattle.rows_by_trace.proofs.TraceLaws.{trace_of_firsts}
use Rattle.rows_by_trace.proofs.traces.rows_of.Goals as goal

pub returns-clause-firsts : goal.returns-clause-firsts
returns-clause-firsts c = λ all is.
    subst (IsFirstOf (rows_of_trace c.args.id all)) (sym c.in_ok-found.ensures) (trace_of_firsts c.args.id all c.args.rows.now is)
