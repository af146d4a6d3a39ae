use Rattle.traceql_types.proofs.Firsts.{first-listed_same}
use Rattle.traceql_types.proofs.expressions.refused_as_truth.Goals as goal

pub returns : goal.returns
returns c = c.earlier.ensures _ _ (first-listed_same _ _ c.nil_refusal.ensures) (first-listed_same _ _ (rw (← c.expr_kind-kind.ensures) c.truth_refusal.ensures))
