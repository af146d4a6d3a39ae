use Rattle.traceql_types.proofs.Firsts.{first-listed_same}
use Rattle.traceql_types.proofs.expressions.match_refusal.Goals as goal

pub returns : goal.returns
returns c = c.earlier.ensures _ _ (first-listed_same _ _ c.nil_refusal.ensures) (first-listed_same _ _ (rw (← c.expr_kind-kind.ensures) c.text_refusal.ensures))
