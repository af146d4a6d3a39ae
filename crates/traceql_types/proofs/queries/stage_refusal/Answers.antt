use Rattle.traceql_types.proofs.Firsts.{first-listed_same}
use Rattle.traceql_types.proofs.queries.stage_refusal.Goals as goal

pub returns-in-By : goal.returns-in-By
returns-in-By c =
    rw c.in-By.is (c.earlier.ensures _ _ (first-listed_same _ _ c.nil_refusal.ensures) c.expr_refusal.ensures)

pub returns-in-Compare : goal.returns-in-Compare
returns-in-Compare c =
    rw c.in-Compare.is (c.earlier-in-Compare.ensures _ _ c.aggregate_refusal.ensures c.threshold_refusal.ensures)
