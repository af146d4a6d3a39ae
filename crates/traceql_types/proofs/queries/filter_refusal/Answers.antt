use Rattle.traceql_types.proofs.queries.filter_refusal.Goals as goal

pub returns-in-Some : goal.returns-in-Some
returns-in-Some c = rw c.in-Some.is (c.earlier.ensures _ _ c.refused_as_truth.ensures c.expr_refusal.ensures)
