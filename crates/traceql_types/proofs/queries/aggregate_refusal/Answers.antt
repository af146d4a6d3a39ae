use Rattle.traceql_types.proofs.queries.aggregate_refusal.Goals as goal

pub returns-in-Of : goal.returns-in-Of
returns-in-Of c =
    let own = c.earlier-own.ensures _ _ c.refused_as_number.ensures c.expr_refusal.ensures in
    rw c.in-Of.is (c.earlier.ensures _ _ own c.division.ensures)
