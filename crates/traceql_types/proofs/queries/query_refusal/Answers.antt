use Rattle.traceql_types.proofs.queries.query_refusal.Goals as goal

pub returns : goal.returns
returns c = c.earlier.ensures _ _ c.set_refusal.ensures c.stages_refusal.ensures
