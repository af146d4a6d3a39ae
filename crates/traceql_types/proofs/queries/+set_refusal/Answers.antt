use Rattle.traceql_types.proofs.queries.+set_refusal.Goals as goal

pub returns-in-Join : goal.returns-in-Join
returns-in-Join t c =
    let left = rw c.deref.ensures at c.set_refusal.ensures in
    let right = rw c.deref-in-Join.ensures at c.set_refusal-in-Join.ensures in
    rw c.in-Join.is (c.earlier.ensures _ _ left right)
