use Rattle.traceql_types.proofs.Firsts.{first-listed_same}
use Rattle.traceql_types.proofs.expressions.+division.Goals as goal

pub returns-in-Binary : goal.returns-in-Binary
returns-in-Binary t c =
    let own = first-listed_same _ _ c.division_refusal.ensures in
    let left = rw c.deref-in-Binary.ensures at c.division-in-Binary.ensures in
    let right = rw c.deref-in-Binary-2.ensures at c.division-in-Binary-2.ensures in
    rw c.in-Binary.is (c.earlier.ensures _ _ (c.earlier-on_left.ensures _ _ own left) right)
