use Rattle.traceql_types.proofs.expressions.+expr_refusal.Goals as goal

pub returns-in-Unary : goal.returns-in-Unary
returns-in-Unary t c =
    let own = rw c.deref.ensures at c.unary_refusal.ensures in
    let under = rw c.deref-in-Unary.ensures at c.expr_refusal.ensures in
    rw c.in-Unary.is (c.earlier.ensures _ _ own under)

pub returns-in-Binary : goal.returns-in-Binary
returns-in-Binary t c =
    let own = rw (c.deref-in-Binary.ensures, c.deref-in-Binary-2.ensures) at c.binary_refusal-own.ensures in
    let left = rw c.deref-in-Binary-3.ensures at c.expr_refusal-in-Binary.ensures in
    let right = rw c.deref-in-Binary-4.ensures at c.expr_refusal-in-Binary-2.ensures in
    rw c.in-Binary.is (c.earlier-in-Binary.ensures _ _ (c.earlier-on_left.ensures _ _ own left) right)

pub returns-in-Match : goal.returns-in-Match
returns-in-Match t c =
    let own = rw c.deref-in-Match.ensures at c.match_refusal.ensures in
    let under = rw c.deref-in-Match-2.ensures at c.expr_refusal-in-Match.ensures in
    rw c.in-Match.is (c.earlier-in-Match.ensures _ _ own under)
