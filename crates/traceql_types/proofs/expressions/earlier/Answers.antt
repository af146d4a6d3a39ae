use Rattle.std.proofs.Common.{◌≡◌, true}
use Rattle.traceql_types.specs.Order.{Precedes}
use Rattle.traceql_types.proofs.Firsts.{first-left, first-right, precedes_total}
use Rattle.traceql_types.proofs.expressions.earlier.Goals as goal

pub returns-then-precedes : goal.returns-then-precedes
returns-then-precedes c xs ys fa fb =
    let fa' = rw c.in-Some-Some.is-0 at fa in
    let fb' = rw c.in-Some-Some.is-1 at fb in
    rw c.in-Some-Some.is-0 (first-left xs ys c.in-Some-Some.a c.in-Some-Some.b (c.precedes.ensures.0 c.if-precedes.true) fa' fb')

pub returns-else-precedes : goal.returns-else-precedes
returns-else-precedes c xs ys fa fb =
    let fa' = rw c.in-Some-Some.is-0 at fa in
    let fb' = rw c.in-Some-Some.is-1 at fb in
    let against : Precedes c.in-Some-Some.a c.in-Some-Some.b → ⊥ = λ h. (let e : c.precedes.result ≡ true = c.precedes.ensures.1 h in cc) in
    rw c.in-Some-Some.is-1 (first-right xs ys c.in-Some-Some.a c.in-Some-Some.b (precedes_total c.in-Some-Some.a c.in-Some-Some.b against) fa' fb')
