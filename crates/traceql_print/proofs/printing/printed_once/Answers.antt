use Rattle.std.proofs.Common.{subst}
use Rattle.traceql_syntax.specs.Refusals.{Means}
use Rattle.traceql_print.specs.Text.{query_text}
use Rattle.traceql_print.proofs.Promises.{printed_means, printed_same}
use Rattle.traceql_print.proofs.printing.printed_once.Goals as goal

pub returns-clause-once : goal.returns-clause-once
returns-clause-once c = λ source q p m n. c.one_query.ensures.equal (query_text q) p q n (printed_means source q m)

pub returns-clause-distinct : goal.returns-clause-distinct
returns-clause-distinct c = λ one two q p m n e.
    c.one_query.ensures.equal (query_text q) p q (subst (λ t. Means t p) e (printed_means two p n)) (printed_means one q m)

pub returns-clause-same : goal.returns-clause-same
returns-clause-same c = printed_same
