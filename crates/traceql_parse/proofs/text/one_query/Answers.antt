use Rattle.std.proofs.Common.{sym, ◌∙◌, ap}
use Rattle.traceql_syntax.specs.Trees.{bare_query}
use Rattle.traceql_parse.proofs.QueryParsing.{one_reading}
use Rattle.traceql_parse.proofs.text.one_query.Goals as goal

pub returns-clause-one : goal.returns-clause-one
returns-clause-one c = one_reading

pub returns-clause-equal : goal.returns-clause-equal
returns-clause-equal c = λ text p q one two. sym one.3 ∙ ap bare_query (one_reading text one.1 two.1 one.0 two.0 one.2 two.2) ∙ two.3
