use Rattle.std.proofs.Common.{refl}
use Rattle.traceql_syntax.specs.Trees.{metrics_tree}
use Rattle.traceql_syntax.specs.declared.errors.ParseError.TheVariants as parse
use Rattle.session_text.proofs.measuring.run_query_of.Goals as goal

pub returns-in-Ok-clause-query : goal.returns-in-Ok-clause-query
returns-in-Ok-clause-query c = record { asked = metrics_tree c.in_ok-asked.asked; query = c.in_ok-asked.ensures.query; told = refl; run = c.in-Ok.ensures }

pub returns-in-Err-clause-refused : goal.returns-in-Err-clause-refused
returns-in-Err-clause-refused c = record { why = parse.Memory; is = refl; right = tt }
