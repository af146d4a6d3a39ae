use Rattle.traceql_tokens.proofs.TokensLaws.{tokens_unique, metrics_tokens_unique}
use Rattle.traceql_tokens.proofs.lexer.one_reading.Goals as goal

pub returns-clause-query : goal.returns-clause-query
returns-clause-query c = tokens_unique

pub returns-clause-metrics : goal.returns-clause-metrics
returns-clause-metrics c = metrics_tokens_unique
