use Rattle.traceql_tokens.specs.Tokens.{AreTokensOf, metrics_words}
use Rattle.traceql_syntax.specs.Grammar.{SpellsMetrics}
use Rattle.traceql_parse.proofs.MetricsLaws.{r_metrics, metrics_parses, metrics_tokens_once}
use Rattle.traceql_parse.proofs.Parsing.{reading_unique}
use Rattle.traceql_parse.proofs.metrics.one_metrics_query.Goals as goal

pub returns : goal.returns
returns c = reading_unique r_metrics SpellsMetrics metrics_parses metrics_words metrics_tokens_once
