use Rattle.std.proofs.Common.{sym, subst, ◌≤◌, length, List, arith}
use Rattle.traceql_tokens.specs.Tokens.{AreTokensOf, metrics_words}
use Rattle.traceql_tokens.specs.declared.kinds.Token.{Token}
use Rattle.span_types.specs.declared.limits.TheConstants.{MOST_QUERY_BYTES}
use Rattle.traceql_syntax.specs.Grammar.{SpellsMetrics}
use Rattle.traceql_syntax.specs.Trees.{metrics_tree}
use Rattle.traceql_parse.proofs.Promises.{parse_found, parse_complete, parse_refused}
use Rattle.traceql_parse.proofs.MetricsLaws.{r_metrics, metrics_parses, metrics_tokens_once}
use Rattle.traceql_parse.proofs.metrics.parse_metrics.Goals as goal

pub returns-clause-found : goal.returns-clause-found
returns-clause-found c =
    let fits : length c.args.text.now ≤ MOST_QUERY_BYTES = omega arith in
    let lexed : AreTokensOf metrics_words 0 c.args.text.now c.as_slice.result.now = subst (λ (z : List Token). AreTokensOf metrics_words 0 c.args.text.now z) (sym c.as_slice.ensures) c.in-Ok.ensures.found in
    parse_found metrics_tree r_metrics SpellsMetrics metrics_parses metrics_words c.args.text.now c.as_slice.result.now lexed fits c.parse_tokens.result c.parse_tokens.ensures

pub returns-clause-complete : goal.returns-clause-complete
returns-clause-complete c = λ m fits reads.
    let lexed : AreTokensOf metrics_words 0 c.args.text.now c.as_slice.result.now = subst (λ (z : List Token). AreTokensOf metrics_words 0 c.args.text.now z) (sym c.as_slice.ensures) c.in-Ok.ensures.found in
    parse_complete metrics_tree r_metrics SpellsMetrics metrics_parses metrics_words c.args.text.now c.as_slice.result.now lexed fits (λ us k. metrics_tokens_once c.args.text.now us c.as_slice.result.now k lexed) c.parse_tokens.result c.parse_tokens.ensures m reads

pub returns-clause-refused : goal.returns-clause-refused
returns-clause-refused c =
    let fits : length c.args.text.now ≤ MOST_QUERY_BYTES = omega arith in
    let lexed : AreTokensOf metrics_words 0 c.args.text.now c.as_slice.result.now = subst (λ (z : List Token). AreTokensOf metrics_words 0 c.args.text.now z) (sym c.as_slice.ensures) c.in-Ok.ensures.found in
    parse_refused metrics_tree r_metrics SpellsMetrics metrics_parses metrics_words c.args.text.now c.as_slice.result.now lexed fits c.parse_tokens.result c.parse_tokens.ensures
