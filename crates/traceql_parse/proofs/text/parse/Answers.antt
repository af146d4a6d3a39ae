use Rattle.std.proofs.Common.{sym, subst, ◌≤◌, length, List, arith}
use Rattle.traceql_tokens.specs.Tokens.{AreTokens, query_words}
use Rattle.traceql_tokens.specs.declared.kinds.Token.{Token}
use Rattle.span_types.specs.declared.limits.TheConstants.{MOST_QUERY_BYTES}
use Rattle.traceql_syntax.specs.Grammar.{SpellsQuery}
use Rattle.traceql_syntax.specs.Trees.{query_tree}
use Rattle.traceql_parse.proofs.Promises.{parse_found, parse_complete, parse_refused}
use Rattle.traceql_parse.proofs.QueryLaws.{r_query}
use Rattle.traceql_parse.proofs.QueryParsing.{query_parses, tokens_once, parse_means}
use Rattle.traceql_parse.proofs.text.parse.Goals as goal

pub returns-clause-found : goal.returns-clause-found
returns-clause-found c =
    let fits : length c.args.text.now ≤ MOST_QUERY_BYTES = omega arith in
    let lexed : AreTokens 0 c.args.text.now c.as_slice.result.now = subst (λ (z : List Token). AreTokens 0 c.args.text.now z) (sym c.as_slice.ensures) c.in-Ok.ensures.found in
    parse_found query_tree r_query SpellsQuery query_parses query_words c.args.text.now c.as_slice.result.now lexed fits c.parse_tokens.result c.parse_tokens.ensures

pub returns-clause-complete : goal.returns-clause-complete
returns-clause-complete c = λ q fits reads.
    let lexed : AreTokens 0 c.args.text.now c.as_slice.result.now = subst (λ (z : List Token). AreTokens 0 c.args.text.now z) (sym c.as_slice.ensures) c.in-Ok.ensures.found in
    parse_complete query_tree r_query SpellsQuery query_parses query_words c.args.text.now c.as_slice.result.now lexed fits (λ us k. tokens_once c.args.text.now us c.as_slice.result.now k lexed) c.parse_tokens.result c.parse_tokens.ensures q reads

pub returns-clause-refused : goal.returns-clause-refused
returns-clause-refused c =
    let fits : length c.args.text.now ≤ MOST_QUERY_BYTES = omega arith in
    let lexed : AreTokens 0 c.args.text.now c.as_slice.result.now = subst (λ (z : List Token). AreTokens 0 c.args.text.now z) (sym c.as_slice.ensures) c.in-Ok.ensures.found in
    parse_refused query_tree r_query SpellsQuery query_parses query_words c.args.text.now c.as_slice.result.now lexed fits c.parse_tokens.result c.parse_tokens.ensures

pub returns-clause-means : goal.returns-clause-means
returns-clause-means c =
    let fits : length c.args.text.now ≤ MOST_QUERY_BYTES = omega arith in
    let lexed : AreTokens 0 c.args.text.now c.as_slice.result.now = subst (λ (z : List Token). AreTokens 0 c.args.text.now z) (sym c.as_slice.ensures) c.in-Ok.ensures.found in
    parse_means c.args.text.now c.parse_tokens.result (parse_found query_tree r_query SpellsQuery query_parses query_words c.args.text.now c.as_slice.result.now lexed fits c.parse_tokens.result c.parse_tokens.ensures)
