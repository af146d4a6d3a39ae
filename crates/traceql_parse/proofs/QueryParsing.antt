-- Parsing queries: the grammar's laws, and what `parse` promises.
use Rattle.std.proofs.Common.{◌≡◌, ℕ, suc, ◌≤◌, List, [], ◌++◌, Option, Result, Ok, Err, IfOk, refl, sym, ◌∙◌, ap, append-nil, length}
use Rattle.traceql_tokens.specs.Tokens.{AreTokens, query_words}
use Rattle.traceql_tokens.proofs.TokensLaws.{tokens_unique}
use Rattle.traceql_tokens.specs.declared.kinds.Token.{Token}
use Rattle.traceql_syntax.specs.declared.errors.ParseError.{ParseError}
use Rattle.traceql_syntax.specs.declared.query.Query.{Query}
use Rattle.traceql_syntax.specs.Grammar.{Whole_expression, SpellsCondition, SpellsAggregate, SpellsThreshold, SpellsStage, SpellsQuery}
use Rattle.traceql_syntax.specs.Grammar as rule
use Rattle.span_types.specs.declared.limits.TheConstants.{MOST_QUERY_BYTES}
use Rattle.traceql_syntax.specs.Refusals.{DEPTH, Means, Reads}
use Rattle.traceql_syntax.specs.Trees.{Placed, AggregateTree, ThresholdTree, StageTree, QueryTree, query_tree}
use Rattle.traceql_parse.proofs.Fields.{spells_grow}
use Rattle.traceql_parse.proofs.SetLaws.{All, sets_grow}
use Rattle.traceql_parse.proofs.QueryLaws.{r_query, query_sound, query_completes, query_refuses, query_occurs}
use Rattle.traceql_parse.proofs.Parsing.{Parses, reading_unique}

-- A query stays one where more may be opened.

grow_condition : {n : ℕ} {c : Option Placed} {ts : List Token} → SpellsCondition n c ts → SpellsCondition (suc n) c ts
grow_condition rule.empty = rule.empty
grow_condition (rule.condition {n = n} {e = e} {ts = ts} d) = rule.condition (spells_grow Whole_expression n e ts d)

grow_aggregate : {n : ℕ} {a : AggregateTree} {ts : List Token} → SpellsAggregate n a ts → SpellsAggregate (suc n) a ts
grow_aggregate (rule.count at opened closed) = rule.count at opened closed
grow_aggregate (rule.of {n = n} {e = e} {ts = ts} at w opened closed h d) = rule.of at w opened closed h (spells_grow Whole_expression n e ts d)

grow_threshold : {n : ℕ} {x : ThresholdTree} {ts : List Token} → SpellsThreshold n x ts → SpellsThreshold (suc n) x ts
grow_threshold (rule.aggregate d) = rule.aggregate (grow_aggregate d)
grow_threshold (rule.plain t h) = rule.plain t h
grow_threshold (rule.minus at t h) = rule.minus at t h

grow_stage : {n : ℕ} {s : StageTree} {ts : List Token} → SpellsStage n s ts → SpellsStage (suc n) s ts
grow_stage (rule.keep opened closed d) = rule.keep opened closed (grow_condition d)
grow_stage (rule.by {n = n} {e = e} {ts = ts} at opened closed d) = rule.by at opened closed (spells_grow Whole_expression n e ts d)
grow_stage (rule.coalesce at opened closed) = rule.coalesce at opened closed
grow_stage (rule.select at opened closed d) = rule.select at opened closed d
grow_stage (rule.compare at s h d e) = rule.compare at s h (grow_aggregate d) (grow_threshold e)

grow_query : {n : ℕ} {q : QueryTree} {ts : List Token} → SpellsQuery n q ts → SpellsQuery (suc n) q ts
grow_query (rule.start {n = n} {e = e} {ts = ts} d) = rule.start (sets_grow All n e ts d)
grow_query (rule.piped at d e) = rule.piped at (grow_query d) (grow_stage e)

pub query_parses : Parses r_query SpellsQuery
query_parses = record {
  grows = (λ n q ts d. grow_query d);
  sound = query_sound;
  whole = (λ n q ts d. ap (r_query n) (sym (append-nil ts)) ∙ query_completes n q ts [] d tt);
  refuses = query_refuses;
  occurs = query_occurs;
}

-- A text has one list of tokens, and is at most one query.

pub tokens_once : (text : List ℕ) (ts us : List Token) → AreTokens 0 text ts → AreTokens 0 text us → ts ≡ us
tokens_once text ts us h k = tokens_unique 0 text ts us h k

pub one_reading : (text : List ℕ) (p q : QueryTree) (d e : ℕ) → Reads d text p → Reads e text q → p ≡ q
one_reading = reading_unique r_query SpellsQuery query_parses query_words tokens_once

pub parse_means : (text : List ℕ) (r : Result Query ParseError) → IfOk r (λ q. (length text ≤ MOST_QUERY_BYTES) × Reads DEPTH text (query_tree q)) → IfOk r (λ q. Means text (query_tree q))
parse_means text (Ok q) h = (64, query_tree q, h.1, refl)
parse_means text (Err e) h = tt
