-- How deep a query nests: how many constructs are open at one place, at most, by recursion on how its tokens spell it. A
-- parenthesis is open over what stands in it, a unary operator over its operand, and `^` over its right side.
use Rattle.std.specs.Prelude.{ℕ, suc, List, Option, max}
use Rattle.traceql_tokens.specs.declared.kinds.Token.{Token}
use Rattle.traceql_syntax.specs.Grammar as rule
use Rattle.traceql_syntax.specs.Grammar.{Class, Spells, SpellsCondition, SetClass, SpellsSet, SpellsAggregate, SpellsThreshold, SpellsStage, SpellsQuery}
use Rattle.traceql_syntax.specs.Trees.{Placed, SetTree, AggregateTree, ThresholdTree, StageTree, QueryTree}

abbrev pub nesting : {n : ℕ} {c : Class} {e : Placed} {ts : List Token} → Spells n c e ts → ℕ
nesting (rule.literal t is) = 0
nesting (rule.field t is) = 0
nesting (rule.parens opened closed inner) = suc (nesting inner)
nesting (rule.prefix at s is operand) = suc (nesting operand)
nesting (rule.atom e) = nesting e
nesting (rule.power at a b) = max (nesting a) (suc (nesting b))
nesting (rule.lone e) = nesting e
nesting (rule.left l at s is a b) = max (nesting a) (nesting b)
nesting (rule.match at s pattern_at pattern is a) = nesting a
nesting (rule.single l e) = nesting e

abbrev pub condition_nesting : {n : ℕ} {c : Option Placed} {ts : List Token} → SpellsCondition n c ts → ℕ
condition_nesting rule.empty = 0
condition_nesting (rule.condition e) = nesting e

abbrev pub set_nesting : {n : ℕ} {c : SetClass} {e : SetTree} {ts : List Token} → SpellsSet n c e ts → ℕ
set_nesting (rule.filter opened closed c) = condition_nesting c
set_nesting (rule.set_parens opened closed inner) = suc (set_nesting inner)
set_nesting (rule.set_left l at s is a b) = max (set_nesting a) (set_nesting b)
set_nesting (rule.set_single l e) = set_nesting e

abbrev pub aggregate_nesting : {n : ℕ} {a : AggregateTree} {ts : List Token} → SpellsAggregate n a ts → ℕ
aggregate_nesting (rule.count at opened closed) = 1
aggregate_nesting (rule.of at w opened closed is argument) = suc (nesting argument)

abbrev pub threshold_nesting : {n : ℕ} {b : ThresholdTree} {ts : List Token} → SpellsThreshold n b ts → ℕ
threshold_nesting (rule.aggregate a) = aggregate_nesting a
threshold_nesting (rule.plain t is) = 0
threshold_nesting (rule.minus at t is) = 0

abbrev pub stage_nesting : {n : ℕ} {s : StageTree} {ts : List Token} → SpellsStage n s ts → ℕ
stage_nesting (rule.keep opened closed c) = condition_nesting c
stage_nesting (rule.by at opened closed e) = suc (nesting e)
stage_nesting (rule.coalesce at opened closed) = 1
stage_nesting (rule.select at opened closed fields) = 1
stage_nesting (rule.compare at s is a b) = max (aggregate_nesting a) (threshold_nesting b)

abbrev pub query_nesting : {n : ℕ} {q : QueryTree} {ts : List Token} → SpellsQuery n q ts → ℕ
query_nesting (rule.start e) = set_nesting e
query_nesting (rule.piped at q s) = max (query_nesting q) (stage_nesting s)
