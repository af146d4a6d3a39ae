-- A limit of depth is kept exactly by what nests no deeper.
use Rattle.std.proofs.Common.{ℕ, zero, suc, ◌≤◌, max, List, Option, arith}
use Rattle.traceql_tokens.specs.declared.kinds.Token.{Token}
use Rattle.traceql_syntax.specs.Grammar as rule
use Rattle.traceql_syntax.specs.Grammar.{Class, Spells, SpellsCondition, SetClass, SpellsSet, SpellsAggregate, SpellsThreshold, SpellsStage, SpellsQuery}
use Rattle.traceql_syntax.specs.Depth.{nesting, condition_nesting, set_nesting, aggregate_nesting, threshold_nesting, stage_nesting, query_nesting}
use Rattle.traceql_syntax.specs.Refusals.{Reads}
use Rattle.traceql_syntax.specs.Trees.{Placed, SetTree, AggregateTree, ThresholdTree, StageTree, QueryTree}

none : (n : ℕ) → 0 ≤ n
none n = omega arith

one : (n : ℕ) → 1 ≤ suc n
one n = omega arith

up : (a n : ℕ) → a ≤ n → suc a ≤ suc n
up a n h = omega arith

down : (a n : ℕ) → suc a ≤ suc n → a ≤ n
down a n h = omega arith

both : (a b n : ℕ) → a ≤ n → b ≤ n → max a b ≤ n
both a b n h k = grind arith

left : (a b n : ℕ) → max a b ≤ n → a ≤ n
left a b n h = grind arith

right : (a b n : ℕ) → max a b ≤ n → b ≤ n
right a b n h = grind arith

-- What is spelled within a limit nests no deeper.

nests : {n : ℕ} {c : Class} {e : Placed} {ts : List Token} (d : Spells n c e ts) → nesting d ≤ n
nests (rule.literal t h) = none _
nests (rule.field t h) = none _
nests (rule.parens opened closed d) = up _ _ (nests d)
nests (rule.prefix at s h d) = up _ _ (nests d)
nests (rule.atom d) = nests d
nests (rule.power at d f) = both _ _ _ (nests d) (up _ _ (nests f))
nests (rule.lone d) = nests d
nests (rule.left l at s h d f) = both _ _ _ (nests d) (nests f)
nests (rule.match at s pattern_at pattern h d) = nests d
nests (rule.single l d) = nests d

condition_nests : {n : ℕ} {c : Option Placed} {ts : List Token} (d : SpellsCondition n c ts) → condition_nesting d ≤ n
condition_nests rule.empty = none _
condition_nests (rule.condition d) = nests d

set_nests : {n : ℕ} {c : SetClass} {e : SetTree} {ts : List Token} (d : SpellsSet n c e ts) → set_nesting d ≤ n
set_nests (rule.filter opened closed d) = condition_nests d
set_nests (rule.set_parens opened closed d) = up _ _ (set_nests d)
set_nests (rule.set_left l at s h d f) = both _ _ _ (set_nests d) (set_nests f)
set_nests (rule.set_single l d) = set_nests d

aggregate_nests : {n : ℕ} {a : AggregateTree} {ts : List Token} (d : SpellsAggregate n a ts) → aggregate_nesting d ≤ n
aggregate_nests (rule.count at opened closed) = one _
aggregate_nests (rule.of at w opened closed h d) = up _ _ (nests d)

threshold_nests : {n : ℕ} {b : ThresholdTree} {ts : List Token} (d : SpellsThreshold n b ts) → threshold_nesting d ≤ n
threshold_nests (rule.aggregate d) = aggregate_nests d
threshold_nests (rule.plain t h) = none _
threshold_nests (rule.minus at t h) = none _

stage_nests : {n : ℕ} {s : StageTree} {ts : List Token} (d : SpellsStage n s ts) → stage_nesting d ≤ n
stage_nests (rule.keep opened closed d) = condition_nests d
stage_nests (rule.by at opened closed d) = up _ _ (nests d)
stage_nests (rule.coalesce at opened closed) = one _
stage_nests (rule.select at opened closed d) = one _
stage_nests (rule.compare at s h d f) = both _ _ _ (aggregate_nests d) (threshold_nests f)

query_nests : {n : ℕ} {q : QueryTree} {ts : List Token} (d : SpellsQuery n q ts) → query_nesting d ≤ n
query_nests (rule.start d) = set_nests d
query_nests (rule.piped at d f) = both _ _ _ (query_nests d) (stage_nests f)

pub reads_within : (depth : ℕ) (text : List ℕ) (q : QueryTree) (r : Reads depth text q) → query_nesting r.spelled ≤ depth
reads_within depth text q r = query_nests r.spelled

-- What nests no deeper than a limit is spelled within it.

respelled : {m : ℕ} {c : Class} {e : Placed} {ts : List Token} (d : Spells m c e ts) (n : ℕ) → nesting d ≤ n → Spells n c e ts
respelled (rule.literal t h) n k = rule.literal t h
respelled (rule.field t h) n k = rule.field t h
respelled (rule.parens opened closed d) zero k = absurd (omega arith)
respelled (rule.parens opened closed d) (suc n) k = rule.parens opened closed (respelled d n (down _ _ k))
respelled (rule.prefix at s h d) zero k = absurd (omega arith)
respelled (rule.prefix at s h d) (suc n) k = rule.prefix at s h (respelled d n (down _ _ k))
respelled (rule.atom d) n k = rule.atom (respelled d n k)
respelled (rule.power at d f) zero k = absurd (let deep = right _ _ _ k in omega arith)
respelled (rule.power at d f) (suc n) k = rule.power at (respelled d (suc n) (left _ _ _ k)) (respelled f n (down _ _ (right _ _ _ k)))
respelled (rule.lone d) n k = rule.lone (respelled d n k)
respelled (rule.left l at s h d f) n k = rule.left l at s h (respelled d n (left _ _ _ k)) (respelled f n (right _ _ _ k))
respelled (rule.match at s pattern_at pattern h d) n k = rule.match at s pattern_at pattern h (respelled d n k)
respelled (rule.single l d) n k = rule.single l (respelled d n k)

condition_respelled : {m : ℕ} {c : Option Placed} {ts : List Token} (d : SpellsCondition m c ts) (n : ℕ) → condition_nesting d ≤ n → SpellsCondition n c ts
condition_respelled rule.empty n k = rule.empty
condition_respelled (rule.condition d) n k = rule.condition (respelled d n k)

set_respelled : {m : ℕ} {c : SetClass} {e : SetTree} {ts : List Token} (d : SpellsSet m c e ts) (n : ℕ) → set_nesting d ≤ n → SpellsSet n c e ts
set_respelled (rule.filter opened closed d) n k = rule.filter opened closed (condition_respelled d n k)
set_respelled (rule.set_parens opened closed d) zero k = absurd (omega arith)
set_respelled (rule.set_parens opened closed d) (suc n) k = rule.set_parens opened closed (set_respelled d n (down _ _ k))
set_respelled (rule.set_left l at s h d f) n k = rule.set_left l at s h (set_respelled d n (left _ _ _ k)) (set_respelled f n (right _ _ _ k))
set_respelled (rule.set_single l d) n k = rule.set_single l (set_respelled d n k)

aggregate_respelled : {m : ℕ} {a : AggregateTree} {ts : List Token} (d : SpellsAggregate m a ts) (n : ℕ) → aggregate_nesting d ≤ n → SpellsAggregate n a ts
aggregate_respelled (rule.count at opened closed) zero k = absurd (omega arith)
aggregate_respelled (rule.count at opened closed) (suc n) k = rule.count at opened closed
aggregate_respelled (rule.of at w opened closed h d) zero k = absurd (omega arith)
aggregate_respelled (rule.of at w opened closed h d) (suc n) k = rule.of at w opened closed h (respelled d n (down _ _ k))

threshold_respelled : {m : ℕ} {b : ThresholdTree} {ts : List Token} (d : SpellsThreshold m b ts) (n : ℕ) → threshold_nesting d ≤ n → SpellsThreshold n b ts
threshold_respelled (rule.aggregate d) n k = rule.aggregate (aggregate_respelled d n k)
threshold_respelled (rule.plain t h) n k = rule.plain t h
threshold_respelled (rule.minus at t h) n k = rule.minus at t h

stage_respelled : {m : ℕ} {s : StageTree} {ts : List Token} (d : SpellsStage m s ts) (n : ℕ) → stage_nesting d ≤ n → SpellsStage n s ts
stage_respelled (rule.keep opened closed d) n k = rule.keep opened closed (condition_respelled d n k)
stage_respelled (rule.by at opened closed d) zero k = absurd (omega arith)
stage_respelled (rule.by at opened closed d) (suc n) k = rule.by at opened closed (respelled d n (down _ _ k))
stage_respelled (rule.coalesce at opened closed) zero k = absurd (omega arith)
stage_respelled (rule.coalesce at opened closed) (suc n) k = rule.coalesce at opened closed
stage_respelled (rule.select at opened closed d) zero k = absurd (omega arith)
stage_respelled (rule.select at opened closed d) (suc n) k = rule.select at opened closed d
stage_respelled (rule.compare at s h d f) n k = rule.compare at s h (aggregate_respelled d n (left _ _ _ k)) (threshold_respelled f n (right _ _ _ k))

query_respelled : {m : ℕ} {q : QueryTree} {ts : List Token} (d : SpellsQuery m q ts) (n : ℕ) → query_nesting d ≤ n → SpellsQuery n q ts
query_respelled (rule.start d) n k = rule.start (set_respelled d n k)
query_respelled (rule.piped at d f) n k = rule.piped at (query_respelled d n (left _ _ _ k)) (stage_respelled f n (right _ _ _ k))

pub reads_enough : (d depth : ℕ) (text : List ℕ) (q : QueryTree) (r : Reads d text q) → query_nesting r.spelled ≤ depth → Reads depth text q
reads_enough d depth text q r k = record { tokens = r.tokens; lexed = r.lexed; spelled = query_respelled r.spelled depth k }
