-- What a query is printed with doesn't depend on the places in it.
use Rattle.std.proofs.Common.{◌≡◌, List, [], ◌∷◌, ◌++◌, map, Option, Some, None, refl, ap, ap₂}
use Rattle.traceql_tokens.specs.declared.fixed.Sign.TheVariants as sign
use Rattle.traceql_tokens.specs.declared.fixed.Word.TheVariants as word
use Rattle.traceql_tokens.specs.declared.kinds.TokenKind.TheVariants as token
use Rattle.traceql_syntax.specs.Trees.{Tree, Literally, Asks, Unary, Binary, Match, Placed, SetTree, Filter, Join, AggregateTree, Count, Of, ThresholdTree, Aggregate, Number, Duration, StageTree, Keep, By, Coalesce, Select, Compare, QueryTree, bare, bare_option, bare_set, bare_aggregate, bare_threshold, bare_stage, bare_query}
use Rattle.traceql_print.specs.Signs.{unary_sign, binary_sign, comparison_sign, match_sign, set_sign, aggregate_word}
use Rattle.traceql_print.specs.Kinds.{call, operand, is_binary, expr_kinds, condition_kinds, filter_kinds, is_join, set_kinds, aggregate_kinds, threshold_kinds, stage_kinds, stages_kinds, query_kinds}

binary_bare : (t : Tree) → is_binary (bare t) ≡ is_binary t
binary_bare (Literally at x) = refl
binary_bare (Asks at f) = refl
binary_bare (Unary at op first e) = refl
binary_bare (Binary at op first a second b) = refl
binary_bare (Match at negated first a pattern_at pattern) = refl

pub expr_bare : (t : Tree) → expr_kinds (bare t) ≡ expr_kinds t
expr_bare (Literally at x) = refl
expr_bare (Asks at f) = refl
expr_bare (Unary at op first e) = ap₂ (λ b ks. token.Mark (unary_sign op) ∷ operand b ks) (binary_bare e) (expr_bare e)
expr_bare (Binary at op first a second b) =
    ap₂ (λ xs ys. xs ++ (token.Mark (binary_sign op) ∷ ys)) (ap₂ operand (binary_bare a) (expr_bare a)) (ap₂ operand (binary_bare b) (expr_bare b))
expr_bare (Match at negated first a pattern_at pattern) =
    ap (λ xs. xs ++ (token.Mark (match_sign negated) ∷ token.Quoted pattern ∷ [])) (ap₂ operand (binary_bare a) (expr_bare a))

condition_bare : (c : Option Placed) → condition_kinds (bare_option c) ≡ condition_kinds c
condition_bare None = refl
condition_bare (Some e) = expr_bare e.1

filter_bare : (c : Option Placed) → filter_kinds (bare_option c) ≡ filter_kinds c
filter_bare c = ap (λ ks. token.Mark sign.OpenBrace ∷ (ks ++ token.Mark sign.CloseBrace ∷ [])) (condition_bare c)

join_bare : (e : SetTree) → is_join (bare_set e) ≡ is_join e
join_bare (Filter at c) = refl
join_bare (Join at op a b) = refl

set_bare : (e : SetTree) → set_kinds (bare_set e) ≡ set_kinds e
set_bare (Filter at c) = filter_bare c
set_bare (Join at op a b) =
    ap₂ (λ xs ys. xs ++ (token.Mark (set_sign op) ∷ ys)) (ap₂ operand (join_bare a) (set_bare a)) (ap₂ operand (join_bare b) (set_bare b))

aggregate_bare : (a : AggregateTree) → aggregate_kinds (bare_aggregate a) ≡ aggregate_kinds a
aggregate_bare Count = refl
aggregate_bare (Of op e) = ap (call (aggregate_word op)) (expr_bare e.1)

threshold_bare : (b : ThresholdTree) → threshold_kinds (bare_threshold b) ≡ threshold_kinds b
threshold_bare (Aggregate a) = aggregate_bare a
threshold_bare (Number at negative n) = refl
threshold_bare (Duration at negative n) = refl

stage_bare : (s : StageTree) → stage_kinds (bare_stage s) ≡ stage_kinds s
stage_bare (Keep at c) = filter_bare c
stage_bare (By e) = ap (call word.By) (expr_bare e.1)
stage_bare Coalesce = refl
stage_bare (Select fs) = refl
stage_bare (Compare a at op b) = ap₂ (λ xs ys. xs ++ (token.Mark (comparison_sign op) ∷ ys)) (aggregate_bare a) (threshold_bare b)

stages_bare : (ss : List StageTree) → stages_kinds (map bare_stage ss) ≡ stages_kinds ss
stages_bare [] = refl
stages_bare (s ∷ ss) = ap₂ (λ xs ys. (token.Mark sign.Bar ∷ xs) ++ ys) (stage_bare s) (stages_bare ss)

pub query_bare : (q : QueryTree) → query_kinds (bare_query q) ≡ query_kinds q
query_bare q = ap₂ (λ xs ys. xs ++ ys) (set_bare q.spansets) (stages_bare q.stages)
