-- A spanset has no more spans than its trace has rows, so with as many spans of each as there are rows all are shown.
use Rattle.std.proofs.Common.{◌≡◌, ℕ, zero, suc, ◌+◌, ◌<◌, ◌≤◌, List, [], ◌∷◌, ◌++◌, Bool, true, false, if◌then◌else◌, Option, Some, None, refl, ◌∙◌, ap, ap₂, subst, arith, length, map, filter, Contains, get_or, slice_index_or, inl, inr}
use Rattle.std.specs.Prelude.{slice_get}
use Rattle.std.specs.List.{AllByRecursion, cons_option, filter_map, flat_map}
use Rattle.std.specs.List.Sorted.{IsStrictlyIncreasing}
use Rattle.std.specs.Option.{option_map}
use Rattle.std.specs.Ordering.{is_eq}
use Rattle.std.proofs.lemmas.List.{take_all}
use Rattle.span_types.specs.declared.spans.Row.{Row}
use Rattle.spanset_eval.specs.declared.groups.Group.{Group}
use Rattle.spanset_eval.specs.declared.results.Hit.{Hit}
use Rattle.spanset_eval.specs.declared.results.SetResult.{SetResult}
use Rattle.spanset_eval.specs.declared.results.TraceResult.{TraceResult}
use Rattle.spanset_eval.specs.Outcomes.{IsCutOutcome, IsOutcome, cut, cut_set, hit_at, set_result, shown}
use Rattle.spanset_eval.specs.Sets.{Selects}
use Rattle.spanset_eval.specs.Stages.{after_stage, after_stages, aggregate_of, amounts_compare, coalesced, drop_empty, filter_position, filter_spanset, has_spans, is_in_some, members_at, occurring, positions_from, remaining, selected_fields, split_by, threshold_of, value_at}
use Rattle.traceql_syntax.specs.declared.field.Field.{Field}
use Rattle.traceql_syntax.specs.declared.query.Side.TheVariants as side
use Rattle.traceql_syntax.specs.declared.query.SpansetOp.TheVariants as set
use Rattle.traceql_syntax.specs.Trees.{By, Coalesce, Compare, Filter, Join, Keep, Placed, QueryTree, Select, SetTree, StageTree, Tree}
use Rattle.traceql_types.specs.declared.pattern.Pattern.{Pattern}
use Rattle.traceql_value.specs.declared.value.Value.{Value}
use Rattle.traceql_value.specs.Spans.{root_name, root_service, start_of, trace_nanos}
use Rattle.traceql_value.specs.Values.{value_cmp}

-- ---- lengths

length_filter : {X : Type 0} (p : X → Bool) (xs : List X) → length (filter p xs) ≤ length xs
length_filter p [] = omega arith
length_filter {X} p (x ∷ xs) =
    let rest = length_filter p xs in
    elim (p x) as (λ b. length (if b then x ∷ filter p xs else filter p xs) ≤ suc (length xs)) [ true ↦ omega (arith, rest) | false ↦ omega (arith, rest) ]

length_filter_map : {X Y : Type 0} (f : X → Option Y) (xs : List X) → length (filter_map f xs) ≤ length xs
length_filter_map f [] = omega arith
length_filter_map {Y = Y} f (x ∷ xs) = one (f x) (filter_map f xs) (length xs) (length_filter_map f xs)
  where
    one : (o : Option Y) (ys : List Y) (n : ℕ) → length ys ≤ n → length (cons_option o ys) ≤ suc n
    one None ys n few = omega (arith, few)
    one (Some y) ys n few = omega (arith, few)

positions_count : (first n : ℕ) → length (positions_from first n) ≡ n
positions_count first zero = refl
positions_count first (suc n) = ap suc (positions_count (suc first) n)

-- ---- what is selected

there : {X : Type 0} (xs : List X) (y : ℕ) (x : X) → slice_get xs y ≡ Some x → y < length xs
there [] y x is = absurd (none is)
  where
    none : None ≡ Some x → ⊥
    none e = cc
there (z ∷ zs) zero x is = omega arith
there (z ∷ zs) (suc y) x is = let rest = there zs y x is in omega (arith, rest)

-- What an expression selects is there.
selected_there : (ps : List Pattern) (rows : List Row) (e : SetTree) (y : ℕ) → Selects ps rows e y → y < length rows
selected_there ps rows (Filter at condition) y passes = there rows y passes.row passes.is
selected_there ps rows (Join at set.And a b) y (left, right, inl is) = selected_there ps rows a y is
selected_there ps rows (Join at set.And a b) y (left, right, inr is) = selected_there ps rows b y is
selected_there ps rows (Join at set.Or a b) y (inl is) = selected_there ps rows a y is
selected_there ps rows (Join at set.Or a b) y (inr is) = selected_there ps rows b y is
selected_there ps rows (Join at (set.Related r side.Right) a b) y (is, reached) = selected_there ps rows b y is
selected_there ps rows (Join at (set.Related r side.Unrelated) a b) y (is, reached) = selected_there ps rows b y is
selected_there ps rows (Join at (set.Related r side.Both) a b) y (inl is) = selected_there ps rows b y is.0
selected_there ps rows (Join at (set.Related r side.Both) a b) y (inr is) = selected_there ps rows a y is.0

-- In an ascending list no number stands before its place.
at_least : (xs : List ℕ) → IsStrictlyIncreasing xs → (k : ℕ) → k < length xs → k ≤ get_or xs k 0
at_least xs up zero low = omega arith
at_least xs up (suc k) low =
    let before = at_least xs up k (omega (arith, low)) in
    let step : get_or xs k 0 < get_or xs (k + 1) 0 = up k (omega (arith, low)) in
    let same : k + 1 ≡ suc k = omega arith in
    subst (λ n. n ≤ get_or xs n 0) same (omega (arith, before, step))

-- An ascending list of numbers below some number has no more of them.
ascending_few : (n : ℕ) (xs : List ℕ) → IsStrictlyIncreasing xs → ((y : ℕ) → Contains xs y → y < n) → length xs ≤ n
ascending_few n [] up below = omega arith
ascending_few n (x ∷ xs) up below =
    let last = at_least (x ∷ xs) up (length xs) (omega arith) in
    let low = below (get_or (x ∷ xs) (length xs) 0) (length xs, omega arith, get_or_any (x ∷ xs) (length xs) 0 (get_or (x ∷ xs) (length xs) 0) (omega arith)) in
    omega (arith, last, low)
  where
    get_or_any : (ys : List ℕ) (k c d : ℕ) → k < length ys → slice_index_or ys k d ≡ slice_index_or ys k c
    get_or_any [] k c d low = absurd (omega arith)
    get_or_any (y ∷ ys) zero c d low = refl
    get_or_any (y ∷ ys) (suc k) c d low = get_or_any ys k c d (omega (arith, low))

-- ---- what is left

-- No spanset has more spans than this.
abbrev Few : ℕ → List Group → Type 0
Few n groups = AllByRecursion (λ g. length g.members ≤ n) groups

few_joined : (n : ℕ) (gs hs : List Group) → Few n gs → Few n hs → Few n (gs ++ hs)
few_joined n [] hs few more = more
few_joined n (g ∷ gs) hs few more = (few.0, few_joined n gs hs few.1 more)

few_filtered : (n : ℕ) (p : Group → Bool) (groups : List Group) → Few n groups → Few n (filter p groups)
few_filtered n p [] few = tt
few_filtered n p (g ∷ groups) few =
    let rest = few_filtered n p groups few.1 in
    elim (p g) as (λ b. Few n (if b then g ∷ filter p groups else filter p groups)) [ true ↦ (few.0, rest) | false ↦ rest ]

few_kept : (ps : List Pattern) (rows : List Row) (n : ℕ) (condition : Option Placed) (groups : List Group) → Few n groups → Few n (map (filter_spanset ps rows condition) groups)
few_kept ps rows n condition [] few = tt
few_kept ps rows n condition (g ∷ groups) few =
    let less = length_filter (filter_position ps rows condition) g.members in
    let here = few.0 in
    (omega (arith, less, here), few_kept ps rows n condition groups few.1)

few_split : (ps : List Pattern) (rows : List Row) (n : ℕ) (e : Tree) (g : Group) → length g.members ≤ n → Few n (split_by ps rows e g)
unfolding split_by
few_split ps rows n e g few = of_values (occurring (map (value_at ps rows e) g.members))
  where
    of_values : (vs : List Value) → Few n (map (λ v. record { by = g.by ++ v ∷ []; members = members_at ps rows e g.members v }) vs)
    of_values [] = tt
    of_values (v ∷ vs) =
        let less = length_filter (λ y. is_eq (value_cmp (value_at ps rows e y) v)) g.members in
        (omega (arith, less, few), of_values vs)

few_by : (ps : List Pattern) (rows : List Row) (n : ℕ) (e : Tree) (groups : List Group) → Few n groups → Few n (flat_map (split_by ps rows e) groups)
few_by ps rows n e [] few = tt
few_by ps rows n e (g ∷ groups) few = few_joined n (split_by ps rows e g) (flat_map (split_by ps rows e) groups) (few_split ps rows n e g few.0) (few_by ps rows n e groups few.1)

few_coalesced : (rows : List Row) (groups : List Group) → Few (length rows) (coalesced rows groups)
unfolding coalesced
few_coalesced rows groups =
    let less = length_filter (is_in_some groups) (positions_from 0 (length rows)) in
    let all = positions_count 0 (length rows) in
    (omega (arith, less, all), tt)

few_after : (ps : List Pattern) (rows : List Row) (stage : StageTree) (groups : List Group) → Few (length rows) groups → Few (length rows) (after_stage ps rows stage groups)
unfolding after_stage
few_after ps rows (Keep at condition) groups few = few_kept ps rows (length rows) condition groups few
few_after ps rows (By e) groups few = few_by ps rows (length rows) e.1 groups few
few_after ps rows Coalesce groups few = few_coalesced rows groups
few_after ps rows (Select fields) groups few = few
few_after ps rows (Compare a at op b) groups few =
    few_filtered (length rows) (λ g. amounts_compare op (aggregate_of ps rows a g.members) (threshold_of ps rows b g.members)) groups few

few_left : (ps : List Pattern) (rows : List Row) (stages : List StageTree) (groups : List Group) → Few (length rows) groups → Few (length rows) (after_stages ps rows stages groups)
few_left ps rows [] groups few = few
few_left ps rows (stage ∷ stages) groups few =
    few_left ps rows stages (drop_empty (after_stage ps rows stage groups)) (few_filtered (length rows) has_spans (after_stage ps rows stage groups) (few_after ps rows stage groups few))

-- ---- what is shown

sets_whole : (fields : List Field) (rows : List Row) (n : ℕ) (groups : List Group) → Few n groups
    → map (cut_set (Some n)) (map (set_result fields rows) groups) ≡ map (set_result fields rows) groups
sets_whole fields rows n [] few = refl
sets_whole fields rows n (g ∷ groups) few =
    let spans = filter_map (hit_at fields rows) g.members in
    let less = length_filter_map (hit_at fields rows) g.members in
    let here = few.0 in
    let all = take_all n spans (omega (arith, less, here)) in
    ap₂ (λ (s : SetResult) (rest : List SetResult). s ∷ rest) (ap (λ (l : List Hit). let s : SetResult = record { by = g.by; matched = length g.members; spans = l } in s) all) (sets_whole fields rows n groups few.1)

shown_whole : (fields : List Field) (rows : List Row) (n : ℕ) (groups : List Group) → Few n groups
    → option_map (cut (Some n)) (shown fields rows groups) ≡ shown fields rows groups
shown_whole fields [] n groups few = refl
shown_whole fields (r ∷ rows) n [] few = refl
shown_whole fields (r ∷ rows) n (g ∷ groups) few =
    ap (λ (sets : List SetResult). let t : TraceResult = record {
      trace = r.span.trace;
      root_name = root_name (r ∷ rows);
      root_service = root_service (r ∷ rows);
      start = start_of (r ∷ rows);
      duration = trace_nanos (r ∷ rows);
      sets = sets;
    } in Some t) (sets_whole fields (r ∷ rows) n (g ∷ groups) few)

-- With as many spans of each spanset as the trace has rows, all are shown.
pub uncut : (ps : List Pattern) (rows : List Row) (q : QueryTree) (outcome : Option TraceResult) → IsCutOutcome (Some (length rows)) ps rows q outcome → IsOutcome ps rows q outcome
uncut ps rows q outcome is =
    let whole = is.is_outcome in
    let selected = whole.selected in
    let first : Group = record { by = []; members = selected } in
    let below = ascending_few (length rows) selected whole.lists.ascending (λ y c. selected_there ps rows q.spansets y (whole.lists.only y c)) in
    let few = few_left ps rows q.stages (drop_empty (first ∷ [])) (few_filtered (length rows) has_spans (first ∷ []) (below, tt)) in
    record {
      selected = selected;
      lists = whole.lists;
      is = is.is ∙ ap (option_map (cut (Some (length rows)))) whole.is ∙ shown_whole (selected_fields q.stages) rows (length rows) (remaining ps rows q.stages selected) few;
    }
