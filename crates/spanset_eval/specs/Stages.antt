-- What a query's stages make of spansets. A spanset's spans are named by their positions in the trace, in ascending order.
use Rattle.std.specs.Prelude.{ℕ, ◌==◌, zero, suc, List, [], ◌∷◌, ◌++◌, ℤ, pos, ◌+ℤ◌, ◌*ℤ◌, neg_ℤ, Bool, true, false, not, map, filter, length, Option, Some, None, if◌then◌else◌, slice_get}
use Rattle.std.specs.List.{filter_map, flat_map, list_any}
use Rattle.std.specs.Option.{option_map_or}
use Rattle.std.specs.Ordering.{int_cmp, is_eq, is_lt, is_gt}
use Rattle.std.specs.declared.cmp.Ordering.{Ordering}
use Rattle.span_types.specs.declared.spans.Row.{Row}
use Rattle.traceql_syntax.specs.declared.field.Comparison.{Comparison}
use Rattle.traceql_syntax.specs.declared.field.Field.{Field}
use Rattle.traceql_syntax.specs.declared.query.AggregateOp.{AggregateOp}
use Rattle.traceql_syntax.specs.declared.query.AggregateOp.TheVariants as aggregate
use Rattle.traceql_syntax.specs.Trees.{Placed, Tree, AggregateTree, Count, Of, ThresholdTree, Aggregate, Number, Duration, StageTree, Keep, By, Coalesce, Select, Compare}
use Rattle.traceql_types.specs.declared.pattern.Pattern.{Pattern}
use Rattle.traceql_value.specs.declared.value.Value.{Value}
use Rattle.traceql_value.specs.declared.value.Value.TheVariants as value
use Rattle.traceql_value.specs.Meaning.{value_of}
use Rattle.traceql_value.specs.Values.{accepts, value_cmp, whole_of}
use Rattle.spanset_eval.specs.declared.amounts.Amount.{Amount}
use Rattle.spanset_eval.specs.declared.groups.Group.{Group}
use Rattle.spanset_eval.specs.Sets.{filter_span}

-- the value of an expression for the span at a position; nil where there is none
abbrev pub value_at : List Pattern → List Row → Tree → ℕ → Value
value_at ps rows e y = option_map_or (λ r. value_of ps rows r.span e) (slice_get rows y) value.Nil

-- whether a filter keeps the span at a position; not where there is none
abbrev pub filter_position : List Pattern → List Row → Option Placed → ℕ → Bool
filter_position ps rows condition y = option_map_or (λ r. filter_span ps rows condition r.span) (slice_get rows y) false

-- a spanset with the spans that a filter keeps
abbrev pub filter_spanset : List Pattern → List Row → Option Placed → Group → Group
filter_spanset ps rows condition g = record { by = g.by; members = filter (filter_position ps rows condition) g.members }

-- ---- `by`

-- a value among others in ascending order, each of them once
abbrev pub insert_value : Value → List Value → List Value
insert_value v [] = v ∷ []
insert_value v (w ∷ ws) = if is_lt (value_cmp v w) then v ∷ w ∷ ws else if is_eq (value_cmp v w) then w ∷ ws else w ∷ insert_value v ws

-- the values that occur, in ascending order, each of them once
abbrev pub occurring : List Value → List Value
occurring [] = []
occurring (v ∷ vs) = insert_value v (occurring vs)

-- the members for which the expression has this value
abbrev pub members_at : List Pattern → List Row → Tree → List ℕ → Value → List ℕ
members_at ps rows e members v = filter (λ y. is_eq (value_cmp (value_at ps rows e y) v)) members

-- a spanset for each value that the expression has in this one
unfoldable pub split_by : List Pattern → List Row → Tree → Group → List Group
split_by ps rows e g =
    map (λ v. record { by = g.by ++ v ∷ []; members = members_at ps rows e g.members v }) (occurring (map (value_at ps rows e) g.members))

-- ---- `coalesce`

-- whether one of the spansets has the span
abbrev pub is_in_some : List Group → ℕ → Bool
is_in_some groups y = list_any (λ g. list_any (λ x. x == y) g.members) groups

-- so many positions, from this one on
abbrev pub positions_from : ℕ → ℕ → List ℕ
positions_from first zero = []
positions_from first (suc more) = first ∷ positions_from (suc first) more

-- all spansets as one that wasn't split
unfoldable pub coalesced : List Row → List Group → List Group
coalesced rows groups = record { by = []; members = filter (is_in_some groups) (positions_from 0 (length rows)) } ∷ []

-- ---- aggregates

-- The numbers that the argument has in a spanset. It has no division, so they are whole.
abbrev pub numbers_of : List Pattern → List Row → Tree → List ℕ → List ℤ
numbers_of ps rows e members = filter_map (λ y. whole_of (value_at ps rows e y)) members

abbrev pub total_of : List ℤ → ℤ
total_of [] = pos 0
total_of (n ∷ ns) = n +ℤ total_of ns

-- the least and the greatest of a number and others
abbrev pub least_of : ℤ → List ℤ → ℤ
least_of n [] = n
least_of n (m ∷ ms) = if is_lt (int_cmp m n) then least_of m ms else least_of n ms

abbrev pub greatest_of : ℤ → List ℤ → ℤ
greatest_of n [] = n
greatest_of n (m ∷ ms) = if is_gt (int_cmp m n) then greatest_of m ms else greatest_of n ms

-- what an aggregate makes of numbers; of none it makes none
abbrev pub amount_of : AggregateOp → List ℤ → Option Amount
amount_of op [] = None
amount_of aggregate.Average (n ∷ ns) = Some (record { top = total_of (n ∷ ns); bottom = length (n ∷ ns) })
amount_of aggregate.Least (n ∷ ns) = Some (record { top = least_of n ns; bottom = 1 })
amount_of aggregate.Greatest (n ∷ ns) = Some (record { top = greatest_of n ns; bottom = 1 })
amount_of aggregate.Sum (n ∷ ns) = Some (record { top = total_of (n ∷ ns); bottom = 1 })

abbrev pub aggregate_of : List Pattern → List Row → AggregateTree → List ℕ → Option Amount
aggregate_of ps rows Count members = Some (record { top = pos (length members); bottom = 1 })
aggregate_of ps rows (Of op e) members = amount_of op (numbers_of ps rows e.1 members)

abbrev pub signed : Bool → ℕ → ℤ
signed true n = neg_ℤ (pos n)
signed false n = pos n

abbrev pub threshold_of : List Pattern → List Row → ThresholdTree → List ℕ → Option Amount
threshold_of ps rows (Aggregate a) members = aggregate_of ps rows a members
threshold_of ps rows (Number at negative n) members = Some (record { top = signed negative n; bottom = 1 })
threshold_of ps rows (Duration at negative n) members = Some (record { top = signed negative n; bottom = 1 })

-- which of two amounts is less, exactly
abbrev pub amount_cmp : Amount → Amount → Ordering
amount_cmp a b = int_cmp (a.top *ℤ pos b.bottom) (b.top *ℤ pos a.bottom)

-- A comparison with none is false.
abbrev pub amounts_compare : Comparison → Option Amount → Option Amount → Bool
amounts_compare c (Some a) (Some b) = accepts c (amount_cmp a b)
amounts_compare c _ _ = false

-- ---- pipelines

-- spansets without spans are dropped
abbrev pub has_spans : Group → Bool
has_spans g = not (length g.members == 0)

abbrev pub drop_empty : List Group → List Group
drop_empty groups = filter has_spans groups

-- what a stage makes of spansets; `select` changes what is shown and not the spansets
unfoldable pub after_stage : List Pattern → List Row → StageTree → List Group → List Group
after_stage ps rows (Keep at condition) groups = map (filter_spanset ps rows condition) groups
after_stage ps rows (By e) groups = flat_map (split_by ps rows e.1) groups
after_stage ps rows Coalesce groups = coalesced rows groups
after_stage ps rows (Select fields) groups = groups
after_stage ps rows (Compare a at op b) groups =
    filter (λ g. amounts_compare op (aggregate_of ps rows a g.members) (threshold_of ps rows b g.members)) groups

-- what all stages make of spansets
abbrev pub after_stages : List Pattern → List Row → List StageTree → List Group → List Group
after_stages ps rows [] groups = groups
after_stages ps rows (stage ∷ stages) groups = after_stages ps rows stages (drop_empty (after_stage ps rows stage groups))

-- what a query leaves of a trace whose spans at these positions it selects
abbrev pub remaining : List Pattern → List Row → List StageTree → List ℕ → List Group
remaining ps rows stages selected = after_stages ps rows stages (drop_empty (record { by = []; members = selected } ∷ []))

-- the fields that the stages select, in the text's order
abbrev pub fields_of_stage : StageTree → List Field
fields_of_stage (Select fields) = fields
fields_of_stage _ = []

abbrev pub selected_fields : List StageTree → List Field
selected_fields stages = flat_map fields_of_stage stages
