-- What a query is refused for its kinds is neither a refusal of a pattern nor out of memory.
use Rattle.std.proofs.Common.{ℕ, List, [], ◌∷◌, ◌++◌, Option, Some, None, Bool, true, false}
use Rattle.std.specs.Prelude.{All, IfSome, if◌then◌else◌}
use Rattle.std.specs.List.{flat_map}
use Rattle.std.proofs.lemmas.List.Concat.{flat_map-cons}
use Rattle.std.proofs.lemmas.List.Elements.{All-append, All-cons, All-nil}
use Rattle.traceql_syntax.specs.declared.field.BinaryOp.{BinaryOp}
use Rattle.traceql_syntax.specs.declared.field.BinaryOp.TheVariants as binary
use Rattle.traceql_syntax.specs.declared.field.Literal.{Literal}
use Rattle.traceql_syntax.specs.declared.field.Literal.TheVariants as literal
use Rattle.traceql_syntax.specs.declared.field.UnaryOp.{UnaryOp}
use Rattle.traceql_syntax.specs.declared.field.UnaryOp.TheVariants as unary
use Rattle.traceql_syntax.specs.Trees.{Tree, Literally, Asks, Unary, Binary, Match, Placed, SetTree, Filter, Join, AggregateTree, Count, Of, ThresholdTree, Aggregate, Number, Duration, StageTree, Keep, By, Coalesce, Select, Compare, QueryTree}
use Rattle.traceql_types.specs.declared.errors.TypeError.{TypeError}
use Rattle.traceql_types.specs.declared.errors.TypeError.TheVariants.{KindClash, BadPattern, PatternTooBig, Memory}
use Rattle.traceql_types.specs.declared.kinds.Kind.{Kind}
use Rattle.traceql_types.specs.declared.kinds.Kind.TheVariants as kind
use Rattle.traceql_types.specs.Kinds.{kind_of, clashes}
use Rattle.traceql_types.specs.Order.{listed}
use Rattle.traceql_types.specs.Refusals.{stray_nil, unless_truth, unless_number, unless_text, as_truth, as_number, under_unary, under_binary, under_match, expr_refusals, own_division, divisions, filter_refusals, aggregate_refusals, threshold_refusals, set_refusals, stage_refusals, kind_refusals}

abbrev pub IsOfKinds : TypeError → Type 0
IsOfKinds (BadPattern at) = ⊥
IsOfKinds (PatternTooBig at) = ⊥
IsOfKinds Memory = ⊥
IsOfKinds e = Unit {0}

one : (o : Option TypeError) → IfSome o IsOfKinds → All IsOfKinds (listed o)
one None h = All-nil IsOfKinds
one (Some e) h = All-cons IsOfKinds e [] h (All-nil IsOfKinds)

both : (xs ys : List TypeError) → All IsOfKinds xs → All IsOfKinds ys → All IsOfKinds (xs ++ ys)
both = All-append IsOfKinds

nil_literal : (at : ℕ) (l : Literal) → IfSome (stray_nil (Literally at l)) IsOfKinds
nil_literal at literal.Nil = tt
nil_literal at _ = tt

nil_fine : (t : Tree) → IfSome (stray_nil t) IsOfKinds
nil_fine (Literally at l) = nil_literal at l
nil_fine _ = tt

truth_fine : (at : ℕ) (k : Kind) → IfSome (unless_truth at k) IsOfKinds
truth_fine at kind.Open = tt
truth_fine at _ = tt

number_fine : (at : ℕ) (k : Kind) → IfSome (unless_number at k) IsOfKinds
number_fine at kind.Open = tt
number_fine at _ = tt

text_fine : (at : ℕ) (k : Kind) → IfSome (unless_text at k) IsOfKinds
text_fine at kind.Open = tt
text_fine at _ = tt

as_truth_fine : (e : Placed) → All IsOfKinds (as_truth e)
as_truth_fine e = both _ _ (one _ (nil_fine e.1)) (one _ (truth_fine e.0 (kind_of e.1)))

as_number_fine : (e : Placed) → All IsOfKinds (as_number e)
as_number_fine e = both _ _ (one _ (nil_fine e.1)) (one _ (number_fine e.0 (kind_of e.1)))

unary_fine : (op : UnaryOp) (e : Placed) → All IsOfKinds (under_unary op e)
unary_fine unary.Negate e = as_number_fine e
unary_fine unary.Not e = as_truth_fine e

if_fine : (b : Bool) (at : ℕ) → IfSome (if b then Some (KindClash at) else None) IsOfKinds
if_fine true at = tt
if_fine false at = tt

binary_fine : (at : ℕ) (op : BinaryOp) (a b : Placed) → All IsOfKinds (under_binary at op a b)
binary_fine at binary.Or a b = both _ _ (as_truth_fine a) (as_truth_fine b)
binary_fine at binary.And a b = both _ _ (as_truth_fine a) (as_truth_fine b)
binary_fine at (binary.Compare c) a b = one _ (if_fine (clashes c (kind_of a.1) (kind_of b.1)) at)
binary_fine at _ a b = both _ _ (as_number_fine a) (as_number_fine b)

match_fine : (at : ℕ) (e : Tree) → All IsOfKinds (under_match at e)
match_fine at e = both _ _ (one _ (nil_fine e)) (one _ (text_fine at (kind_of e)))

expr_fine : (t : Tree) → All IsOfKinds (expr_refusals t)
expr_fine (Literally at l) = All-nil IsOfKinds
expr_fine (Asks at f) = All-nil IsOfKinds
expr_fine (Unary at op first e) = both _ _ (unary_fine op (first, e)) (expr_fine e)
expr_fine (Binary at op first a second b) =
    both _ _ (both _ _ (binary_fine at op (first, a) (second, b)) (expr_fine a)) (expr_fine b)
expr_fine (Match at negated first e pattern_at pattern) = both _ _ (match_fine at e) (expr_fine e)

own_fine : (at : ℕ) (op : BinaryOp) → IfSome (own_division at op) IsOfKinds
own_fine at binary.Divide = tt
own_fine at _ = tt

division_fine : (t : Tree) → All IsOfKinds (divisions t)
division_fine (Literally at l) = All-nil IsOfKinds
division_fine (Asks at f) = All-nil IsOfKinds
division_fine (Unary at op first e) = division_fine e
division_fine (Binary at op first a second b) =
    both _ _ (both _ _ (one _ (own_fine at op)) (division_fine a)) (division_fine b)
division_fine (Match at negated first e pattern_at pattern) = division_fine e

filter_fine : (o : Option Placed) → All IsOfKinds (filter_refusals o)
filter_fine None = All-nil IsOfKinds
filter_fine (Some e) = both _ _ (as_truth_fine e) (expr_fine e.1)

aggregate_fine : (a : AggregateTree) → All IsOfKinds (aggregate_refusals a)
aggregate_fine Count = All-nil IsOfKinds
aggregate_fine (Of op e) = both _ _ (both _ _ (as_number_fine e) (expr_fine e.1)) (division_fine e.1)

threshold_fine : (t : ThresholdTree) → All IsOfKinds (threshold_refusals t)
threshold_fine (Aggregate a) = aggregate_fine a
threshold_fine (Number at negative value) = All-nil IsOfKinds
threshold_fine (Duration at negative nanos) = All-nil IsOfKinds

set_fine : (s : SetTree) → All IsOfKinds (set_refusals s)
set_fine (Filter at condition) = filter_fine condition
set_fine (Join at op a b) = both _ _ (set_fine a) (set_fine b)

stage_fine : (s : StageTree) → All IsOfKinds (stage_refusals s)
stage_fine (Keep at condition) = filter_fine condition
stage_fine (By e) = both _ _ (one _ (nil_fine e.1)) (expr_fine e.1)
stage_fine Coalesce = All-nil IsOfKinds
stage_fine (Select fields) = All-nil IsOfKinds
stage_fine (Compare a at op b) = both _ _ (aggregate_fine a) (threshold_fine b)

stages_fine : (ss : List StageTree) → All IsOfKinds (flat_map stage_refusals ss)
stages_fine [] = All-nil IsOfKinds
stages_fine (s ∷ ss) = rw (flat_map-cons stage_refusals s ss) (both _ _ (stage_fine s) (stages_fine ss))

pub kinds_fine : (q : QueryTree) → All IsOfKinds (kind_refusals q)
kinds_fine q = both _ _ (set_fine q.spansets) (stages_fine q.stages)
