-- What asks for columns alone is told by them, in whatever trace.
use Rattle.std.proofs.Common.{◌≡◌, Bool, true, false, List, [], ◌∷◌, ◌++◌, refl, ◌∙◌, ap, subst, ◌-◌}
use Rattle.std.specs.List.{list_all}
use Rattle.span_types.specs.declared.spans.Row.{Row}
use Rattle.span_types.specs.declared.spans.Span.{Span}
use Rattle.traceql_tokens.specs.declared.fixed.Intrinsic.{Intrinsic}
use Rattle.traceql_tokens.specs.declared.fixed.Intrinsic.TheVariants as intrinsic
use Rattle.traceql_syntax.specs.declared.field.BinaryOp.{BinaryOp}
use Rattle.traceql_syntax.specs.declared.field.Field.{Field}
use Rattle.traceql_syntax.specs.declared.field.Field.TheVariants as field
use Rattle.traceql_syntax.specs.Trees.{Tree, Literally, Asks, Unary, Binary, Match}
use Rattle.traceql_types.specs.declared.pattern.Pattern.{Pattern}
use Rattle.traceql_value.specs.declared.value.Value.{Value}
use Rattle.traceql_value.specs.declared.value.Value.TheVariants as value
use Rattle.traceql_value.specs.Meaning.{apply_binary, is_literal_nil, is_so, matched, value_of}
use Rattle.traceql_value.specs.Spans.{field_of_span, span_nanos}
use Rattle.traceql_value.specs.Values.{apply_unary, is_true, nanoseconds}
use Rattle.column_scan.specs.Hints.{is_conjunction}
use Rattle.column_scan.specs.Sieves.{ColumnsTell, SameColumns, column_members, if_columns, is_column, reads_columns}
use Rattle.column_scan.proofs.HintLaws.{and_left, and_right, both_so, conjunction_is}

same_nanos : (s t : Span) → SameColumns s t → nanoseconds (span_nanos s) ≡ nanoseconds (span_nanos t)
same_nanos s t same = ap nanoseconds (λ i. same.ended i - same.start i)

intrinsic_told : (k : Intrinsic) (rows others : List Row) (s t : Span) → is_column (field.Intrinsic k) ≡ true → SameColumns s t → field_of_span (field.Intrinsic k) rows s ≡ field_of_span (field.Intrinsic k) others t
unfolding field_of_span
intrinsic_told intrinsic.Status rows others s t is same = ap value.Status same.status
intrinsic_told intrinsic.SpanStatus rows others s t is same = ap value.Status same.status
intrinsic_told intrinsic.Kind rows others s t is same = ap value.Kind same.kind
intrinsic_told intrinsic.SpanKind rows others s t is same = ap value.Kind same.kind
intrinsic_told intrinsic.Duration rows others s t is same = same_nanos s t same
intrinsic_told intrinsic.SpanDuration rows others s t is same = same_nanos s t same
intrinsic_told _ rows others s t is same = cc

field_told : (f : Field) (rows others : List Row) (s t : Span) → is_column f ≡ true → SameColumns s t → field_of_span f rows s ≡ field_of_span f others t
field_told (field.Intrinsic k) rows others s t is same = intrinsic_told k rows others s t is same
field_told (field.Attribute where_ name) rows others s t is same = cc

value_told : (ps : List Pattern) (rows others : List Row) (s t : Span) (e : Tree) → reads_columns e ≡ true → SameColumns s t → value_of ps rows s e ≡ value_of ps others t e
unfolding value_of
value_told ps rows others s t (Literally at l) reads same = refl
value_told ps rows others s t (Asks at f) reads same = field_told f rows others s t reads same
value_told ps rows others s t (Unary at op first e) reads same = ap (apply_unary op) (value_told ps rows others s t e reads same)
value_told ps rows others s t (Binary at op first a second b) reads same =
    let left = value_told ps rows others s t a (and_left (reads_columns a) (reads_columns b) reads) same in
    let right = value_told ps rows others s t b (and_right (reads_columns a) (reads_columns b) reads) same in
    λ i. apply_binary op (is_literal_nil a) (is_literal_nil b) (left i) (right i)
value_told ps rows others s t (Match at negated first e pattern_at pattern) reads same =
    ap (λ (v : Value). value.Truth (matched ps pattern negated v)) (value_told ps rows others s t e reads same)

pub told : ColumnsTell
told ps s t e reads same = ap is_true (value_told ps [] [] s t e reads same)

-- ---- the members of a filter

pub both_all : {X : Type 0} (p : X → Bool) (xs ys : List X) → list_all p xs ≡ true → list_all p ys ≡ true → list_all p (xs ++ ys) ≡ true
both_all p [] ys left right = right
both_all p (x ∷ xs) ys left right = (elim (p x) as (λ b. p x ≡ b → list_all p ((x ∷ xs) ++ ys) ≡ true) [
  | true ↦ λ t. rw t (both_all p xs ys (rw t at left) right)
  | false ↦ λ t. let bad : false ≡ true = rw t at left in cc
]) refl

module _ (ps : List Pattern) (rows : List Row) (s : Span) where
  if_so : (e : Tree) → is_so ps rows s e ≡ true → list_all (λ m. is_so ps [] s m) (if_columns e) ≡ true
  if_so e so = (elim (reads_columns e) as (λ b. reads_columns e ≡ b → list_all (λ m. is_so ps [] s m) (if_columns e) ≡ true) [
    | true ↦ λ t.
        let here : is_so ps [] s e ≡ true = ap is_true (value_told ps [] rows s s e t (record { kind = refl; status = refl; start = refl; ended = refl })) ∙ so in
        rw t (rw here refl)
    | false ↦ λ t. rw t refl
  ]) refl

  -- the members are so of a span of which the filter is, in no trace
  pub members_so : (e : Tree) → is_so ps rows s e ≡ true → list_all (λ m. is_so ps [] s m) (column_members e) ≡ true
  members_so (Literally at l) so = if_so (Literally at l) so
  members_so (Asks at f) so = if_so (Asks at f) so
  members_so (Unary at op first e) so = if_so (Unary at op first e) so
  members_so (Match at negated first e pattern_at pattern) so = if_so (Match at negated first e pattern_at pattern) so
  members_so (Binary at op first a second b) so = (elim (is_conjunction op) as (λ t. is_conjunction op ≡ t → list_all (λ m. is_so ps [] s m) (column_members (Binary at op first a second b)) ≡ true) [
    | true ↦ λ t.
        let parts = both_so ps rows s at first second a b (subst (λ (o : BinaryOp). is_so ps rows s (Binary at o first a second b) ≡ true) (conjunction_is op t) so) in
        rw t (both_all (λ m. is_so ps [] s m) (column_members a) (if_columns b) (members_so a parts.0) (if_so b parts.1))
    | false ↦ λ t. rw t (if_so (Binary at op first a second b) so)
  ]) refl
