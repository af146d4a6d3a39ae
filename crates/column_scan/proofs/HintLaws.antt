-- A trace of which a query answers something has a span that holds the query's text.
use Rattle.std.proofs.Common.{◌≡◌, ℕ, zero, suc, ◌||◌, ◌&&◌, Bool, true, false, List, [], ◌∷◌, length, Option, None, Some, find, filter, refl, sym, ◌∙◌, ap, subst, arith}
use Rattle.std.specs.Prelude.{slice_get, Contains}
use Rattle.std.specs.List.{list_any}
use Rattle.std.specs.Option.{option_or, option_map, option_map_or}
use Rattle.std.specs.Str.{bytes_eq}
use Rattle.std.proofs.lemmas.Map.Text.{is_eq-slice_cmp}
use Rattle.span_types.specs.declared.attrs.Attr.{Attr}
use Rattle.span_types.specs.declared.attrs.AttrValue.{AttrValue}
use Rattle.span_types.specs.declared.attrs.AttrValue.TheVariants as attr
use Rattle.span_types.specs.declared.spans.Row.{Row}
use Rattle.span_types.specs.declared.spans.Span.{Span}
use Rattle.traceql_tokens.specs.declared.fixed.AttributeScope.TheVariants as scope
use Rattle.traceql_tokens.specs.declared.fixed.Intrinsic.{Intrinsic}
use Rattle.traceql_tokens.specs.declared.fixed.Intrinsic.TheVariants as intrinsic
use Rattle.traceql_syntax.specs.declared.field.BinaryOp.{BinaryOp}
use Rattle.traceql_syntax.specs.declared.field.BinaryOp.TheVariants as binary
use Rattle.traceql_syntax.specs.declared.field.Comparison.TheVariants as comparison
use Rattle.traceql_syntax.specs.declared.field.Field.{Field}
use Rattle.traceql_syntax.specs.declared.field.Field.TheVariants as field
use Rattle.traceql_syntax.specs.declared.field.Literal.{Literal}
use Rattle.traceql_syntax.specs.declared.field.Literal.TheVariants as literal
use Rattle.traceql_syntax.specs.Trees.{Placed, Tree, Literally, Asks, Unary, Binary, Match, SetTree, Filter, Join, QueryTree, StageTree, Keep, By, Coalesce, Select, Compare}
use Rattle.traceql_types.specs.declared.pattern.Pattern.{Pattern}
use Rattle.traceql_value.specs.declared.value.Value.{Value}
use Rattle.traceql_value.specs.declared.value.Value.TheVariants as value
use Rattle.traceql_value.specs.Meaning.{is_so, value_of}
use Rattle.traceql_value.specs.Spans.{attr_named, field_of_span, or_else, value_named}
use Rattle.traceql_value.specs.Values.{attr_value, compares}
use Rattle.spanset_eval.specs.Outcomes.{IsOutcome, shown}
use Rattle.spanset_eval.specs.Sets.{PassesFilter, Selects, filter_span}
use Rattle.spanset_eval.specs.Stages.{after_stage, after_stages, coalesced, drop_empty, is_in_some, positions_from, remaining, selected_fields}
use Rattle.spanset_eval.specs.declared.results.TraceResult.{TraceResult}
use Rattle.column_scan.specs.Hints.{asked_text, both_text, chain_text, field_in, filter_text, has_text, holds_text, is_conjunction, is_equality, is_text, literal_in, member_text, query_text, set_text, tells_text, text_of}

-- ---- booleans and lists

or_left : (a b : Bool) → a ≡ true → (a || b) ≡ true
or_left true b is = refl
or_left false b is = cc

or_right : (a b : Bool) → b ≡ true → (a || b) ≡ true
or_right true b is = refl
or_right false b is = is

pub and_left : (a b : Bool) → (a && b) ≡ true → a ≡ true
and_left true b is = refl
and_left false b is = cc

pub and_right : (a b : Bool) → (a && b) ≡ true → b ≡ true
and_right true b is = is
and_right false b is = cc

found_there : {X : Type 0} (p q : X → Bool) (xs : List X) (x : X) → find p xs ≡ Some x → q x ≡ true → list_any q xs ≡ true
found_there p q [] x h is = cc
found_there {X} p q (y ∷ xs) x h is = (elim (p y) as (λ b. p y ≡ b → list_any q (y ∷ xs) ≡ true) [
  | true ↦ λ t. let h' = rw t at h in let same : y ≡ x = cc in or_left (q y) (list_any q xs) (subst (λ (z : X). q z ≡ true) (sym same) is)
  | false ↦ λ t. or_right (q y) (list_any q xs) (found_there p q xs x (rw t at h) is)
]) refl

pub there_any : {X : Type 0} (q : X → Bool) (xs : List X) (i : ℕ) (x : X) → slice_get xs i ≡ Some x → q x ≡ true → list_any q xs ≡ true
there_any q [] i x h is = let none : ⊥ = cc in absurd none
there_any {X} q (y ∷ xs) zero x h is = let same : y ≡ x = cc in or_left (q y) (list_any q xs) (subst (λ (z : X). q z ≡ true) (sym same) is)
there_any q (y ∷ xs) (suc i) x h is = or_right (q y) (list_any q xs) (there_any q xs i x h is)

-- ---- values

-- what equals a text is a text
equal_text : (v : Value) (text : List ℕ) → compares comparison.Equal v (value.Text text) ≡ true → (t : List ℕ) × (v ≡ value.Text t) × (bytes_eq t text ≡ true)
equal_text (value.Text t) text is = (t, refl, sym (is_eq-slice_cmp t text) ∙ is)
equal_text value.Nil text is = cc
equal_text (value.Truth b) text is = cc
equal_text (value.Number n) text is = cc
equal_text (value.Status c) text is = cc
equal_text (value.Kind k) text is = cc

text_there : (a : AttrValue) (t text : List ℕ) → attr_value a ≡ value.Text t → bytes_eq t text ≡ true → is_text text a ≡ true
text_there (attr.Text u) t text is same = let e : u ≡ t = cc in subst (λ (w : List ℕ). bytes_eq w text ≡ true) (sym e) same
text_there (attr.Whole n) t text is same = cc
text_there (attr.Truth b) t text is same = cc

named_there : (name : List ℕ) (attrs : List Attr) (a : AttrValue) (t text : List ℕ) → attr_named name attrs ≡ Some a → attr_value a ≡ value.Text t → bytes_eq t text ≡ true → has_text text attrs ≡ true
named_there name attrs a t text is its same = at (find (λ (x : Attr). bytes_eq x.key name) attrs) refl
  where
    at : (o : Option Attr) → find (λ (x : Attr). bytes_eq x.key name) attrs ≡ o → has_text text attrs ≡ true
    at None e = let bad : None ≡ Some a = sym (ap (option_map (λ (x : Attr). x.value)) e) ∙ is in cc
    at (Some x) e =
        let one : Some x.value ≡ Some a = sym (ap (option_map (λ (y : Attr). y.value)) e) ∙ is in
        let v : x.value ≡ a = cc in
        found_there (λ (y : Attr). bytes_eq y.key name) (λ (y : Attr). is_text text y.value) attrs x e (text_there x.value t text (ap attr_value v ∙ its) same)

value_there : (name : List ℕ) (attrs : List Attr) (t text : List ℕ) → value_named name attrs ≡ value.Text t → bytes_eq t text ≡ true → has_text text attrs ≡ true
value_there name attrs t text is same = at (attr_named name attrs) refl
  where
    at : (o : Option AttrValue) → attr_named name attrs ≡ o → has_text text attrs ≡ true
    at None e = let bad : value.Nil ≡ value.Text t = sym (ap (λ (x : Option AttrValue). option_map_or attr_value x value.Nil) e) ∙ is in cc
    at (Some a) e = named_there name attrs a t text e (sym (ap (λ (x : Option AttrValue). option_map_or attr_value x value.Nil) e) ∙ is) same

any_there : (name : List ℕ) (s : Span) (t text : List ℕ) → or_else (attr_named name s.attrs) (value_named name s.resource.attrs) ≡ value.Text t → bytes_eq t text ≡ true
    → (has_text text s.attrs || has_text text s.resource.attrs) ≡ true
any_there name s t text is same = at (attr_named name s.attrs) refl
  where
    at : (o : Option AttrValue) → attr_named name s.attrs ≡ o → (has_text text s.attrs || has_text text s.resource.attrs) ≡ true
    at None e = or_right (has_text text s.attrs) (has_text text s.resource.attrs) (value_there name s.resource.attrs t text (sym (ap (λ (x : Option AttrValue). or_else x (value_named name s.resource.attrs)) e) ∙ is) same)
    at (Some a) e = or_left (has_text text s.attrs) (has_text text s.resource.attrs)
        (named_there name s.attrs a t text e (sym (ap (λ (x : Option AttrValue). or_else x (value_named name s.resource.attrs)) e) ∙ is) same)

-- the four places of a text
in_name : (text : List ℕ) (s : Span) → bytes_eq s.name text ≡ true → holds_text text s ≡ true
in_name text s is = or_left (bytes_eq s.name text) (has_text text s.attrs || (has_text text s.resource.attrs || has_text text s.scope.attrs)) is

in_attrs : (text : List ℕ) (s : Span) → has_text text s.attrs ≡ true → holds_text text s ≡ true
in_attrs text s is =
    or_right (bytes_eq s.name text) (has_text text s.attrs || (has_text text s.resource.attrs || has_text text s.scope.attrs))
    (or_left (has_text text s.attrs) (has_text text s.resource.attrs || has_text text s.scope.attrs) is)

in_resource : (text : List ℕ) (s : Span) → has_text text s.resource.attrs ≡ true → holds_text text s ≡ true
in_resource text s is =
    or_right (bytes_eq s.name text) (has_text text s.attrs || (has_text text s.resource.attrs || has_text text s.scope.attrs))
    (or_right (has_text text s.attrs) (has_text text s.resource.attrs || has_text text s.scope.attrs)
    (or_left (has_text text s.resource.attrs) (has_text text s.scope.attrs) is))

in_either : (text : List ℕ) (s : Span) (a : Bool) → has_text text s.attrs ≡ a → (has_text text s.attrs || has_text text s.resource.attrs) ≡ true → holds_text text s ≡ true
in_either text s true here is = in_attrs text s here
in_either text s false here is = in_resource text s (let e : (false || has_text text s.resource.attrs) ≡ true = sym (ap (λ (b : Bool). b || has_text text s.resource.attrs) here) ∙ is in e)

intrinsic_holds : (i : Intrinsic) (rows : List Row) (s : Span) (t text : List ℕ) → tells_text (field.Intrinsic i) ≡ true → field_of_span (field.Intrinsic i) rows s ≡ value.Text t → bytes_eq t text ≡ true
    → holds_text text s ≡ true
unfolding field_of_span
intrinsic_holds intrinsic.Name rows s t text tells is same = let e : s.name ≡ t = cc in in_name text s (subst (λ (w : List ℕ). bytes_eq w text ≡ true) (sym e) same)
intrinsic_holds intrinsic.SpanName rows s t text tells is same = let e : s.name ≡ t = cc in in_name text s (subst (λ (w : List ℕ). bytes_eq w text ≡ true) (sym e) same)
intrinsic_holds intrinsic.Status rows s t text tells is same = cc
intrinsic_holds intrinsic.SpanStatus rows s t text tells is same = cc
intrinsic_holds intrinsic.StatusMessage rows s t text tells is same = cc
intrinsic_holds intrinsic.SpanStatusMessage rows s t text tells is same = cc
intrinsic_holds intrinsic.Kind rows s t text tells is same = cc
intrinsic_holds intrinsic.SpanKind rows s t text tells is same = cc
intrinsic_holds intrinsic.Duration rows s t text tells is same = cc
intrinsic_holds intrinsic.SpanDuration rows s t text tells is same = cc
intrinsic_holds intrinsic.SpanId rows s t text tells is same = cc
intrinsic_holds intrinsic.TraceId rows s t text tells is same = cc
intrinsic_holds intrinsic.SpanParentId rows s t text tells is same = cc
intrinsic_holds intrinsic.TraceDuration rows s t text tells is same = cc
intrinsic_holds intrinsic.TraceColonDuration rows s t text tells is same = cc
intrinsic_holds intrinsic.RootName rows s t text tells is same = cc
intrinsic_holds intrinsic.TraceRootName rows s t text tells is same = cc
intrinsic_holds intrinsic.RootServiceName rows s t text tells is same = cc
intrinsic_holds intrinsic.TraceRootService rows s t text tells is same = cc
intrinsic_holds intrinsic.InstrumentationName rows s t text tells is same = cc
intrinsic_holds intrinsic.InstrumentationVersion rows s t text tells is same = cc

-- a span that has a text in such a field holds it
field_holds : (f : Field) (rows : List Row) (s : Span) (t text : List ℕ) → tells_text f ≡ true → field_of_span f rows s ≡ value.Text t → bytes_eq t text ≡ true → holds_text text s ≡ true
unfolding field_of_span
field_holds (field.Attribute scope.Any name) rows s t text tells is same = in_either text s (has_text text s.attrs) refl (any_there name s t text is same)
field_holds (field.Attribute scope.Span name) rows s t text tells is same = in_attrs text s (value_there name s.attrs t text is same)
field_holds (field.Attribute scope.Resource name) rows s t text tells is same = in_resource text s (value_there name s.resource.attrs t text is same)
field_holds (field.Attribute scope.Instrumentation name) rows s t text tells is same = cc
field_holds (field.Intrinsic i) rows s t text tells is same = intrinsic_holds i rows s t text tells is same

-- ---- members and chains

equality_is : (op : BinaryOp) → is_equality op ≡ true → op ≡ binary.Compare comparison.Equal
equality_is (binary.Compare comparison.Equal) is = refl
equality_is (binary.Compare comparison.NotEqual) is = cc
equality_is (binary.Compare comparison.Less) is = cc
equality_is (binary.Compare comparison.AtMost) is = cc
equality_is (binary.Compare comparison.Greater) is = cc
equality_is (binary.Compare comparison.AtLeast) is = cc
equality_is binary.Or is = cc
equality_is binary.And is = cc
equality_is binary.Add is = cc
equality_is binary.Subtract is = cc
equality_is binary.Multiply is = cc
equality_is binary.Divide is = cc
equality_is binary.Remainder is = cc
equality_is binary.Power is = cc

pub conjunction_is : (op : BinaryOp) → is_conjunction op ≡ true → op ≡ binary.And
conjunction_is binary.And is = refl
conjunction_is (binary.Compare c) is = cc
conjunction_is binary.Or is = cc
conjunction_is binary.Add is = cc
conjunction_is binary.Subtract is = cc
conjunction_is binary.Multiply is = cc
conjunction_is binary.Divide is = cc
conjunction_is binary.Remainder is = cc
conjunction_is binary.Power is = cc

field_is : (e : Tree) (f : Field) → field_in e ≡ Some f → (at : ℕ) × (e ≡ Asks at f)
field_is (Asks at g) f is = let same : g ≡ f = cc in (at, ap (Asks at) same)
field_is (Literally at l) f is = cc
field_is (Unary at op first e) f is = cc
field_is (Binary at op first a second b) f is = cc
field_is (Match at negated first e pattern_at pattern) f is = cc

literal_is : (e : Tree) (l : Literal) → literal_in e ≡ Some l → (at : ℕ) × (e ≡ Literally at l)
literal_is (Literally at k) l is = let same : k ≡ l = cc in (at, ap (Literally at) same)
literal_is (Asks at g) l is = cc
literal_is (Unary at op first e) l is = cc
literal_is (Binary at op first a second b) l is = cc
literal_is (Match at negated first e pattern_at pattern) l is = cc

text_is : (l : Literal) (text : List ℕ) → text_of l ≡ Some text → l ≡ literal.Text text
text_is (literal.Text t) text is = let same : t ≡ text = cc in ap literal.Text same
text_is (literal.Number n) text is = cc
text_is (literal.Duration n) text is = cc
text_is (literal.Truth b) text is = cc
text_is literal.Nil text is = cc
text_is (literal.Status c) text is = cc
text_is (literal.Kind k) text is = cc

-- what a field and a literal ask for together
record Asked (f : Field) (l : Literal) (text : List ℕ) : Type 0 where
  tells : tells_text f ≡ true
  is : l ≡ literal.Text text

asked_is : (f : Field) (l : Literal) (text : List ℕ) → asked_text f l ≡ Some text → Asked f l text
asked_is f l text is = (elim (tells_text f) as (λ b. tells_text f ≡ b → Asked f l text) [
  | true ↦ λ t. record { tells = t; is = text_is l text (let e : asked_text f l ≡ text_of l = rw t refl in sym e ∙ is) }
  | false ↦ λ t. let e : asked_text f l ≡ None = rw t refl in let bad : None ≡ Some text = sym e ∙ is in cc
]) refl

record Member (a b : Tree) (text : List ℕ) : Type 0 where
  left_at : ℕ
  right_at : ℕ
  field : Field
  tells : tells_text field ≡ true
  left : a ≡ Asks left_at field
  right : b ≡ Literally right_at (literal.Text text)

both_is : (a b : Tree) (text : List ℕ) → both_text (field_in a) (literal_in b) ≡ Some text → Member a b text
both_is a b text is = at (field_in a) refl (literal_in b) refl
  where
    at : (f : Option Field) → field_in a ≡ f → (l : Option Literal) → literal_in b ≡ l → Member a b text
    at None e l g = let bad : None ≡ Some text = sym (ap (λ (o : Option Field). both_text o (literal_in b)) e) ∙ is in cc
    at (Some f) e None g = let bad : None ≡ Some text = sym (ap (λ (o : Option Field). both_text o (literal_in b)) e ∙ ap (both_text (Some f)) g) ∙ is in cc
    at (Some f) e (Some l) g =
        let asked = asked_is f l text (sym (ap (λ (o : Option Field). both_text o (literal_in b)) e ∙ ap (both_text (Some f)) g) ∙ is) in
        let left = field_is a f e in
        let right = literal_is b l g in
        record { left_at = left.0; right_at = right.0; field = f; tells = asked.tells; left = left.1; right = right.1 ∙ ap (Literally right.0) asked.is }

-- both sides of a `&&` are so
pub both_so : (ps : List Pattern) (rows : List Row) (s : Span) (at first second : ℕ) (a b : Tree) → is_so ps rows s (Binary at binary.And first a second b) ≡ true
    → (is_so ps rows s a ≡ true) × (is_so ps rows s b ≡ true)
unfolding value_of
both_so ps rows s at first second a b so = (and_left (is_so ps rows s a) (is_so ps rows s b) so, and_right (is_so ps rows s a) (is_so ps rows s b) so)

module _ (ps : List Pattern) (rows : List Row) (s : Span) (text : List ℕ) where
  equals : (at first second : ℕ) (a b : Tree) → Member a b text → is_so ps rows s (Binary at (binary.Compare comparison.Equal) first a second b) ≡ true → holds_text text s ≡ true
  unfolding value_of
  equals at first second a b m so =
      let whole : is_so ps rows s (Binary at (binary.Compare comparison.Equal) first (Asks m.left_at m.field) second (Literally m.right_at (literal.Text text))) ≡ true =
      subst (λ (t : Tree). is_so ps rows s (Binary at (binary.Compare comparison.Equal) first (Asks m.left_at m.field) second t) ≡ true) m.right
      (subst (λ (t : Tree). is_so ps rows s (Binary at (binary.Compare comparison.Equal) first t second b) ≡ true) m.left so) in
      let is = equal_text (field_of_span m.field rows s) text whole in
      field_holds m.field rows s is.0 text m.tells is.1 is.2

  member : (e : Tree) → member_text e ≡ Some text → is_so ps rows s e ≡ true → holds_text text s ≡ true
  member (Literally at l) is so = cc
  member (Asks at f) is so = cc
  member (Unary at op first e) is so = cc
  member (Match at negated first e pattern_at pattern) is so = cc
  member (Binary at op first a second b) is so = (elim (is_equality op) as (λ t. is_equality op ≡ t → holds_text text s ≡ true) [
    | true ↦ λ t.
        let asked : both_text (field_in a) (literal_in b) ≡ Some text = rw t at is in
        equals at first second a b (both_is a b text asked) (subst (λ (o : BinaryOp). is_so ps rows s (Binary at o first a second b) ≡ true) (equality_is op t) so)
    | false ↦ λ t. let bad : None ≡ Some text = rw t at is in cc
  ]) refl

  chain : (e : Tree) → chain_text e ≡ Some text → is_so ps rows s e ≡ true → holds_text text s ≡ true
  chain (Literally at l) is so = cc
  chain (Asks at f) is so = cc
  chain (Unary at op first e) is so = cc
  chain (Match at negated first e pattern_at pattern) is so = cc
  chain (Binary at op first a second b) is so = (elim (is_conjunction op) as (λ t. is_conjunction op ≡ t → holds_text text s ≡ true) [
    | true ↦ λ t.
        let either : option_or (chain_text a) (member_text b) ≡ Some text = rw t at is in
        let parts = both_so ps rows s at first second a b (subst (λ (o : BinaryOp). is_so ps rows s (Binary at o first a second b) ≡ true) (conjunction_is op t) so) in
        of_either (chain_text a) refl either (λ asks. chain a asks parts.0) parts.1
    | false ↦ λ t. member (Binary at op first a second b) (rw t at is) so
  ]) refl
    where
      of_either : (o : Option (List ℕ)) → chain_text a ≡ o → option_or (chain_text a) (member_text b) ≡ Some text → (chain_text a ≡ Some text → holds_text text s ≡ true) → is_so ps rows s b ≡ true → holds_text text s ≡ true
      of_either None e is left second_so = member b (sym (ap (λ (x : Option (List ℕ)). option_or x (member_text b)) e) ∙ is) second_so
      of_either (Some t) e is left second_so = left (e ∙ sym (ap (λ (x : Option (List ℕ)). option_or x (member_text b)) e) ∙ is)

-- ---- of no spans nothing is shown

none_in : (ys : List ℕ) → filter (is_in_some []) ys ≡ []
none_in [] = refl
none_in (y ∷ ys) = none_in ys

none_after : (ps : List Pattern) (rows : List Row) (stage : StageTree) → drop_empty (after_stage ps rows stage []) ≡ []
unfolding after_stage coalesced
none_after ps rows (Keep at condition) = refl
none_after ps rows (By e) = refl
none_after ps rows Coalesce = ap (λ (ys : List ℕ). drop_empty (record { by = []; members = ys } ∷ [])) (none_in (positions_from 0 (length rows)))
none_after ps rows (Select fields) = refl
none_after ps rows (Compare a at op b) = refl

none_stay : (ps : List Pattern) (rows : List Row) (stages : List StageTree) → after_stages ps rows stages [] ≡ []
none_stay ps rows [] = refl
none_stay ps rows (stage ∷ stages) = ap (after_stages ps rows stages) (none_after ps rows stage) ∙ none_stay ps rows stages

shown_none : (fields : List Field) (rows : List Row) → shown fields rows [] ≡ None
shown_none fields [] = refl
shown_none fields (r ∷ rows) = refl

some_selected : (ps : List Pattern) (rows : List Row) (fields : List Field) (stages : List StageTree) (result : TraceResult) (selected : List ℕ)
    → Some result ≡ shown fields rows (remaining ps rows stages selected) → (y : ℕ) × Contains selected y
some_selected ps rows fields stages result [] is =
    let bad : Some result ≡ None = is ∙ ap (shown fields rows) (none_stay ps rows stages) ∙ shown_none fields rows in cc
some_selected ps rows fields stages result (y ∷ ys) is = (y, (0, omega arith, refl))

-- ---- the law

-- The filter that alone selects spans keeps one.
pub record Kept (ps : List Pattern) (rows : List Row) (condition : Option Placed) : Type 0 where
  pub at : ℕ
  pub passes : PassesFilter ps rows condition at

pub answer_kept : (ps : List Pattern) (rows : List Row) (q : QueryTree) (result : TraceResult) (place : ℕ) (condition : Option Placed) → q.spansets ≡ Filter place condition → IsOutcome ps rows q (Some result)
    → Kept ps rows condition
answer_kept ps rows q result place condition filters outcome =
    let some = some_selected ps rows (selected_fields q.stages) q.stages result outcome.selected outcome.is in
    record { at = some.0; passes = subst (λ (set : SetTree). Selects ps rows set some.0) filters (outcome.lists.only some.0 some.1) }

-- such a span holds the filter's text
pub kept_holds : (ps : List Pattern) (rows : List Row) (condition : Option Placed) (text : List ℕ) → filter_text condition ≡ Some text → (s : Span) → filter_span ps rows condition s ≡ true → holds_text text s ≡ true
kept_holds ps rows None text is s kept = cc
kept_holds ps rows (Some e) text is s kept = chain ps rows s text e.1 is kept

selects_holds : (ps : List Pattern) (rows : List Row) (set : SetTree) (text : List ℕ) (y : ℕ) → set_text set ≡ Some text → Selects ps rows set y
    → list_any (λ r. holds_text text r.span) rows ≡ true
selects_holds ps rows (Filter at condition) text y is selects = there_any (λ r. holds_text text r.span) rows y selects.row selects.is (kept_holds ps rows condition text is selects.row.span selects.kept)
selects_holds ps rows (Join at op a b) text y is selects = cc

pub answer_holds : (ps : List Pattern) (rows : List Row) (q : QueryTree) (text : List ℕ) (result : TraceResult) → query_text q ≡ Some text → IsOutcome ps rows q (Some result)
    → list_any (λ r. holds_text text r.span) rows ≡ true
answer_holds ps rows q text result asks outcome =
    let some = some_selected ps rows (selected_fields q.stages) q.stages result outcome.selected outcome.is in
    selects_holds ps rows q.spansets text some.0 asks (outcome.lists.only some.0 some.1)
