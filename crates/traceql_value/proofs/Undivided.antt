-- What is computed without a division is whole.
use Rattle.std.proofs.Common.{◌≡◌, ℕ, ◌*◌, ◌^◌, nat_lt, Bool, true, false, cond, ℤ, pos, List, [], ◌∷◌, ◌++◌, Option, Some, None, IfSome, sym, subst, ap, arith, ◌∙◌, refl}
use Rattle.std.specs.Prelude.{◌*ℤ◌, unsigned_abs, int_rem, neg_ℤ}
use Rattle.std.specs.Int.{◌∣◌}
use Rattle.std.specs.Option.{option_map_or}
use Rattle.hex.specs.Hex.{encode_lower}
use Rattle.std.proofs.lemmas.Int.{unsigned_abs-mul}
use Rattle.std.proofs.lemmas.Nat.Gcd.{dvd_refl}
use native.Mathlib.Nat.{dvd-mul_left}
use Rattle.span_types.specs.declared.attrs.AttrValue.{AttrValue}
use Rattle.span_types.specs.declared.attrs.AttrValue.TheVariants as attr
use Rattle.span_types.specs.declared.ids.SpanId.{SpanId}
use Rattle.span_types.specs.declared.spans.Row.{Row}
use Rattle.span_types.specs.declared.spans.Span.{Span}
use Rattle.traceql_tokens.specs.declared.fixed.AttributeScope.{AttributeScope}
use Rattle.traceql_tokens.specs.declared.fixed.AttributeScope.TheVariants as scope
use Rattle.traceql_tokens.specs.declared.fixed.Intrinsic.{Intrinsic}
use Rattle.traceql_tokens.specs.declared.fixed.Intrinsic.TheVariants as intrinsic
use Rattle.traceql_syntax.specs.declared.field.BinaryOp.{BinaryOp}
use Rattle.traceql_syntax.specs.declared.field.BinaryOp.TheVariants as binary
use Rattle.traceql_syntax.specs.declared.field.Comparison.{Comparison}
use Rattle.traceql_syntax.specs.declared.field.Field.{Field}
use Rattle.traceql_syntax.specs.declared.field.Field.TheVariants as field
use Rattle.traceql_syntax.specs.declared.field.Literal.{Literal}
use Rattle.traceql_syntax.specs.declared.field.Literal.TheVariants as literal
use Rattle.traceql_syntax.specs.declared.field.UnaryOp.{UnaryOp}
use Rattle.traceql_syntax.specs.declared.field.UnaryOp.TheVariants as unary
use Rattle.traceql_syntax.specs.Trees.{Tree, Literally, Asks, Unary, Binary, Match}
use Rattle.traceql_types.specs.declared.errors.TypeError.{TypeError}
use Rattle.traceql_types.specs.declared.pattern.Pattern.{Pattern}
use Rattle.traceql_types.specs.Order.{listed}
use Rattle.traceql_types.specs.Refusals.{divisions, own_division}
use Rattle.traceql_value.specs.declared.value.Value.{Value}
use Rattle.traceql_value.specs.declared.value.Value.TheVariants.{Nil, Truth, Number, Text, Status, Kind}
use Rattle.traceql_value.specs.Fractions.{Fraction, IsWhole, whole_fraction, power_of, under, over_sum, over_difference}
use Rattle.traceql_value.specs.Arithmetic.{ratio_of, sum_of, difference_of, product_of, remainder_of, power_within, negative_of}
use Rattle.traceql_value.specs.Values.{IfNumber, number_or_nil, attr_value, unless_empty, arithmetic, apply_unary}
use Rattle.traceql_value.specs.Spans.{attr_named, value_named, or_else, attribute_of, text_or_nil, root_of, service_of, span_nanos, trace_nanos, intrinsic_of, field_of_span}
use Rattle.traceql_value.specs.Meaning.{literal_value, is_literal_nil, apply_binary, value_of}
use Rattle.traceql_value.proofs.Searched.{ratio_of-sound}

-- ---- arithmetic

whole_of : (p : ℤ) (r : Fraction) → ratio_of p (pos 1) ≡ Some r → IsWhole r
whole_of p r e =
    let h = ratio_of-sound p (pos 1) r (omega arith) e in
    let size : unsigned_abs r.numerator * 1 ≡ unsigned_abs p * r.denominator =
    sym (unsigned_abs-mul r.numerator (pos 1)) ∙ ap unsigned_abs h.1 ∙ unsigned_abs-mul p (pos r.denominator) in
    let same : unsigned_abs p * r.denominator ≡ unsigned_abs r.numerator = omega arith in
    h.0.lowest r.denominator (subst (λ n. r.denominator ∣ n) same (dvd-mul_left r.denominator (unsigned_abs p))) (dvd_refl r.denominator)

some_whole : (p q : ℤ) (o : Option Fraction) → q ≡ pos 1 → ratio_of p q ≡ o → IfSome o IsWhole
some_whole p q None e h = tt
some_whole p q (Some r) e h = whole_of p r (ap (λ z. ratio_of p z) (sym e) ∙ h)

under_one : (a b : Fraction) → IsWhole a → IsWhole b → under a b ≡ pos 1
under_one a b e f = ap (λ n. pos (n * b.denominator)) e ∙ ap (λ n. pos (1 * n)) f

exact_whole : (p : ℤ) (a b : Fraction) → IsWhole a → IsWhole b → IfSome (ratio_of p (under a b)) IsWhole
exact_whole p a b e f = some_whole p (under a b) (ratio_of p (under a b)) (under_one a b e f) refl

tested_whole : (b : Bool) (r : Fraction) → IsWhole r → IfSome (cond b (Some r) None) IsWhole
tested_whole true r h = h
tested_whole false r h = tt

or_nil : (o : Option Fraction) → IfSome o IsWhole → IfNumber (number_or_nil o) IsWhole
or_nil None h = tt
or_nil (Some r) h = h

arithmetic_whole : (f : Fraction → Fraction → Option Fraction) → ((a b : Fraction) → IsWhole a → IsWhole b → IfSome (f a b) IsWhole) → (v w : Value) → IfNumber v IsWhole → IfNumber w IsWhole → IfNumber (arithmetic f v w) IsWhole
arithmetic_whole f keeps (Number a) (Number b) p q = or_nil (f a b) (keeps a b p q)
arithmetic_whole f keeps (Number a) Nil p q = tt
arithmetic_whole f keeps (Number a) (Truth t) p q = tt
arithmetic_whole f keeps (Number a) (Text t) p q = tt
arithmetic_whole f keeps (Number a) (Status t) p q = tt
arithmetic_whole f keeps (Number a) (Kind t) p q = tt
arithmetic_whole f keeps Nil w p q = tt
arithmetic_whole f keeps (Truth t) w p q = tt
arithmetic_whole f keeps (Text t) w p q = tt
arithmetic_whole f keeps (Status t) w p q = tt
arithmetic_whole f keeps (Kind t) w p q = tt

turned_whole : (op : UnaryOp) (v : Value) → IfNumber v IsWhole → IfNumber (apply_unary op v) IsWhole
turned_whole unary.Negate (Number a) h = or_nil (negative_of a) (tested_whole _ (record { numerator = neg_ℤ a.numerator; denominator = a.denominator }) h)
turned_whole unary.Negate Nil h = tt
turned_whole unary.Negate (Truth t) h = tt
turned_whole unary.Negate (Text t) h = tt
turned_whole unary.Negate (Status t) h = tt
turned_whole unary.Negate (Kind t) h = tt
turned_whole unary.Not (Truth t) h = tt
turned_whole unary.Not (Number a) h = tt
turned_whole unary.Not Nil h = tt
turned_whole unary.Not (Text t) h = tt
turned_whole unary.Not (Status t) h = tt
turned_whole unary.Not (Kind t) h = tt

-- ---- literals and fields

whole_number_whole : (b : Bool) (n : ℕ) → IfNumber (cond b (Number (whole_fraction (pos n))) Nil) IsWhole
whole_number_whole true n = refl
whole_number_whole false n = tt

literal_whole : (l : Literal) → IfNumber (literal_value l) IsWhole
literal_whole (literal.Text text) = tt
literal_whole (literal.Number n) = whole_number_whole (nat_lt n (2 ^ 63)) n
literal_whole (literal.Duration n) = whole_number_whole (nat_lt n (2 ^ 63)) n
literal_whole (literal.Truth truth) = tt
literal_whole literal.Nil = tt
literal_whole (literal.Status status) = tt
literal_whole (literal.Kind kind) = tt

attr_whole : (v : AttrValue) → IfNumber (attr_value v) IsWhole
attr_whole (attr.Text text) = tt
attr_whole (attr.Whole n) = refl
attr_whole (attr.Truth truth) = tt

named_whole : (o : Option AttrValue) → IfNumber (option_map_or attr_value o Nil) IsWhole
named_whole None = tt
named_whole (Some v) = attr_whole v

else_whole : (o : Option AttrValue) (other : Value) → IfNumber other IsWhole → IfNumber (or_else o other) IsWhole
else_whole None other h = h
else_whole (Some v) other h = attr_whole v

attribute_whole : (where_ : AttributeScope) (name : List ℕ) (s : Span) → IfNumber (attribute_of where_ name s) IsWhole
attribute_whole scope.Any name s =
    else_whole (attr_named name s.attrs) (value_named name s.resource.attrs) (named_whole (attr_named name s.resource.attrs))
attribute_whole scope.Span name s = named_whole (attr_named name s.attrs)
attribute_whole scope.Resource name s = named_whole (attr_named name s.resource.attrs)
attribute_whole scope.Instrumentation name s = named_whole (attr_named name s.scope.attrs)

text_whole : (o : Option AttrValue) → IfNumber (text_or_nil o) IsWhole
text_whole None = tt
text_whole (Some (attr.Text text)) = tt
text_whole (Some (attr.Whole n)) = tt
text_whole (Some (attr.Truth truth)) = tt

empty_whole : (text : List ℕ) → IfNumber (unless_empty text) IsWhole
empty_whole [] = tt
empty_whole (b ∷ bs) = tt

row_whole : (f : Row → Value) → ((r : Row) → IfNumber (f r) IsWhole) → (o : Option Row) → IfNumber (option_map_or f o Nil) IsWhole
row_whole f h None = tt
row_whole f h (Some r) = h r

parent_whole : (f : SpanId → List ℕ) (o : Option SpanId) → IfNumber (option_map_or (λ p. Text (f p)) o Nil) IsWhole
parent_whole f None = tt
parent_whole f (Some p) = tt

intrinsic_whole : (i : Intrinsic) (rows : List Row) (s : Span) → IfNumber (intrinsic_of i rows s) IsWhole
intrinsic_whole intrinsic.Name rows s = tt
intrinsic_whole intrinsic.SpanName rows s = tt
intrinsic_whole intrinsic.Status rows s = tt
intrinsic_whole intrinsic.SpanStatus rows s = tt
intrinsic_whole intrinsic.StatusMessage rows s = tt
intrinsic_whole intrinsic.SpanStatusMessage rows s = tt
intrinsic_whole intrinsic.Kind rows s = tt
intrinsic_whole intrinsic.SpanKind rows s = tt
intrinsic_whole intrinsic.Duration rows s = whole_number_whole (nat_lt (span_nanos s) (2 ^ 63)) (span_nanos s)
intrinsic_whole intrinsic.SpanDuration rows s = whole_number_whole (nat_lt (span_nanos s) (2 ^ 63)) (span_nanos s)
intrinsic_whole intrinsic.SpanId rows s = tt
intrinsic_whole intrinsic.TraceId rows s = tt
intrinsic_whole intrinsic.SpanParentId rows s = parent_whole (λ p. encode_lower p.0) s.parent
intrinsic_whole intrinsic.TraceDuration rows s = whole_number_whole (nat_lt (trace_nanos rows) (2 ^ 63)) (trace_nanos rows)
intrinsic_whole intrinsic.TraceColonDuration rows s = whole_number_whole (nat_lt (trace_nanos rows) (2 ^ 63)) (trace_nanos rows)
intrinsic_whole intrinsic.RootName rows s = row_whole (λ r. Text r.span.name) (λ r. tt) (root_of rows)
intrinsic_whole intrinsic.TraceRootName rows s = row_whole (λ r. Text r.span.name) (λ r. tt) (root_of rows)
intrinsic_whole intrinsic.RootServiceName rows s = text_whole (service_of (root_of rows))
intrinsic_whole intrinsic.TraceRootService rows s = text_whole (service_of (root_of rows))
intrinsic_whole intrinsic.InstrumentationName rows s = empty_whole s.scope.name
intrinsic_whole intrinsic.InstrumentationVersion rows s = empty_whole s.scope.version

field_whole : (f : Field) (rows : List Row) (s : Span) → IfNumber (field_of_span f rows s) IsWhole
unfolding field_of_span
field_whole (field.Attribute where_ name) rows s = attribute_whole where_ name s
field_whole (field.Intrinsic i) rows s = intrinsic_whole i rows s

-- ---- expressions

none_of_both : (xs ys : List TypeError) → xs ++ ys ≡ [] → (xs ≡ []) × (ys ≡ [])
none_of_both [] ys e = (refl, e)
none_of_both (x ∷ xs) ys e = absurd cc

compared_whole : (c : Comparison) (nil_left nil_right : Bool) (v w : Value) → IfNumber (apply_binary (binary.Compare c) nil_left nil_right v w) IsWhole
compared_whole c true nil_right v w = tt
compared_whole c false true v w = tt
compared_whole c false false v w = tt

-- an operator other than `/` gives whole numbers of whole ones
applied_whole : (at : ℕ) (op : BinaryOp) (nil_left nil_right : Bool) (v w : Value) → own_division at op ≡ None → IfNumber v IsWhole → IfNumber w IsWhole → IfNumber (apply_binary op nil_left nil_right v w) IsWhole
applied_whole at (binary.Compare c) nil_left nil_right v w undivided p q = compared_whole c nil_left nil_right v w
applied_whole at binary.Or nil_left nil_right v w undivided p q = tt
applied_whole at binary.And nil_left nil_right v w undivided p q = tt
applied_whole at binary.Add nil_left nil_right v w undivided p q = arithmetic_whole sum_of (λ a b. exact_whole (over_sum a b) a b) v w p q
applied_whole at binary.Subtract nil_left nil_right v w undivided p q = arithmetic_whole difference_of (λ a b. exact_whole (over_difference a b) a b) v w p q
applied_whole at binary.Multiply nil_left nil_right v w undivided p q =
    arithmetic_whole product_of (λ a b. exact_whole (a.numerator *ℤ b.numerator) a b) v w p q
applied_whole at binary.Divide nil_left nil_right v w undivided p q = absurd cc
applied_whole at binary.Remainder nil_left nil_right v w undivided p q =
    arithmetic_whole remainder_of (λ a b _ _. tested_whole _ (whole_fraction (int_rem a.numerator b.numerator)) refl) v w p q
applied_whole at binary.Power nil_left nil_right v w undivided p q =
    arithmetic_whole power_within (λ a b _ _. tested_whole _ (whole_fraction (power_of a b)) refl) v w p q

none_listed : (o : Option TypeError) → listed o ≡ [] → o ≡ None
none_listed None e = refl
none_listed (Some e) h = absurd cc

-- a number that is computed without a division is whole
pub value_whole : (ps : List Pattern) (rows : List Row) (s : Span) (e : Tree) → divisions e ≡ [] → IfNumber (value_of ps rows s e) IsWhole
unfolding value_of
value_whole ps rows s (Literally at l) undivided = literal_whole l
value_whole ps rows s (Asks at f) undivided = field_whole f rows s
value_whole ps rows s (Unary at op first e) undivided = turned_whole op (value_of ps rows s e) (value_whole ps rows s e undivided)
value_whole ps rows s (Binary at op first a second b) undivided =
    let both = none_of_both (listed (own_division at op) ++ divisions a) (divisions b) undivided in
    let left = none_of_both (listed (own_division at op)) (divisions a) both.0 in
    applied_whole at op (is_literal_nil a) (is_literal_nil b) (value_of ps rows s a) (value_of ps rows s b)
    (none_listed (own_division at op) left.0) (value_whole ps rows s a left.1) (value_whole ps rows s b both.1)
value_whole ps rows s (Match at negated first e pattern_at pattern) undivided = tt
