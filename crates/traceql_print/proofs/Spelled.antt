-- Tokens of the printed kinds spell the expression again: each operand stands where a rule of the grammar takes it.
use Rattle.std.proofs.Common.{◌≡◌, ℕ, zero, suc, ◌≤◌, max, Bool, true, false, List, [], ◌∷◌, ◌++◌, Some, option_map, refl, ap, ap₂, sym, subst, ◌∙◌, arith}
use Rattle.span_types.specs.declared.spans.SpanKind.TheVariants as span
use Rattle.span_types.specs.declared.spans.StatusCode.TheVariants as status
use Rattle.traceql_tokens.specs.declared.fixed.Sign.TheVariants as sign
use Rattle.traceql_tokens.specs.declared.kinds.Token.{Token}
use Rattle.traceql_tokens.specs.declared.kinds.TokenKind.{TokenKind}
use Rattle.traceql_tokens.specs.declared.kinds.TokenKind.TheVariants as token
use Rattle.traceql_syntax.specs.declared.field.BinaryOp.{BinaryOp}
use Rattle.traceql_syntax.specs.declared.field.BinaryOp.TheVariants as binary
use Rattle.traceql_syntax.specs.declared.field.Comparison.{Comparison}
use Rattle.traceql_syntax.specs.declared.field.Comparison.TheVariants as comparison
use Rattle.traceql_syntax.specs.declared.field.Field.{Field}
use Rattle.traceql_syntax.specs.declared.field.Field.TheVariants as field
use Rattle.traceql_syntax.specs.declared.field.Level.TheVariants as level
use Rattle.traceql_syntax.specs.declared.field.Literal.{Literal}
use Rattle.traceql_syntax.specs.declared.field.Literal.TheVariants as literal
use Rattle.traceql_syntax.specs.declared.field.UnaryOp.{UnaryOp}
use Rattle.traceql_syntax.specs.declared.field.UnaryOp.TheVariants as unary
use Rattle.traceql_syntax.specs.Grammar as rule
use Rattle.traceql_syntax.specs.Grammar.{mark, Class, Atom, Prefixed, Powered, Grouped, Whole_expression, Spells}
use Rattle.traceql_syntax.specs.Tables as table
use Rattle.traceql_syntax.specs.Trees.{Tree, Literally, Asks, Unary, Binary, Match, Placed, bare}
use Rattle.traceql_print.specs.Signs.{unary_sign, binary_sign, comparison_sign, match_sign, literal_kind, field_kind}
use Rattle.traceql_print.specs.Depth.{operand_depth, right_depth, expr_depth}
use Rattle.traceql_print.specs.Kinds.{operand, is_binary, expr_kinds}
use Rattle.traceql_print.proofs.Lexed.{AreOf}
use Rattle.traceql_print.proofs.Split.{head_of, lone_of, around_of, between_of}

-- a prefixed expression where a level takes its operands
to_product : {n : ℕ} {e : Placed} {ts : List Token} → Spells n Prefixed e ts → Spells n (Grouped level.Product) e ts
to_product d = rule.single level.Product (rule.lone d)

to_sum : {n : ℕ} {e : Placed} {ts : List Token} → Spells n Prefixed e ts → Spells n (Grouped level.Sum) e ts
to_sum d = rule.single level.Sum (to_product d)

to_comparison : {n : ℕ} {e : Placed} {ts : List Token} → Spells n Prefixed e ts → Spells n (Grouped level.Comparison) e ts
to_comparison d = rule.single level.Comparison (to_sum d)

to_whole : {n : ℕ} {e : Placed} {ts : List Token} → Spells n Prefixed e ts → Spells n Whole_expression e ts
to_whole d = rule.single level.Choice (to_comparison d)

from_comparison : {n : ℕ} {e : Placed} {ts : List Token} → Spells n (Grouped level.Comparison) e ts → Spells n Whole_expression e ts
from_comparison d = rule.single level.Choice d

from_sum : {n : ℕ} {e : Placed} {ts : List Token} → Spells n (Grouped level.Sum) e ts → Spells n Whole_expression e ts
from_sum d = from_comparison (rule.single level.Comparison d)

from_product : {n : ℕ} {e : Placed} {ts : List Token} → Spells n (Grouped level.Product) e ts → Spells n Whole_expression e ts
from_product d = from_sum (rule.single level.Sum d)

from_powered : {n : ℕ} {e : Placed} {ts : List Token} → Spells n Powered e ts → Spells n Whole_expression e ts
from_powered d = from_product (rule.single level.Product d)

literal_is : (x : Literal) → table.literal_of (literal_kind x) ≡ Some x
literal_is (literal.Text value) = refl
literal_is (literal.Number n) = refl
literal_is (literal.Duration n) = refl
literal_is (literal.Truth true) = refl
literal_is (literal.Truth false) = refl
literal_is literal.Nil = refl
literal_is (literal.Status status.Unset) = refl
literal_is (literal.Status status.Fine) = refl
literal_is (literal.Status status.Error) = refl
literal_is (literal.Kind span.Unspecified) = refl
literal_is (literal.Kind span.Internal) = refl
literal_is (literal.Kind span.Server) = refl
literal_is (literal.Kind span.Client) = refl
literal_is (literal.Kind span.Producer) = refl
literal_is (literal.Kind span.Consumer) = refl

pub field_is : (f : Field) → table.field_of (field_kind f) ≡ Some f
field_is (field.Attribute scope name) = refl
field_is (field.Intrinsic i) = refl

unary_is : (op : UnaryOp) → table.prefix_sign (unary_sign op) ≡ Some op
unary_is unary.Negate = refl
unary_is unary.Not = refl

pub comparison_is : (op : Comparison) → table.comparison_sign (comparison_sign op) ≡ Some op
comparison_is comparison.Equal = refl
comparison_is comparison.NotEqual = refl
comparison_is comparison.Less = refl
comparison_is comparison.AtMost = refl
comparison_is comparison.Greater = refl
comparison_is comparison.AtLeast = refl

match_is : (negated : Bool) → table.pattern_sign (match_sign negated) ≡ Some negated
match_is true = refl
match_is false = refl

pub max-left : (a b n : ℕ) → max a b ≤ n → a ≤ n
max-left a b n h = grind arith

pub max-right : (a b n : ℕ) → max a b ≤ n → b ≤ n
max-right a b n h = grind arith

-- how many constructs may be open on the right of an operator
abbrev inner_depth : BinaryOp → ℕ → ℕ
inner_depth binary.Power zero = zero
inner_depth binary.Power (suc n) = n
inner_depth _ n = n

inner_fits : (op : BinaryOp) (m n : ℕ) → right_depth op m ≤ n → m ≤ inner_depth op n
inner_fits binary.Power m zero h = absurd (omega arith)
inner_fits binary.Power m (suc n) h = omega arith
inner_fits _ m n h = h

-- two operands and a binary operator between them
binary_spelled : {a b : Placed} {xs ys : List Token} (op : BinaryOp) (m n at : ℕ) → right_depth op m ≤ n → Spells n Prefixed a xs → Spells (inner_depth op n) Prefixed b ys → Spells n Whole_expression (a.0, Binary at op a.0 a.1 b.0 b.1) (xs ++ mark at (binary_sign op) ∷ ys)
binary_spelled binary.Or m n at h d f = rule.left level.Choice at sign.BarBar refl (to_whole d) (to_comparison f)
binary_spelled binary.And m n at h d f = rule.left level.Choice at sign.AmpAmp refl (to_whole d) (to_comparison f)
binary_spelled (binary.Compare op) m n at h d f = from_comparison (rule.left level.Comparison at (comparison_sign op) (ap (option_map binary.Compare) (comparison_is op)) (to_comparison d) (to_sum f))
binary_spelled binary.Add m n at h d f = from_sum (rule.left level.Sum at sign.Plus refl (to_sum d) (to_product f))
binary_spelled binary.Subtract m n at h d f = from_sum (rule.left level.Sum at sign.Minus refl (to_sum d) (to_product f))
binary_spelled binary.Multiply m n at h d f = from_product (rule.left level.Product at sign.Star refl (to_product d) (rule.lone f))
binary_spelled binary.Divide m n at h d f = from_product (rule.left level.Product at sign.Slash refl (to_product d) (rule.lone f))
binary_spelled binary.Remainder m n at h d f = from_product (rule.left level.Product at sign.Percent refl (to_product d) (rule.lone f))
binary_spelled binary.Power m zero at h d f = absurd (omega arith)
binary_spelled binary.Power m (suc n) at h d f = from_powered (rule.power at d (rule.lone f))

-- the tokens spell this expression, but for its places
pub record Spelt (n : ℕ) (c : Class) (t : Tree) (us : List Token) : Type 0 where
  pub found : Placed
  pub spelled : Spells n c found us
  pub same : bare found.1 ≡ bare t

retold : {n : ℕ} {c : Class} {t : Tree} {us vs : List Token} → us ≡ vs → Spelt n c t vs → Spelt n c t us
retold {n} {c} {t} e s = subst (λ x. Spelt n c t x) (sym e) s

abbrev pub class_of : (binary : Bool) → Class
class_of true = Whole_expression
class_of false = Prefixed

-- an operand: as it is, or in parentheses
operand_spelt : (b : Bool) (t : Tree) (ks : List TokenKind) (m : ℕ) → ((n : ℕ) → m ≤ n → (us : List Token) → AreOf ks us → Spelt n (class_of b) t us) → (n : ℕ) → operand_depth b m ≤ n → (us : List Token) → AreOf (operand b ks) us → Spelt n Prefixed t us
operand_spelt false t ks m claim n h us e = claim n h us e
operand_spelt true t ks m claim zero h us e = absurd (omega arith)
operand_spelt true t ks m claim (suc n) h us e =
    let p = between_of (token.Mark sign.OpenParen) ks (token.Mark sign.CloseParen) us e in
    let s = claim n (omega arith) p.inner p.inside in
    retold p.whole (record { found = (p.first, s.found.1); spelled = rule.atom (rule.parens p.first p.last s.spelled); same = s.same })

pub spelt : (t : Tree) (n : ℕ) → expr_depth t ≤ n → (us : List Token) → AreOf (expr_kinds t) us → Spelt n (class_of (is_binary t)) t us
spelt (Literally at x) n h us e =
    let o = lone_of (literal_kind x) us e in
    retold o.whole (record { found = (o.at, Literally o.at x); spelled = rule.atom (rule.literal (record { at = o.at; kind = literal_kind x }) (literal_is x)); same = refl })
spelt (Asks at f) n h us e =
    let o = lone_of (field_kind f) us e in
    retold o.whole (record { found = (o.at, Asks o.at f); spelled = rule.atom (rule.field (record { at = o.at; kind = field_kind f }) (field_is f)); same = refl })
spelt (Unary at op first e) zero h us k = absurd (omega arith)
spelt (Unary at op first e) (suc n) h us k =
    let p = head_of (token.Mark (unary_sign op)) (operand (is_binary e) (expr_kinds e)) us k in
    let s = operand_spelt (is_binary e) e (expr_kinds e) (expr_depth e) (spelt e) n (omega arith) p.rest p.behind in
    retold p.whole (record { found = (p.at, Unary p.at op s.found.0 s.found.1); spelled = rule.prefix p.at (unary_sign op) (unary_is op) s.spelled; same = ap (λ x. Unary 0 op 0 x) s.same })
spelt (Binary at op first a second b) n h us k =
    let p = around_of (operand (is_binary a) (expr_kinds a)) (token.Mark (binary_sign op)) (operand (is_binary b) (expr_kinds b)) us k in
    let under = max-right (operand_depth (is_binary a) (expr_depth a)) (right_depth op (operand_depth (is_binary b) (expr_depth b))) n h in
    let x = operand_spelt (is_binary a) a (expr_kinds a) (expr_depth a) (spelt a) n (max-left _ _ _ h) p.front p.left in
    let y = operand_spelt (is_binary b) b (expr_kinds b) (expr_depth b) (spelt b) (inner_depth op n) (inner_fits op _ n under) p.back p.right in
    retold p.whole (record { found = (x.found.0, Binary p.at op x.found.0 x.found.1 y.found.0 y.found.1); spelled = binary_spelled op _ n p.at under x.spelled y.spelled; same = ap₂ (λ u v. Binary 0 op 0 u 0 v) x.same y.same })
spelt (Match at negated first a pattern_at pattern) n h us k =
    let p = around_of (operand (is_binary a) (expr_kinds a)) (token.Mark (match_sign negated)) (token.Quoted pattern ∷ []) us k in
    let x = operand_spelt (is_binary a) a (expr_kinds a) (expr_depth a) (spelt a) n h p.front p.left in
    let o = lone_of (token.Quoted pattern) p.back p.right in
    retold (p.whole ∙ ap (λ r. p.front ++ (mark p.at (match_sign negated) ∷ r)) o.whole)
    (record { found = (x.found.0, Match p.at negated x.found.0 x.found.1 o.at pattern); spelled = from_comparison (rule.match p.at (match_sign negated) o.at pattern (match_is negated) (to_comparison x.spelled)); same = ap (λ u. Match 0 negated 0 u 0 pattern) x.same })

-- every expression where a whole one is taken
pub whole_spelt : (t : Tree) (n : ℕ) → expr_depth t ≤ n → (us : List Token) → AreOf (expr_kinds t) us → Spelt n Whole_expression t us
whole_spelt t n h us e = by_test (is_binary t) (spelt t n h us e)
  where
    by_test : (b : Bool) → Spelt n (class_of b) t us → Spelt n Whole_expression t us
    by_test true s = s
    by_test false s = record { found = s.found; spelled = to_whole s.spelled; same = s.same }
