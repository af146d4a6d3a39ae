-- Private mechanism. A code of what a sieve stands for, by which a proof tells sieves apart.
use Rattle.std.specs.Prelude.{◌≡◌, ℕ, ◌==◌, Bool, true, false, List, refl}
use Rattle.std.proofs.Common.{ap, subst}
use Rattle.std.specs.Coded.{Coded, code_by, coded_ℕ, coded_bool, coded_list, coded×}
use base.Stored.{Gv, gnil, gnum, gcons, num}
use Rattle.traceql_syntax.specs.declared.field.BinaryOp.{BinaryOp}
use Rattle.traceql_syntax.specs.declared.field.Field.{Field}
use Rattle.traceql_syntax.specs.declared.field.Literal.{Literal}
use Rattle.traceql_syntax.specs.declared.field.UnaryOp.{UnaryOp}
use Rattle.traceql_syntax.specs.contracts.field.BinaryOp as binary
use Rattle.traceql_syntax.specs.contracts.field.Field as field
use Rattle.traceql_syntax.specs.contracts.field.Literal as literal
use Rattle.traceql_syntax.specs.contracts.field.UnaryOp as unary
use Rattle.traceql_syntax.specs.Trees.{Tree, Literally, Asks, Unary, Binary, Match}
use Rattle.traceql_types.specs.contracts.pattern.Pattern as pattern
use Rattle.traceql_types.specs.declared.pattern.Pattern.{Pattern}
use Rattle.column_scan.specs.contracts.hints.Hint as hint
use Rattle.column_scan.specs.declared.hints.Hint.{Hint}
use Rattle.column_scan.specs.Sieves.{SieveParts}

-- ---- what an expression has besides its operands

abbrev literally_code : Coded (ℕ × Literal)
literally_code = coded× coded_ℕ literal.the_row.coded

abbrev asks_code : Coded (ℕ × Field)
asks_code = coded× coded_ℕ field.the_row.coded

abbrev unary_code : Coded (ℕ × (UnaryOp × ℕ))
unary_code = coded× coded_ℕ (coded× unary.the_row.coded coded_ℕ)

abbrev binary_code : Coded (ℕ × (BinaryOp × (ℕ × ℕ)))
binary_code = coded× coded_ℕ (coded× binary.the_row.coded (coded× coded_ℕ coded_ℕ))

abbrev match_code : Coded (ℕ × (Bool × (ℕ × (ℕ × List ℕ))))
match_code = coded× coded_ℕ (coded× coded_bool (coded× coded_ℕ (coded× coded_ℕ (coded_list coded_ℕ))))

-- ---- an expression

abbrev front : Gv → Gv
front gnil = gnil
front (gnum n) = gnil
front (gcons a b) = a

abbrev rest : Gv → Gv
rest gnil = gnil
rest (gnum n) = gnil
rest (gcons a b) = b

-- the number of its form, what it has besides its operands, and these
abbrev coded : ℕ → Gv → Gv → Gv
coded form parts operands = gcons (gnum form) (gcons parts operands)

abbrev form_of : Gv → ℕ
form_of g = num (front g)

abbrev parts_of : Gv → Gv
parts_of g = front (rest g)

abbrev operands_of : Gv → Gv
operands_of g = rest (rest g)

abbrev pub code_of_tree : Tree → Gv
code_of_tree (Literally at l) = coded 0 (literally_code.code (at, l)) gnil
code_of_tree (Asks at f) = coded 1 (asks_code.code (at, f)) gnil
code_of_tree (Unary at op first e) = coded 2 (unary_code.code (at, (op, first))) (code_of_tree e)
code_of_tree (Binary at op first a second b) = coded 3 (binary_code.code (at, (op, (first, second)))) (gcons (code_of_tree a) (code_of_tree b))
code_of_tree (Match at negated first e pattern_at pattern) = coded 4 (match_code.code (at, (negated, (first, (pattern_at, pattern))))) (code_of_tree e)

abbrev Holds : Bool → Type 0
Holds true = Unit {0}
Holds false = ⊥

pub same_tree : (x y : Tree) → code_of_tree x ≡ code_of_tree y → x ≡ y
same_tree (Literally at l) (Literally at' l') is =
    let parts = literally_code.inj (at, l) (at', l') (ap parts_of is) in λ i. Literally (parts i).0 (parts i).1
same_tree (Asks at f) (Asks at' f') is =
    let parts = asks_code.inj (at, f) (at', f') (ap parts_of is) in λ i. Asks (parts i).0 (parts i).1
same_tree (Unary at op first e) (Unary at' op' first' e') is =
    let parts = unary_code.inj (at, (op, first)) (at', (op', first')) (ap parts_of is) in
    let operand = same_tree e e' (ap operands_of is) in λ i. Unary (parts i).0 (parts i).1.0 (parts i).1.1 (operand i)
same_tree (Binary at op first a second b) (Binary at' op' first' a' second' b') is =
    let parts = binary_code.inj (at, (op, (first, second))) (at', (op', (first', second'))) (ap parts_of is) in
    let left = same_tree a a' (ap (λ g. front (operands_of g)) is) in
    let right = same_tree b b' (ap (λ g. rest (operands_of g)) is) in
    λ i. Binary (parts i).0 (parts i).1.0 (parts i).1.1.0 (left i) (parts i).1.1.1 (right i)
same_tree (Match at negated first e pattern_at pattern) (Match at' negated' first' e' pattern_at' pattern') is =
    let parts = match_code.inj (at, (negated, (first, (pattern_at, pattern)))) (at', (negated', (first', (pattern_at', pattern')))) (ap parts_of is) in
    let operand = same_tree e e' (ap operands_of is) in
    λ i. Match (parts i).0 (parts i).1.0 (parts i).1.1.0 (operand i) (parts i).1.1.1.0 (parts i).1.1.1.1
same_tree x y is = absurd (subst (λ (g : Gv). Holds (form_of g == form_of (code_of_tree x))) is tt)

abbrev pub tree_code : Coded Tree
tree_code = record { code = code_of_tree; inj = same_tree }

-- ---- a sieve

abbrev pub sieve_code : Coded SieveParts
sieve_code =
    code_by (Hint × (List Pattern × List Tree)) (coded× hint.the_row.coded (coded× (coded_list pattern.the_row.coded) (coded_list tree_code)))
    (λ s. (s.hint, (s.patterns, s.members))) (λ p. record { hint = p.0; patterns = p.1.0; members = p.1.1 }) (λ _. refl)
