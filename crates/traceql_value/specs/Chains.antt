-- Private mechanism. Chains of operators, each the left operand of the next one.
use Rattle.std.specs.Prelude.{◌≡◌, ℕ, suc, ◌+◌, List, [], ◌∷◌}
use Rattle.traceql_syntax.specs.Trees.{Tree, Literally, Asks, Unary, Binary, Match, tree}
use Rattle.traceql_value.specs.declared.evaluate.Pending.{Pending}
use Rattle.traceql_value.specs.Meaning.{is_literal_nil}

-- the operators, the innermost first, make of the operand a the tree t
abbrev pub Chains : Tree → List Pending → Tree → Type 0
Chains a [] t = a ≡ t
Chains a (p ∷ ps) t = (p.nil_left ≡ is_literal_nil a) × ((at : ℕ) × (first : ℕ) × (second : ℕ) × Chains (Binary at p.op first a second (tree p.right.now)) ps t)

-- how many expressions a tree has
abbrev pub tree_size : Tree → ℕ
tree_size (Literally at l) = 1
tree_size (Asks at f) = 1
tree_size (Unary at op first e) = suc (tree_size e)
tree_size (Binary at op first a second b) = suc (tree_size a + tree_size b)
tree_size (Match at negated first e pattern_at pattern) = suc (tree_size e)
