-- Private mechanism. Chains of operators between spansets, each the left operand of the next one.
use Rattle.std.specs.Prelude.{◌≡◌, ℕ, suc, ◌+◌, List, [], ◌∷◌}
use Rattle.traceql_syntax.specs.Trees.{SetTree, Filter, Join, set_tree}
use Rattle.spanset_eval.specs.declared.select.Pending.{Pending}

-- the operators, the innermost first, make of the operand a the tree t
abbrev pub Chains : SetTree → List Pending → SetTree → Type 0
Chains a [] t = a ≡ t
Chains a (p ∷ ps) t = (at : ℕ) × Chains (Join at p.op a (set_tree p.right.now)) ps t

-- how many operands and operators a tree has
abbrev pub set_size : SetTree → ℕ
set_size (Filter at condition) = 1
set_size (Join at op a b) = suc (set_size a + set_size b)
