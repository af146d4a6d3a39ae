-- Which spans of a trace an expression over spansets selects: a set of positions, by recursion on the expression.
use Rattle.std.specs.Prelude.{◌≡◌, ◌⊎◌, ℕ, List, Bool, true, Option, Some, None, slice_get}
use Rattle.span_types.specs.declared.spans.Row.{Row}
use Rattle.span_types.specs.declared.spans.Span.{Span}
use Rattle.span_tree.specs.declared.node.Node.{Node}
use Rattle.span_tree.specs.Nodes.{nodes_of}
use Rattle.span_tree.specs.Relations.{IsParent, IsAncestor, IsSibling}
use Rattle.traceql_syntax.specs.declared.query.Relation.{Relation}
use Rattle.traceql_syntax.specs.declared.query.Relation.TheVariants as relation
use Rattle.traceql_syntax.specs.declared.query.Side.{Side}
use Rattle.traceql_syntax.specs.declared.query.Side.TheVariants as side
use Rattle.traceql_syntax.specs.declared.query.SpansetOp.{SpansetOp}
use Rattle.traceql_syntax.specs.declared.query.SpansetOp.TheVariants as set
use Rattle.traceql_syntax.specs.Trees.{Placed, SetTree, Filter, Join}
use Rattle.traceql_types.specs.declared.pattern.Pattern.{Pattern}
use Rattle.traceql_value.specs.Meaning.{is_so}

-- whether a filter keeps a span; an empty one keeps each
abbrev pub filter_span : List Pattern → List Row → Option Placed → Span → Bool
filter_span ps rows None s = true
filter_span ps rows (Some e) s = is_so ps rows s e.1

-- the span at a position is there, and the filter keeps it
pub record PassesFilter (ps : List Pattern) (rows : List Row) (condition : Option Placed) (y : ℕ) : Type 0 where
  pub row : Row
  pub is : slice_get rows y ≡ Some row
  pub kept : filter_span ps rows condition row.span ≡ true

-- how a span x on the left stands to a span y on the right
abbrev pub Relates : Relation → List Node → ℕ → ℕ → Type 0
Relates relation.Child nodes x y = IsParent nodes x y
Relates relation.Descendant nodes x y = IsAncestor nodes x y
Relates relation.Parent nodes x y = IsParent nodes y x
Relates relation.Ancestor nodes x y = IsAncestor nodes y x
Relates relation.Sibling nodes x y = IsSibling nodes x y

-- a span of the set stands so to y
abbrev pub IsReached : (ℕ → Type 0) → (ℕ → ℕ → Type 0) → ℕ → Type 0
IsReached A R y = (x : ℕ) × A x × R x y

-- What a structural operator selects of the left spans A and the right spans B: the right ones to which some left one is
-- related; those to which none is; or the related ones of both sides.
abbrev pub Structural : Side → (ℕ → ℕ → Type 0) → (ℕ → Type 0) → (ℕ → Type 0) → ℕ → Type 0
Structural side.Right R A B y = B y × IsReached A R y
Structural side.Unrelated R A B y = B y × (IsReached A R y → ⊥)
Structural side.Both R A B y = (B y × IsReached A R y) ⊎ (A y × IsReached B (λ z x. R x z) y)

-- Some span is selected.
abbrev pub IsSome : (ℕ → Type 0) → Type 0
IsSome A = (x : ℕ) × A x

-- what an operator selects; `&&` selects the spans of both sides where neither is empty, and else none
abbrev pub Joined : SpansetOp → List Node → (ℕ → Type 0) → (ℕ → Type 0) → ℕ → Type 0
Joined set.And nodes A B y = IsSome A × IsSome B × (A y ⊎ B y)
Joined set.Or nodes A B y = A y ⊎ B y
Joined (set.Related r s) nodes A B y = Structural s (Relates r nodes) A B y

-- The expression selects the span at this position.
abbrev pub Selects : List Pattern → List Row → SetTree → ℕ → Type 0
Selects ps rows (Filter at condition) y = PassesFilter ps rows condition y
Selects ps rows (Join at op a b) y = Joined op (nodes_of rows) (Selects ps rows a) (Selects ps rows b) y
