-- The relations among the spans of one trace, which are named by their positions.
use Rattle.std.specs.Prelude.{◌≡◌, ◌≢◌, ℕ, List, Some}
use Rattle.span_types.specs.declared.ids.SpanId.{SpanId}
use Rattle.span_tree.specs.declared.node.Node.{Node}
use Rattle.span_tree.specs.Nodes.{id_at, parent_at}

-- x is the parent of y: both are there, and the id of x is the one that y names as its parent's.
pub record IsParent (nodes : List Node) (x y : ℕ) : Type 0 where
  pub id : SpanId
  pub is : id_at nodes x ≡ Some id
  pub named : parent_at nodes y ≡ Some id

-- x is an ancestor of y: one or more steps from a parent to a child lead from x to y. So in a ring of parents each span
-- is an ancestor of each, and of itself.
pub data IsAncestor : List Node → ℕ → ℕ → Type 0 where
  one : {nodes : List Node} {x y : ℕ} → IsParent nodes x y → IsAncestor nodes x y
  more : {nodes : List Node} {x y z : ℕ} → IsAncestor nodes x y → IsParent nodes y z → IsAncestor nodes x z

-- x and y are siblings: two different spans that name one parent, whether it is there or not.
pub record IsSibling (nodes : List Node) (x y : ℕ) : Type 0 where
  pub parent : SpanId
  pub former : parent_at nodes x ≡ Some parent
  pub latter : parent_at nodes y ≡ Some parent
  pub different : x ≢ y
