-- Private mechanism. The tables of a tree: what each has for each span.
use Rattle.std.specs.Prelude.{◌≡◌, ℕ, ◌<◌, ◌⊎◌, List, Option, None, Some, length, slice_index_or}
use Rattle.std.specs.BTreeMap.{BTreeMap, get}
use Rattle.span_types.specs.declared.ids.SpanId.{SpanId}
use Rattle.span_types.specs.Orders.{span_cmp}
use Rattle.span_tree.specs.declared.node.Node.{Node}
use Rattle.span_tree.specs.Nodes.{id_at, parent_at}
use Rattle.span_tree.specs.Relations.{IsParent}

-- No two spans have one id.
pub record IdsDiffer (nodes : List Node) : Type 0 where
  pub apart : (i j : ℕ) (q : SpanId) → id_at nodes i ≡ Some q → id_at nodes j ≡ Some q → i ≡ j

-- What the table has at a position: nothing where it ends.
abbrev pub at : List (Option ℕ) → ℕ → Option ℕ
at table y = slice_index_or table y None

-- The map has for each id the position of its span.
pub record IndexesNodes (nodes : List Node) (positions : BTreeMap SpanId ℕ) : Type 0 where
  pub sound : (q : SpanId) (x : ℕ) → get span_cmp positions q ≡ Some x → id_at nodes x ≡ Some q
  pub whole : (q : SpanId) (x : ℕ) → id_at nodes x ≡ Some q → get span_cmp positions q ≡ Some x

-- The table has for each span the position of its parent, where that is there.
pub record HasParents (nodes : List Node) (parents : List (Option ℕ)) : Type 0 where
  pub one_each : length parents ≡ length nodes
  pub sound : (x y : ℕ) → at parents y ≡ Some x → IsParent nodes x y
  pub whole : (x y : ℕ) → IsParent nodes x y → at parents y ≡ Some x

-- The table has for each span that names a parent a position, the same for just the spans that name this parent.
pub record HasFamilies (nodes : List Node) (families : List (Option ℕ)) : Type 0 where
  pub one_each : length families ≡ length nodes
  pub within : (y f : ℕ) → at families y ≡ Some f → f < length nodes
  pub sound : (x y f : ℕ) → at families x ≡ Some f → at families y ≡ Some f → (p : SpanId) × (parent_at nodes x ≡ Some p) × (parent_at nodes y ≡ Some p)
  pub whole : (x y : ℕ) (p : SpanId) → parent_at nodes x ≡ Some p → parent_at nodes y ≡ Some p → (f : ℕ) × (at families x ≡ Some f) × (at families y ≡ Some f)

-- What one more span, which names `parent`, makes of the families known so far: it has the family of its parent, which is
-- new, and then this very position, where that parent wasn't named before.
pub record JoinsFamily (known after : SpanId → Option ℕ) (parent : Option SpanId) (position : ℕ) (family : Option ℕ) : Type 0 where
  pub nameless : parent ≡ None → family ≡ None
  pub joined : (p : SpanId) → parent ≡ Some p → (f : ℕ) × (family ≡ Some f) × (after p ≡ Some f) × ((known p ≡ Some f) ⊎ ((known p ≡ None) × (f ≡ position)))
  pub others : (q : SpanId) → (parent ≡ Some q → ⊥) → after q ≡ known q

-- The tables are those of the spans, no two of which have one id.
pub record IsLinked (nodes : List Node) (parents families : List (Option ℕ)) : Type 0 where
  pub differ : IdsDiffer nodes
  pub has_parents : HasParents nodes parents
  pub has_families : HasFamilies nodes families
