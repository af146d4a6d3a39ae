-- Private mechanism. The tree of a trace, which is made once.
use Rattle.std.specs.Prelude.{◌≡◌, List, Option, Some, None, ⊤}
use Rattle.span_tree.specs.declared.node.Node.{Node}
use Rattle.span_tree.specs.Nodes.{nodes_of}
use Rattle.span_types.specs.declared.spans.Row.{Row}

-- The tree that was made is that of these rows; none need have been made.
abbrev pub IsTreeOf : List Row → Option (List Node) → Type 0
IsTreeOf rows None = ⊤
IsTreeOf rows (Some tree) = tree ≡ nodes_of rows
