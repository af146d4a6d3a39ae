-- Private mechanism. Relations among spans, seen from the other side.
use Rattle.traceql_syntax.specs.declared.query.Relation.{Relation}
use Rattle.traceql_syntax.specs.declared.query.Relation.TheVariants as relation

abbrev pub opposite_of : Relation → Relation
opposite_of relation.Child = relation.Parent
opposite_of relation.Descendant = relation.Ancestor
opposite_of relation.Parent = relation.Child
opposite_of relation.Ancestor = relation.Descendant
opposite_of relation.Sibling = relation.Sibling
