-- So far each span that was passed has its family.
use Rattle.std.specs.BTreeMap.{get}
use Rattle.span_types.specs.Orders.{span_cmp}
use Rattle.span_tree.proofs.BuildLaws.{FamiliesBelow}
use Rattle.span_tree.proofs.build.families.Given as goal

abbrev pub invariant-loop-position : goal.invariant-loop-position
invariant-loop-position l = FamiliesBelow l.nodes (get span_cmp l.firsts) l.families.items l.position
