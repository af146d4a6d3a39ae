use Rattle.std.proofs.Common.{◌≡◌, sym, ◌∙◌, subst}
use Rattle.span_tree.specs.Nodes.{nodes_of}
use Rattle.span_tree.specs.Tables.{IdsDiffer}
use Rattle.span_tree.proofs.BuildLaws.{ids_differ}
use Rattle.span_tree.proofs.RelationLaws.{parents_at, families_at}
use Rattle.span_tree.proofs.tree.Tree.of_slice.Goals as goal

pub positions-requires : goal.positions-requires
positions-requires c =
    let is : nodes_of c.args.rows.now ≡ c.as_slice.result.now = sym c.in_ok-nodes.ensures ∙ sym c.as_slice.ensures.value in
    subst IdsDiffer is (ids_differ c.args.rows.now c.requires)

pub invariant_of-result : goal.invariant_of-result
invariant_of-result c =
    let is : nodes_of c.args.rows.now ≡ c.of.result = sym c.in_ok-nodes.ensures ∙ sym c.of.ensures in
    record {
      differ = subst IdsDiffer is (ids_differ c.args.rows.now c.requires);
      has_parents = parents_at _ _ _ _ (c.as_slice-2.ensures.value ∙ sym c.of.ensures) c.of-2.ensures c.in_ok-parents.ensures;
      has_families = families_at _ _ _ _ (c.as_slice-3.ensures.value ∙ sym c.of.ensures) c.of-3.ensures c.in_ok-families.ensures;
    }
