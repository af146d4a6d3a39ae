use Rattle.std.proofs.Common.{map, ◌∙◌, ap, arith}
use Rattle.std.specs.Option.{option_and_then}
use Rattle.std.specs.BTreeMap.{get}
use Rattle.std.proofs.lemmas.List.{take_all}
use Rattle.span_types.specs.Orders.{span_cmp}
use Rattle.span_tree.proofs.BuildLaws.{parents_found}
use Rattle.span_tree.proofs.build.parents.Goals as goal

pub returns : goal.returns
returns c =
    parents_found c.args.nodes.now c.args.positions.now c.loop-node.parents.items c.requires
    (c.loop-node.invariant ∙ ap (λ ns. map (λ n. option_and_then (get span_cmp c.args.positions.now) n.parent) ns) (take_all c.loop-node.node-index c.args.nodes.now (omega arith)))
