use Rattle.std.proofs.Common.{arith}
use Rattle.std.specs.BTreeMap.{get}
use Rattle.span_types.specs.Orders.{span_cmp}
use Rattle.span_tree.proofs.BuildLaws.{stands_more, stands_none, nothing_yet, id_at_place, id_within}
use Rattle.span_tree.proofs.Ids.{other_kept}
use Rattle.span_tree.proofs.build.positions.Goals as goal

pub loop-position-init : goal.loop-position-init
loop-position-init c = stands_none _ _ (nothing_yet c.new-positions.result c.new-positions.ensures.empty)

pub loop-position-preserved : goal.loop-position-preserved
loop-position-preserved c =
    let updates = c.in_ok-insert.ensures.updates in
    stands_more c.args.nodes.now (get span_cmp c.loop-position.positions) (get span_cmp c.insert.new.self) c.loop-position.position _ c.requires c.loop-position.invariant
    (id_at_place c.args.nodes.now c.loop-position.position _ (omega arith)) updates.1
    (λ q ne. other_kept (get span_cmp c.loop-position.positions) (get span_cmp c.insert.new.self) _ q _ (updates.0 q) ne)

pub returns : goal.returns
returns c = record {
  sound = c.loop-position.invariant.sound;
  whole = λ q x h. let l = id_within c.args.nodes.now x q h in c.loop-position.invariant.whole q x (omega arith) h;
}
