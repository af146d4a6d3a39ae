use Rattle.std.proofs.Common.{subst, sym, arith, ◌+◌}
use Rattle.span_tree.proofs.ReachLaws.{EndsBelow, ends_more, ends_whole}
use Rattle.span_tree.proofs.reach.ends.Goals as goal

pub loop-position-preserved : goal.loop-position-preserved
loop-position-preserved g c = record {
  ends = subst (λ es. EndsBelow c.args.marked.now c.args.table.now es (c.loop-position.position + 1)) (sym c.in_ok-extend.ensures)
      (ends_more c.args.marked.now c.args.table.now c.loop-position.ends.items c.loop-position.position c.entry_where_marked-end.result c.loop-position.invariant.ends c.entry_where_marked-end.ensures.entry);
  steps = omega arith;
}

pub returns-clause-ends : goal.returns-clause-ends
returns-clause-ends g c = ends_whole c.args.marked.now c.args.table.now c.loop-position.ends.items c.loop-position.position (omega arith) c.loop-position.invariant.ends
