use Rattle.std.proofs.Common.{◌∙◌, arith, sym}
use Rattle.column_scan.proofs.Starts.{all_none, next_none, one_found}
use Rattle.column_scan.proofs.glanced.some_meets.Goals as goal

pub returns-then-branch-clause-value : goal.returns-then-branch-clause-value
returns-then-branch-clause-value c = λ rows told.
    sym (one_found c.args.sifter.now c.loop-i.sifter rows c.args.glance.now c.loop-i.i c.loop-i.invariant.same told (omega arith)
    (λ row here. sym (c.in_ok-meets_columns.ensures.value row.span (c.columns_at.ensures rows row told here)) ∙ c.if-branch.true))

pub loop-i-preserved : goal.loop-i-preserved
loop-i-preserved c = record {
  same = c.in_ok-meets_columns.ensures.same ∙ c.loop-i.invariant.same;
  none = λ rows told.
      next_none c.args.sifter.now c.loop-i.sifter rows c.args.glance.now c.loop-i.i c.loop-i.invariant.same told (omega arith) (c.loop-i.invariant.none rows told)
      (λ row here. sym (c.in_ok-meets_columns.ensures.value row.span (c.columns_at.ensures rows row told here)) ∙ c.if-branch.false);
}

pub returns-clause-value : goal.returns-clause-value
returns-clause-value c = λ rows told.
    sym (all_none c.args.sifter.now rows c.args.glance.now c.loop-i.i told (omega arith) (c.loop-i.invariant.none rows told))
