use Rattle.std.proofs.Common.{arith, sym, subst}
use Rattle.std.specs.List.Sorted.{IsSorted}
use Rattle.std.proofs.lemmas.List.{take_all}
use Rattle.column_scan.specs.Candidates.{HaveLatest}
use Rattle.column_scan.specs.Picking.{pick_cmp}
use Rattle.column_scan.proofs.Latest.{none_after, of_permutation, sorted_step}
use Rattle.column_scan.proofs.picks.in_order.Goals as goal

pub loop-pick-preserved : goal.loop-pick-preserved
loop-pick-preserved c =
    let items = c.as_slice-pick-items.result.now in
    let up : IsSorted pick_cmp items = subst (λ l. IsSorted pick_cmp l) (sym c.as_slice-pick-items.ensures.value) c.sorted-ranked.ensures.sorted in
    record {
      latest = sorted_step items c.loop-pick.all.items c.add.new.picks.items c.loop-pick.pick-index _ (omega arith) c.loop-pick.invariant.latest c.in_ok-add.ensures.latest;
      ascending = c.in_ok-add.ensures.order c.loop-pick.invariant.ascending (none_after items c.loop-pick.all.items c.loop-pick.pick-index _ up (omega arith) c.loop-pick.invariant.latest);
    }

pub returns-clause-latest : goal.returns-clause-latest
returns-clause-latest c =
    let items = c.as_slice-pick-items.result.now in
    of_permutation c.args.picks.items c.sorted-ranked.result.items c.loop-pick.all.items c.sorted-ranked.ensures.same
    (subst (λ l. HaveLatest l c.loop-pick.all.items) c.as_slice-pick-items.ensures.value
    (subst (λ l. HaveLatest l c.loop-pick.all.items) (take_all c.loop-pick.pick-index items (omega arith)) c.loop-pick.invariant.latest))
