use Rattle.std.proofs.Common.{arith, get_or, refl, subst, sym, take}
use Rattle.compactor.specs.Joining.{IsLeast}
use Rattle.compactor.proofs.JoinLaws.{flat, parts_all, parts_more}
use Rattle.compactor.proofs.joining.least_trace.Goals as goal

pub loop-left-init : goal.loop-left-init
loop-left-init c = refl

pub loop-left-preserved : goal.loop-left-preserved
loop-left-preserved c =
    let lefts = c.args.lefts.now in
    let i = c.loop-left.left-index in
    let left = c.left-item.result in
    subst (IsLeast c.lesser-least.result) (sym (parts_more lefts i left (omega arith)))
    (c.lesser-least.ensures (flat (take i lefts)) (get_or lefts i left) c.loop-left.invariant (subst (IsLeast c.first_trace.result) c.left-item.is c.first_trace.ensures))

pub returns : goal.returns
returns c = subst (IsLeast c.loop-left.least) (parts_all c.args.lefts.now c.loop-left.left-index (omega arith)) c.loop-left.invariant
