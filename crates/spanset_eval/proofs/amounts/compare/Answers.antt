use Rattle.std.proofs.Common.{◌≡◌, ◌*◌, pos}
use Rattle.std.specs.Prelude.{◌*ℤ◌}
use Rattle.std.specs.Ordering.{int_cmp, nat_cmp, ordering_then}
use Rattle.spanset_eval.proofs.AmountLaws.{amounts_in_order}
use Rattle.spanset_eval.proofs.amounts.compare.Goals as goal

pub returns : goal.returns
returns c =
    let a = c.args.a in
    let b = c.args.b in
    let x = c.divide-former.result in
    let y = c.divide-latter.result in
    let h : ordering_then (int_cmp x.whole y.whole) (nat_cmp (x.rest * b.bottom) (y.rest * a.bottom)) ≡ int_cmp (a.top *ℤ pos b.bottom) (b.top *ℤ pos a.bottom) =
    amounts_in_order a.top b.top x.whole y.whole a.bottom b.bottom x.rest y.rest c.divide-former.ensures.is c.divide-former.ensures.rest c.divide-latter.ensures.is c.divide-latter.ensures.rest in
    cc
