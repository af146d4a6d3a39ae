use Rattle.std.proofs.Common.{◌∙◌, ap, sym}
use Rattle.std.specs.Ordering.{is_eq}
use Rattle.compactor.proofs.JoinLaws.{next_other, next_same}
use Rattle.compactor.proofs.joining.is_next.Goals as goal

pub returns-in-Some-clause-next : goal.returns-in-Some-clause-next
returns-in-Some-clause-next c = λ same.
    next_same c.args.trace c.in-Some.next c.args.left.now c.in-Some.ensures.some (ap is_eq (sym c.cmp.ensures) ∙ sym c.is_eq.ensures ∙ same)

pub returns-in-Some-clause-other : goal.returns-in-Some-clause-other
returns-in-Some-clause-other c = λ other from.
    next_other c.args.trace c.in-Some.next c.args.left.now c.in-Some.ensures.some (ap is_eq (sym c.cmp.ensures) ∙ sym c.is_eq.ensures ∙ other) from
