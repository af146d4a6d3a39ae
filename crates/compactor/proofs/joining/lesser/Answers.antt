use Rattle.std.proofs.Common.{Option, ap, subst, sym, ◌∙◌}
use Rattle.std.specs.Ordering.{is_lt}
use Rattle.span_types.specs.declared.ids.TraceId.{TraceId}
use Rattle.compactor.specs.Joining.{IsLeast}
use Rattle.compactor.proofs.JoinLaws.{least_former, least_latter}
use Rattle.compactor.proofs.joining.lesser.Goals as goal

pub returns-then-is_lt : goal.returns-then-is_lt
returns-then-is_lt c = λ xs ys one two.
    least_latter c.in-Some.x c.in-Some-b.y xs ys (ap is_lt (sym c.cmp.ensures) ∙ sym c.is_lt.ensures ∙ c.if-is_lt.true)
    (subst (λ (o : Option TraceId). IsLeast o xs) c.in-Some.is one) (subst (λ (o : Option TraceId). IsLeast o ys) c.in-Some-b.is two)

pub returns-else-is_lt : goal.returns-else-is_lt
returns-else-is_lt c = λ xs ys one two.
    least_former c.in-Some.x c.in-Some-b.y xs ys (ap is_lt (sym c.cmp.ensures) ∙ sym c.is_lt.ensures ∙ c.if-is_lt.false)
    (subst (λ (o : Option TraceId). IsLeast o xs) c.in-Some.is one) (subst (λ (o : Option TraceId). IsLeast o ys) c.in-Some-b.is two)
