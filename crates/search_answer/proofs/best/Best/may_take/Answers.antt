use Rattle.std.proofs.Common.{◌≡◌, ◌∙◌, ◌-◌, Bool, true, false, not, Some, length, ap, refl, sym, subst}
use Rattle.std.specs.Prelude.{slice_get}
use Rattle.std.specs.List.Sorted.{IsSorted}
use Rattle.spanset_eval.specs.Ranking.{rank_cmp}
use Rattle.search_answer.specs.Keeping.{BestParts}
use Rattle.search_answer.proofs.BestLaws.{kept_out}
use Rattle.search_answer.proofs.best.Best.may_take.Goals as goal

holds : (b : Bool) → not b ≡ false → b ≡ true
holds true out = refl
holds false out = cc

pub returns-in-Some-clause-kept_out : goal.returns-in-Some-clause-kept_out
returns-in-Some-clause-kept_out c = λ out r same early.
    let kept_is = ap (λ (b : BestParts). b.kept) c.self.view_is in
    let last : slice_get c.args.self.now.kept (length c.args.self.now.kept - 1) ≡ Some c.in-Some.last.now =
    subst (λ l. slice_get l (length l - 1) ≡ Some c.in-Some.last.now) (c.as_slice.ensures ∙ kept_is) (sym c.in-Some.ensures.value) in
    kept_out c.args.self.now.kept c.args.trace c.args.latest c.in-Some.last.now r (subst (λ l. IsSorted rank_cmp l) kept_is c.self.invariant.1) last
    (sym c.ranks_after.ensures ∙ holds c.ranks_after.result out) same early
