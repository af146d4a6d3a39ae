use Rattle.std.proofs.Common.{◌≤◌, List, length, subst, sym, ◌∙◌}
use Rattle.std.specs.Prelude.{IfOk}
use Rattle.span_types.specs.declared.spans.Row.{Row}
use Rattle.block_build.specs.Built.{IsBlockOf}
use Rattle.block_build.proofs.building.build.Goals as goal

pub build_refs-requires-clause-some : goal.build_refs-requires-clause-some
build_refs-requires-clause-some c = subst (λ (l : List Row). 1 ≤ length l) (sym (c.as_slice-2.ensures.value ∙ c.in_ok-refs.ensures ∙ c.as_slice.ensures)) c.requires.some

pub build_refs-requires-clause-few : goal.build_refs-requires-clause-few
build_refs-requires-clause-few c = subst (λ (l : List Row). length l ≤ 1048576) (sym (c.as_slice-2.ensures.value ∙ c.in_ok-refs.ensures ∙ c.as_slice.ensures)) c.requires.few

pub returns-clause-block : goal.returns-clause-block
returns-clause-block c =
    subst (λ (l : List Row). IfOk c.build_refs.result (λ built. IsBlockOf l built)) (c.as_slice-2.ensures.value ∙ c.in_ok-refs.ensures ∙ c.as_slice.ensures) c.build_refs.ensures.block
