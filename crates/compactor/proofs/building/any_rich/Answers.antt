use Rattle.std.proofs.Common.{◌≡◌, List, arith, subst}
use Rattle.block_format.specs.Blocks.{form_of_rows}
use Rattle.span_types.specs.declared.spans.Row.{Row}
use Rattle.compactor.proofs.JoinLaws.{parts_all}
use Rattle.compactor.proofs.building.any_rich.Goals as goal

pub returns : goal.returns
returns c = λ _. subst (λ (l : List Row). form_of_rows l ≡ 1) (parts_all c.args.parts.now c.loop-part.part-index (omega arith)) c.loop-part.invariant
