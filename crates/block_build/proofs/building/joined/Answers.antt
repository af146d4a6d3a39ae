use Rattle.std.proofs.Common.{◌++◌, ℕ, List, drop, length, ap, ◌∙◌}
use Rattle.block_build.proofs.Whole.{four_parts}
use Rattle.block_build.proofs.building.joined.Goals as goal

pub returns : goal.returns
returns c =
    c.of.ensures ∙ c.in_ok-extend_from_slice-2.ensures.items
    ∙ ap (λ (l : List ℕ). l ++ c.as_slice-2.result.now) (c.in_ok-extend_from_slice.ensures.items ∙ ap (λ (l : List ℕ). l ++ c.as_slice.result.now) c.with_front.ensures)
    ∙ four_parts c.args.front.now (drop (length c.args.front.now) c.args.bytes.items) c.args.tail.now.index c.args.tail.now.bloom c.as_slice.result.now c.as_slice-2.result.now c.as_slice.ensures c.as_slice-2.ensures
