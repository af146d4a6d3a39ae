use Rattle.std.proofs.Common.{ℕ, List, [], ◌∷◌, ◌++◌, ◌∙◌, ap}
use Rattle.disk_tests.proofs.TestedLists.{with_these, later_segment, only_block, next_list_rules}
use Rattle.block_list.specs.declared.body.SegmentRef.{SegmentRef}
use Rattle.block_list.specs.declared.body.BlockRef.{BlockRef}
use Rattle.disk_tests.proofs.list.next_list.Goals as goal

pub returns-clause-rules : goal.returns-clause-rules
returns-clause-rules c =
    with_these 1 5 9 c.of.result c.of-2.result c.of-3.result (later_segment ∷ []) (only_block ∷ []) (2 ∷ [])
    (c.of.ensures ∙ c.in_ok-push.ensures.items ∙ ap (λ (l : List SegmentRef). l ++ later_segment ∷ []) c.new-segments.ensures.items)
    (c.of-2.ensures ∙ c.in_ok-push-2.ensures.items ∙ ap (λ (l : List BlockRef). l ++ only_block ∷ []) c.new-blocks.ensures.items)
    (c.of-3.ensures ∙ c.in_ok-push-3.ensures.items ∙ ap (λ (l : List ℕ). l ++ 2 ∷ []) c.new-loose.ensures.items) next_list_rules
