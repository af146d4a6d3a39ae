use Rattle.std.proofs.Common.{List, [], ◌∷◌, ◌++◌, ◌∙◌, ap}
use Rattle.disk_tests.proofs.TestedLists.{with_these, first_segment, new_store_rules}
use Rattle.block_list.specs.declared.body.SegmentRef.{SegmentRef}
use Rattle.disk_tests.proofs.list.new_store.Goals as goal

pub returns-clause-rules : goal.returns-clause-rules
returns-clause-rules c =
    with_these 0 3 0 c.of.result c.of-2.result c.of-3.result (first_segment ∷ []) [] []
    (c.of.ensures ∙ c.in_ok-push.ensures.items ∙ ap (λ (l : List SegmentRef). l ++ first_segment ∷ []) c.new-segments.ensures.items)
    (c.of-2.ensures ∙ c.new.ensures.items) (c.of-3.ensures ∙ c.new-2.ensures.items) new_store_rules
