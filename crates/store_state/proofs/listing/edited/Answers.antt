use Rattle.std.proofs.Common.{◌∙◌, ◌++◌, ℕ, List, refl, sym, ap, subst, append_assoc}
use Rattle.block_list.specs.declared.body.BlockRef.{BlockRef}
use Rattle.block_list.specs.declared.body.SegmentRef.{SegmentRef}
use Rattle.store_state.specs.Edited.{HaveStayed, one_of, released_by}
use Rattle.store_state.specs.Loose.{flush_part}
use Rattle.store_state.specs.Parted.{inside, outside}
use Rattle.store_state.proofs.listing.edited.Goals as goal

pub returns : goal.returns
returns c =
    let list = c.args.list.now in
    let edit = c.args.edit in
    let others : List ℕ = flush_part edit.flush ++ one_of edit.compaction in
    let listed = c.as_slice.result.now in
    let parted = c.as_slice-2.result.now in
    record {
      generation = refl;
      its_next_file = refl;
      its_floor = c.new_floor.ensures;
      blocks = c.of-2.ensures ∙ c.put_some.ensures ∙ ap (λ (l : List BlockRef). l ++ one_of edit.block) (c.part_blocks.ensures.stay ∙ ap (outside edit.joined.now) c.as_slice.ensures);
      segments = subst (λ (l : List SegmentRef). HaveStayed edit.segment list.segments l) (sym c.of.ensures)
          (subst (λ (l : List SegmentRef). HaveStayed edit.segment l c.part_all_segments.new.segments.items) c.as_slice-2.ensures c.part_all_segments.ensures.stay);
      its_loose = c.of-3.ensures ∙ c.put_some-2.ensures ∙ ap (λ (l : List ℕ). l ++ one_of edit.compaction) c.put_flush.ensures.items
          ∙ append_assoc c.part_all_segments.new.loose.items (flush_part edit.flush) (one_of edit.compaction)
          ∙ ap (λ (l : List ℕ). l ++ others)
          (c.part_all_segments.ensures.go
          ∙ ap (λ (l : List ℕ). l ++ released_by edit.segment parted) (c.part_blocks.ensures.go ∙ ap (λ (l : List ℕ). l ++ inside edit.joined.now listed) c.fill.ensures.items)
          ∙ ap (λ (l : List BlockRef). edit.loose.now ++ inside edit.joined.now l ++ released_by edit.segment parted) c.as_slice.ensures
          ∙ ap (λ (l : List SegmentRef). edit.loose.now ++ inside edit.joined.now list.blocks ++ released_by edit.segment l) c.as_slice-2.ensures);
    }
