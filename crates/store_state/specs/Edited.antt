-- What a commit makes of a list.
use Rattle.std.specs.Prelude.{◌≡◌, ℕ, List, [], ◌∷◌, ◌++◌, map, Option, None, Some}
use Rattle.block_list.specs.Body.{successor}
use Rattle.block_list.specs.declared.body.BlockRef.{BlockRef}
use Rattle.block_list.specs.declared.body.SegmentRef.{SegmentRef}
use Rattle.block_list.specs.declared.body.ListBody.{ListBody}
use Rattle.store_model.specs.After.{released, staying}
use Rattle.store_state.specs.Listed.{segment_of}
use Rattle.store_state.specs.Loose.{flush_part}
use Rattle.store_state.specs.Parted.{inside, outside}
use Rattle.store_state.specs.declared.listing.ListEdit.{ListEdit}
use Rattle.store_state.specs.declared.listing.NewSegment.{NewSegment}

-- An edit of a list: the next file number, the files that are loose, those of the blocks that go, a block and a segment that come last,
-- and the files of jobs that stay open.
pub record Edit : Type 0 where
  pub next_file : ℕ
  pub loose : List ℕ
  pub joined : List ℕ
  pub block : Option BlockRef
  pub segment : Option NewSegment
  pub others : List ℕ

-- the item, if there is one
abbrev pub one_of : {T : Type 0} → Option T → List T
one_of None = []
one_of (Some x) = x ∷ []

abbrev pub edit_of : ListEdit → Edit
edit_of edit = record {
  next_file = edit.next_file;
  loose = edit.loose.now;
  joined = edit.joined.now;
  block = edit.block;
  segment = edit.segment;
  others = flush_part edit.flush ++ one_of edit.compaction;
}

-- A new segment brings the floor, and releases the segments whose follower begins at or below it. Without one all stay.
abbrev pub floor_with : Option NewSegment → ℕ → ℕ
floor_with None floor = floor
floor_with (Some new) floor = new.floor

abbrev pub HaveStayed : Option NewSegment → List SegmentRef → List SegmentRef → Type 0
HaveStayed None segments stay = stay ≡ segments
HaveStayed (Some new) segments stay =
    map segment_of stay ≡ staying new.floor (map segment_of (segments ++ new.segment ∷ []))

abbrev pub released_by : Option NewSegment → List SegmentRef → List ℕ
released_by None segments = []
released_by (Some new) segments = released new.floor (map segment_of (segments ++ new.segment ∷ []))

-- The list that comes after one by an edit. What leaves the list is loose after the files that are, and after it stand the files of
-- jobs that stay open.
pub record IsEdited (list : ListBody) (edit : Edit) (next : ListBody) : Type 0 where
  pub generation : next.generation ≡ successor list.generation
  pub its_next_file : next.next_file ≡ edit.next_file
  pub its_floor : next.floor ≡ floor_with edit.segment list.floor
  pub blocks : next.blocks ≡ outside edit.joined list.blocks ++ one_of edit.block
  pub segments : HaveStayed edit.segment list.segments next.segments
  pub its_loose : next.loose
      ≡ (edit.loose ++ inside edit.joined list.blocks ++ released_by edit.segment list.segments) ++ edit.others
