-- What commits make of a list.
use Rattle.std.proofs.Common.{rules, ◌≡◌, ℕ, append_assoc, ◌+◌, ◌<◌, ◌≤◌, min, nat_le, List, [], ◌∷◌, ◌++◌, Bool, true, false, not, Option, None, Some, refl, sym, ◌∙◌, ap, arith, length, length-append, map, filter, if◌then◌else◌}
use Rattle.std.proofs.lemmas.List.{length-map}
use Rattle.span_types.specs.declared.spans.Row.{Row}
use Rattle.block_list.specs.declared.body.BlockRef.{BlockRef}
use Rattle.block_list.specs.declared.body.SegmentRef.{SegmentRef}
use Rattle.block_list.specs.declared.body.ListBody.{ListBody}
use Rattle.store_model.specs.State.{State, Block, Segment, block_files, is_among, live_rows}
use Rattle.store_model.specs.Choice.{in_files, outside_files}
use Rattle.store_model.specs.After.{floor_after, least, released, staying}
use Rattle.live_traces.specs.Parts.{least_number, least_with}
use Rattle.store_state.specs.Edited.{Edit, HaveStayed, IsEdited, one_of, released_by}
use Rattle.store_state.specs.Listed.{floor_from, ref_of, segment_of}
use Rattle.store_state.specs.Parted.{inside, outside}
use Rattle.store_state.specs.declared.listing.NewSegment.{NewSegment}

pub map_append : {X Y : Type 0} (f : X → Y) (xs ys : List X) → map f (xs ++ ys) ≡ map f xs ++ map f ys
map_append f [] ys = refl
map_append f (x ∷ xs) ys = ap (λ zs. f x ∷ zs) (map_append f xs ys)

-- ---- the floor

found_least : (count n : ℕ) (rows : List Row) → floor_from count (least_with (Some n) rows) ≡ min n (least count rows)
found_least count n [] = refl
found_least count n (row ∷ rows) = found_least count (min n row.place.number) rows ∙ regroup n row.place.number (least count rows)
  where
    regroup : (a b c : ℕ) → min (min a b) c ≡ min a (min b c)
    regroup a b c = omega arith

pub least_is : (count : ℕ) (rows : List Row) → floor_from count (least_number rows) ≡ least count rows
least_is count [] = refl
least_is count (row ∷ rows) = found_least count row.place.number rows

pub floor_is : (count : ℕ) (u : State) (found : Option ℕ) → found ≡ least_number (u.head ++ live_rows u.live) → floor_after count u ≡ floor_from count found
floor_is count u found e = sym (least_is count (u.head ++ live_rows u.live)) ∙ ap (floor_from count) (sym e)

-- ---- segments

le_test : (a b : ℕ) → a ≤ b → nat_le a b ≡ true
le_test a b h = search rules

lt_test : (a b : ℕ) → b < a → nat_le a b ≡ false
lt_test a b h = search rules

-- a segment whose follower begins at or below the floor goes, and another one stays
pub goes_staying : (floor : ℕ) (a b : SegmentRef) (rest : List SegmentRef) → b.first ≤ floor →
    staying floor (map segment_of (b ∷ rest)) ≡ staying floor (map segment_of (a ∷ b ∷ rest))
goes_staying floor a b rest h =
    ap (λ t. if t then staying floor (map segment_of (b ∷ rest)) else segment_of a ∷ staying floor (map segment_of (b ∷ rest))) (sym (le_test b.first floor h))

pub goes_released : (floor : ℕ) (a b : SegmentRef) (rest : List SegmentRef) → b.first ≤ floor →
    a.file ∷ released floor (map segment_of (b ∷ rest)) ≡ released floor (map segment_of (a ∷ b ∷ rest))
goes_released floor a b rest h =
    ap (λ t. if t then a.file ∷ released floor (map segment_of (b ∷ rest)) else released floor (map segment_of (b ∷ rest))) (sym (le_test b.first floor h))

pub stays_staying : (floor : ℕ) (a b : SegmentRef) (rest : List SegmentRef) → floor < b.first →
    segment_of a ∷ staying floor (map segment_of (b ∷ rest)) ≡ staying floor (map segment_of (a ∷ b ∷ rest))
stays_staying floor a b rest h =
    ap (λ t. if t then staying floor (map segment_of (b ∷ rest)) else segment_of a ∷ staying floor (map segment_of (b ∷ rest))) (sym (lt_test b.first floor h))

pub stays_released : (floor : ℕ) (a b : SegmentRef) (rest : List SegmentRef) → floor < b.first →
    released floor (map segment_of (b ∷ rest)) ≡ released floor (map segment_of (a ∷ b ∷ rest))
stays_released floor a b rest h =
    ap (λ t. if t then a.file ∷ released floor (map segment_of (b ∷ rest)) else released floor (map segment_of (b ∷ rest))) (sym (lt_test b.first floor h))

pub one_kept : (floor : ℕ) (kept : List SegmentRef) (a b : SegmentRef) (rest : List SegmentRef) → floor < b.first →
    map segment_of (kept ++ a ∷ []) ++ staying floor (map segment_of (b ∷ rest)) ≡ map segment_of kept ++ staying floor (map segment_of (a ∷ b ∷ rest))
one_kept floor kept a b rest h =
    ap (λ xs. xs ++ staying floor (map segment_of (b ∷ rest))) (map_append segment_of kept (a ∷ []))
    ∙ append_assoc (map segment_of kept) (segment_of a ∷ []) (staying floor (map segment_of (b ∷ rest)))
    ∙ ap (λ xs. map segment_of kept ++ xs) (stays_staying floor a b rest h)

pub one_released : (floor : ℕ) (loose : List ℕ) (a b : SegmentRef) (rest : List SegmentRef) → b.first ≤ floor →
    (loose ++ a.file ∷ []) ++ released floor (map segment_of (b ∷ rest)) ≡ loose ++ released floor (map segment_of (a ∷ b ∷ rest))
one_released floor loose a b rest h =
    append_assoc loose (a.file ∷ []) (released floor (map segment_of (b ∷ rest))) ∙ ap (λ xs. loose ++ xs) (goes_released floor a b rest h)

-- ---- blocks

pub blocks_outside : (files : List ℕ) (blocks : List Block) → map ref_of (outside_files files blocks) ≡ outside files (map ref_of blocks)
blocks_outside files [] = refl
blocks_outside files (b ∷ bs) = by_test (is_among b.file files) (blocks_outside files bs)
  where
    by_test : (t : Bool) → map ref_of (outside_files files bs) ≡ outside files (map ref_of bs) →
        map ref_of (if not t then b ∷ outside_files files bs else outside_files files bs) ≡ (if not t then ref_of b ∷ outside files (map ref_of bs) else outside files (map ref_of bs))
    by_test true h = h
    by_test false h = ap (λ xs. ref_of b ∷ xs) h

pub files_inside : (files : List ℕ) (blocks : List Block) → block_files (in_files files blocks) ≡ inside files (map ref_of blocks)
files_inside files [] = refl
files_inside files (b ∷ bs) = by_test (is_among b.file files) (files_inside files bs)
  where
    by_test : (t : Bool) → block_files (in_files files bs) ≡ inside files (map ref_of bs) →
        block_files (if t then b ∷ in_files files bs else in_files files bs)
        ≡ map (λ (r : BlockRef). r.file) (if t then ref_of b ∷ filter (λ (r : BlockRef). is_among r.file files) (map ref_of bs) else filter (λ (r : BlockRef). is_among r.file files) (map ref_of bs))
    by_test true h = ap (λ xs. b.file ∷ xs) h
    by_test false h = h

pub outside-append : (files : List ℕ) (xs ys : List BlockRef) → outside files (xs ++ ys) ≡ outside files xs ++ outside files ys
outside-append files [] ys = refl
outside-append files (x ∷ xs) ys = by_test (is_among x.file files) (outside-append files xs ys)
  where
    by_test : (t : Bool) → outside files (xs ++ ys) ≡ outside files xs ++ outside files ys →
        (if not t then x ∷ outside files (xs ++ ys) else outside files (xs ++ ys)) ≡ (if not t then x ∷ outside files xs else outside files xs) ++ outside files ys
    by_test true h = h
    by_test false h = ap (λ zs. x ∷ zs) h

pub inside-append : (files : List ℕ) (xs ys : List BlockRef) → inside files (xs ++ ys) ≡ inside files xs ++ inside files ys
inside-append files [] ys = refl
inside-append files (x ∷ xs) ys = by_test (is_among x.file files) (inside-append files xs ys)
  where
    by_test : (t : Bool) → inside files (xs ++ ys) ≡ inside files xs ++ inside files ys →
        map (λ (r : BlockRef). r.file) (if t then x ∷ filter (λ (r : BlockRef). is_among r.file files) (xs ++ ys) else filter (λ (r : BlockRef). is_among r.file files) (xs ++ ys))
        ≡ map (λ (r : BlockRef). r.file) (if t then x ∷ filter (λ (r : BlockRef). is_among r.file files) xs else filter (λ (r : BlockRef). is_among r.file files) xs) ++ inside files ys
    by_test true h = ap (λ zs. x.file ∷ zs) h
    by_test false h = h

-- ---- room

parted_length : (floor : ℕ) (segments : List Segment) → length (staying floor segments) + length (released floor segments) ≡ length segments
parted_length floor [] = refl
parted_length floor (a ∷ []) = refl
parted_length floor (a ∷ b ∷ rest) = by_test (nat_le b.first floor) (parted_length floor (b ∷ rest))
  where
    by_test : (t : Bool) → length (staying floor (b ∷ rest)) + length (released floor (b ∷ rest)) ≡ length (b ∷ rest) →
        length (if t then staying floor (b ∷ rest) else a ∷ staying floor (b ∷ rest)) + length (if t then a.file ∷ released floor (b ∷ rest) else released floor (b ∷ rest)) ≡ length (a ∷ b ∷ rest)
    by_test true h = omega (arith, h)
    by_test false h = omega (arith, h)

-- each block stays, or its file is loose
sides_length : (files : List ℕ) (blocks : List BlockRef) → length (outside files blocks) + length (inside files blocks) ≡ length blocks
sides_length files [] = refl
sides_length files (b ∷ bs) = by_test (is_among b.file files) (sides_length files bs)
  where
    by_test : (t : Bool) → length (outside files bs) + length (inside files bs) ≡ length bs →
        length (if not t then b ∷ outside files bs else outside files bs)
        + length (map (λ (r : BlockRef). r.file) (if t then b ∷ filter (λ (r : BlockRef). is_among r.file files) bs else filter (λ (r : BlockRef). is_among r.file files) bs)) ≡ length (b ∷ bs)
    by_test true h = omega (arith, h)
    by_test false h = omega (arith, h)

-- each block and each segment stays, or its file is loose
pub record Lengths (list : ListBody) (edit : Edit) (next : ListBody) : Type 0 where
  pub blocks : length next.blocks ≤ length list.blocks + length (one_of edit.block)
  pub segments : length next.segments ≤ length list.segments + length (one_of edit.segment)
  pub all : length next.blocks + length next.segments + length next.loose
      ≡ length list.blocks + length list.segments + length edit.loose + length (one_of edit.block) + length (one_of edit.segment) + length edit.others

pub edited_lengths : (list : ListBody) (edit : Edit) (next : ListBody) → IsEdited list edit next → Lengths list edit next
edited_lengths list edit next is = record {
  blocks = omega (arith, blocks, sides);
  segments = omega (arith, segments);
  all = omega (arith, blocks, sides, segments, loose, front, behind);
}
  where
    gone : List ℕ
    gone = inside edit.joined list.blocks

    released_files : List ℕ
    released_files = released_by edit.segment list.segments

    blocks : length next.blocks ≡ length (outside edit.joined list.blocks) + length (one_of edit.block)
    blocks = ap length is.blocks ∙ length-append (outside edit.joined list.blocks) (one_of edit.block)

    sides : length (outside edit.joined list.blocks) + length gone ≡ length list.blocks
    sides = sides_length edit.joined list.blocks

    by_segment : (new : Option NewSegment) → HaveStayed new list.segments next.segments →
        length next.segments + length (released_by new list.segments) ≡ length list.segments + length (one_of new)
    by_segment None same = omega (arith, ap length same)
    by_segment (Some new) stays =
        let all : List SegmentRef = list.segments ++ new.segment ∷ [] in
        let same = sym (length-map next.segments segment_of) ∙ ap length stays in
        let both = parted_length new.floor (map segment_of all) in
        let whole = length-map all segment_of ∙ length-append list.segments (new.segment ∷ []) in
        omega (arith, same, both, whole)

    segments : length next.segments + length released_files ≡ length list.segments + length (one_of edit.segment)
    segments = by_segment edit.segment is.segments

    loose : length next.loose ≡ length (edit.loose ++ gone ++ released_files) + length edit.others
    loose = ap length is.its_loose ∙ length-append (edit.loose ++ gone ++ released_files) edit.others

    front : length (edit.loose ++ gone ++ released_files) ≡ length (edit.loose ++ gone) + length released_files
    front = length-append (edit.loose ++ gone) released_files

    behind : length (edit.loose ++ gone) ≡ length edit.loose + length gone
    behind = length-append edit.loose gone

-- ---- an edit by which no block goes

pub outside_none : (blocks : List BlockRef) → outside [] blocks ≡ blocks
outside_none [] = refl
outside_none (b ∷ bs) = ap (λ xs. b ∷ xs) (outside_none bs)

pub inside_none : (blocks : List BlockRef) → inside [] blocks ≡ []
inside_none [] = refl
inside_none (b ∷ bs) = inside_none bs
