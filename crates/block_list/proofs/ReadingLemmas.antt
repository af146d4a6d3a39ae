-- Reading one entry more.
use Rattle.std.proofs.Common.{◌≡◌, ℕ, zero, suc, ◌+◌, ◌-◌, ◌<◌, Bool, true, false, not, eqb, leb, ltb, ◌&&◌, ◌||◌, Option, Some, None, List, [], ◌∷◌, ◌++◌, map, Result, Ok, Err, refl, sym, ◌∙◌, ap, subst, arith, append_assoc}
use Rattle.std.specs.Prelude.{nat_eq}
use Rattle.std.specs.List.{list_any}
use Rattle.std.proofs.lemmas.List.{map-append}
use Rattle.std.proofs.lemmas.Bool.Decides.{nat_tests}
use Rattle.std.proofs.lemmas.List.Folds.{list_any-append}
use Rattle.byte_fields.specs.Reading.{Stand, ◌>>=◌}
use Rattle.block_list.specs.Reading.{ruled, read32, file_at, head_at, segment_ref_at, segments_at, block_at, blocks_at, loose_at, list_body_at, SameFiles, WithFile, GivesAt}
use Rattle.block_list.specs.declared.reading.Head.{Head}
use Rattle.block_list.specs.declared.body.SegmentRef.{SegmentRef}
use Rattle.block_list.specs.declared.body.BlockRef.{BlockRef}

-- the rule asks only which files are named
file_same_of : (next_file : ℕ) (a b : List ℕ) (s : Stand) (r : Result (ℕ × Stand) ℕ) → SameFiles a b
    → (r >>= λ file. ruled (leb 2 file.0 && ltb file.0 next_file && not (list_any (nat_eq file.0) a)) s.at file) ≡ (r >>= λ file. ruled (leb 2 file.0 && ltb file.0 next_file && not (list_any (nat_eq file.0) b)) s.at file)
file_same_of next_file a b s (Ok file) same = ap (λ (t : Bool). ruled (leb 2 file.0 && ltb file.0 next_file && not t) s.at file) (same file.0)
file_same_of next_file a b s (Err at) same = refl

pub file_at-same : (next_file : ℕ) (a b : List ℕ) (s : Stand) → SameFiles a b → file_at next_file a s ≡ file_at next_file b s
unfolding file_at
file_at-same next_file a b s same = file_same_of next_file a b s (read32 s) same

pub segment_ref_at-same : (next_file floor : ℕ) (is_last : Bool) (before : Option ℕ) (a b : List ℕ) (s : Stand) → SameFiles a b → segment_ref_at next_file floor is_last before a s ≡ segment_ref_at next_file floor is_last before b s
unfolding segment_ref_at
segment_ref_at-same next_file floor is_last before a b s same = rw (file_at-same next_file a b s same) refl

pub block_at-same : (next_file : ℕ) (a b : List ℕ) (s : Stand) → SameFiles a b → block_at next_file a s ≡ block_at next_file b s
unfolding block_at
block_at-same next_file a b s same = rw (file_at-same next_file a b s same) refl

-- one file more at the end of a list
with_one_more : (file : ℕ) (before after these : List ℕ) → WithFile file before after → SameFiles before these → SameFiles after (these ++ file ∷ [])
with_one_more file before after these more same other =
    more other
    ∙ ap (λ (b : Bool). nat_eq other file || b) (same other)
    ∙ turned (nat_eq other file) (list_any (nat_eq other) these)
    ∙ sym (list_any-append (nat_eq other) these (file ∷ []))
  where
    turned : (a b : Bool) → (a || b) ≡ (b || (a || false))
    turned true true = refl
    turned true false = refl
    turned false true = refl
    turned false false = refl

pub files_more : {X : Type 0} (file_of : X → ℕ) (before after : List ℕ) (earlier : List ℕ) (items : List X) (item : X) → WithFile (file_of item) before after → SameFiles before (earlier ++ map file_of items)
    → SameFiles after (earlier ++ map file_of (items ++ item ∷ []))
files_more file_of before after earlier items item more same =
    subst (λ (l : List ℕ). SameFiles after l)
    (append_assoc earlier (map file_of items) (file_of item ∷ []) ∙ ap (λ (l : List ℕ). earlier ++ l) (sym (map-append file_of items (item ∷ []))))
    (with_one_more (file_of item) before after (earlier ++ map file_of items) more same)

pub loose_more : (before after : List ℕ) (earlier : List ℕ) (items : List ℕ) (item : ℕ) → WithFile item before after → SameFiles before (earlier ++ items) → SameFiles after (earlier ++ (items ++ item ∷ []))
loose_more before after earlier items item more same =
    subst (λ (l : List ℕ). SameFiles after l) (append_assoc earlier items (item ∷ [])) (with_one_more item before after (earlier ++ items) more same)

-- the rest of the segments is one segment and the rest
pub segments_next : (next_file floor count left : ℕ) (before : Option ℕ) (done : List SegmentRef) (s t : Stand) (segment : SegmentRef) → count ≡ suc left
    → segment_ref_at next_file floor (eqb left 0) before (map (λ (segment : SegmentRef). segment.file) done) s ≡ Ok (segment, t)
    → segments_at next_file floor count before done s ≡ segments_at next_file floor left (Some segment.first) (done ++ segment ∷ []) t
unfolding segments_at
segments_next next_file floor count left before done s t segment is read = rw (is, read) refl

pub segments_stop : (next_file floor count left : ℕ) (before : Option ℕ) (done : List SegmentRef) (s : Stand) (at : ℕ) → count ≡ suc left
    → segment_ref_at next_file floor (eqb left 0) before (map (λ (segment : SegmentRef). segment.file) done) s ≡ Err at
    → segments_at next_file floor count before done s ≡ Err at
unfolding segments_at
segments_stop next_file floor count left before done s at is read = rw (is, read) refl

pub segments_end : (next_file floor count : ℕ) (before : Option ℕ) (done : List SegmentRef) (s : Stand) → count ≡ 0 → segments_at next_file floor count before done s ≡ Ok (done, s)
unfolding segments_at
segments_end next_file floor count before done s is = rw is refl

pub blocks_next : (next_file : ℕ) (earlier : List ℕ) (count left : ℕ) (done : List BlockRef) (s t : Stand) (block : BlockRef) → count ≡ suc left
    → block_at next_file (earlier ++ map (λ (block : BlockRef). block.file) done) s ≡ Ok (block, t)
    → blocks_at next_file earlier count done s ≡ blocks_at next_file earlier left (done ++ block ∷ []) t
unfolding blocks_at
blocks_next next_file earlier count left done s t block is read = rw (is, read) refl

pub blocks_stop : (next_file : ℕ) (earlier : List ℕ) (count left : ℕ) (done : List BlockRef) (s : Stand) (at : ℕ) → count ≡ suc left
    → block_at next_file (earlier ++ map (λ (block : BlockRef). block.file) done) s ≡ Err at → blocks_at next_file earlier count done s ≡ Err at
unfolding blocks_at
blocks_stop next_file earlier count left done s at is read = rw (is, read) refl

pub blocks_end : (next_file : ℕ) (earlier : List ℕ) (count : ℕ) (done : List BlockRef) (s : Stand) → count ≡ 0 → blocks_at next_file earlier count done s ≡ Ok (done, s)
unfolding blocks_at
blocks_end next_file earlier count done s is = rw is refl

pub loose_next : (next_file : ℕ) (earlier : List ℕ) (count left : ℕ) (done : List ℕ) (s t : Stand) (file : ℕ) → count ≡ suc left
    → file_at next_file (earlier ++ done) s ≡ Ok (file, t) → loose_at next_file earlier count done s ≡ loose_at next_file earlier left (done ++ file ∷ []) t
unfolding loose_at
loose_next next_file earlier count left done s t file is read = rw (is, read) refl

pub loose_stop : (next_file : ℕ) (earlier : List ℕ) (count left : ℕ) (done : List ℕ) (s : Stand) (at : ℕ) → count ≡ suc left
    → file_at next_file (earlier ++ done) s ≡ Err at → loose_at next_file earlier count done s ≡ Err at
unfolding loose_at
loose_stop next_file earlier count left done s at is read = rw (is, read) refl

pub loose_end : (next_file : ℕ) (earlier : List ℕ) (count : ℕ) (done : List ℕ) (s : Stand) → count ≡ 0 → loose_at next_file earlier count done s ≡ Ok (done, s)
unfolding loose_at
loose_end next_file earlier count done s is = rw is refl

-- a break further down is a break here
pub gives_stop : {X Y V W : Type 0} (view : X → Y) (shown : V → W) (e : Option ℕ) (s t : Stand) (read : Result (Y × Stand) ℕ) (whole : Result (W × Stand) ℕ) → GivesAt {X = X} view (Err e) s read → ((at : ℕ) → read ≡ Err at → whole ≡ Err at) → GivesAt {X = V} shown (Err e) t whole
gives_stop view shown None s t read whole given further = tt
gives_stop view shown (Some at) s t read whole given further = further at given

-- the last entry is the one that leaves none
pub last_is : (index count left : ℕ) → index < count → left ≡ count - (index + 1) → eqb (index + 1) count ≡ eqb left 0
last_is index count left inside is = grind (arith, nat_tests)

bind_same : {A B : Type 0} (r : Result A ℕ) (f g : A → Result B ℕ) → ((x : A) → f x ≡ g x) → (r >>= f) ≡ (r >>= g)
bind_same (Ok x) f g same = same x
bind_same (Err at) f g same = refl

pub same_behind : (a b c : List ℕ) → SameFiles a b → SameFiles (a ++ c) (b ++ c)
same_behind a b c same file =
    list_any-append (nat_eq file) a c ∙ ap (λ (t : Bool). t || list_any (nat_eq file) c) (same file) ∙ sym (list_any-append (nat_eq file) b c)

pub blocks_at-same : (next_file : ℕ) (a b : List ℕ) (count : ℕ) (done : List BlockRef) (s : Stand) → SameFiles a b → blocks_at next_file a count done s ≡ blocks_at next_file b count done s
unfolding blocks_at
blocks_at-same next_file a b zero done s same = refl
blocks_at-same next_file a b (suc count) done s same =
    let files : List ℕ = map (λ (block : BlockRef). block.file) done in
    ap (λ (r : Result (BlockRef × Stand) ℕ). r >>= λ block. blocks_at next_file a count (done ++ block.0 ∷ []) block.1) (block_at-same next_file (a ++ files) (b ++ files) s (same_behind a b files same))
    ∙ bind_same (block_at next_file (b ++ files) s) (λ block. blocks_at next_file a count (done ++ block.0 ∷ []) block.1) (λ block. blocks_at next_file b count (done ++ block.0 ∷ []) block.1)
    (λ block. blocks_at-same next_file a b count (done ++ block.0 ∷ []) block.1 same)

pub loose_at-same : (next_file : ℕ) (a b : List ℕ) (count : ℕ) (done : List ℕ) (s : Stand) → SameFiles a b → loose_at next_file a count done s ≡ loose_at next_file b count done s
unfolding loose_at
loose_at-same next_file a b zero done s same = refl
loose_at-same next_file a b (suc count) done s same =
    ap (λ (r : Result (ℕ × Stand) ℕ). r >>= λ file. loose_at next_file a count (done ++ file.0 ∷ []) file.1) (file_at-same next_file (a ++ done) (b ++ done) s (same_behind a b done same))
    ∙ bind_same (file_at next_file (b ++ done) s) (λ file. loose_at next_file a count (done ++ file.0 ∷ []) file.1) (λ file. loose_at next_file b count (done ++ file.0 ∷ []) file.1)
    (λ file. loose_at-same next_file a b count (done ++ file.0 ∷ []) file.1 same)

abbrev pub segment_files : List SegmentRef → List ℕ
segment_files segments = map (λ (segment : SegmentRef). segment.file) segments

abbrev pub block_files : List BlockRef → List ℕ
block_files blocks = map (λ (block : BlockRef). block.file) blocks

-- the parts of a list, read one after another
module _ (slot : ℕ) (other : Option ℕ) (s t u v w : Stand) (head : Head) (segments : List SegmentRef) (blocks : List BlockRef) (loose : List ℕ) where
  pub list_read : head_at slot other s ≡ Ok (head, t) → segments_at head.next_file head.floor head.segments None [] t ≡ Ok (segments, u)
      → blocks_at head.next_file (segment_files segments) head.blocks [] u ≡ Ok (blocks, v)
      → loose_at head.next_file (segment_files segments ++ block_files blocks) head.loose [] v ≡ Ok (loose, w)
      → list_body_at slot other s ≡ Ok (record { generation = head.generation; next_file = head.next_file; floor = head.floor; segments = segments; blocks = blocks; loose = loose }, w)
  unfolding list_body_at
  list_read a b c d = rw (a, b, c, d) refl

  pub list_breaks_in_blocks : (at : ℕ) → head_at slot other s ≡ Ok (head, t) → segments_at head.next_file head.floor head.segments None [] t ≡ Ok (segments, u)
      → blocks_at head.next_file (segment_files segments) head.blocks [] u ≡ Err at → list_body_at slot other s ≡ Err at
  unfolding list_body_at
  list_breaks_in_blocks at a b c = rw (a, b, c) refl

  pub list_breaks_in_loose : (at : ℕ) → head_at slot other s ≡ Ok (head, t) → segments_at head.next_file head.floor head.segments None [] t ≡ Ok (segments, u)
      → blocks_at head.next_file (segment_files segments) head.blocks [] u ≡ Ok (blocks, v)
      → loose_at head.next_file (segment_files segments ++ block_files blocks) head.loose [] v ≡ Err at → list_body_at slot other s ≡ Err at
  unfolding list_body_at
  list_breaks_in_loose at a b c d = rw (a, b, c, d) refl
