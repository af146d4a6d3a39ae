-- Reading a front of a slot's bytes gives what reading all of them gives, where the front has the list's fields.
use Rattle.std.proofs.Common.{◌≡◌, ◌⊎◌, inl, inr, ℕ, zero, suc, ◌+◌, ◌-◌, ◌*◌, ◌%◌, ◌<◌, ◌≤◌, min, Bool, true, false, not, eqb, leb, ltb, cond, ◌&&◌, ◌||◌, Option, Some, None, List, [], ◌∷◌, ◌++◌, length, get_or, map, take, drop, Result, Ok, Err, refl, sym, ◌∙◌, ap, subst, arith, append_assoc, length-drop, length-take}
use Rattle.std.specs.Prelude.{nat_eq}
use Rattle.std.specs.List.{list_any}
use Rattle.std.specs.Int.{w32, w64, from_le_bytes}
use Rattle.std.proofs.lemmas.Bool.{cases_lt, le-leb, le-ltb, leb-true, leb-false, eqb-true, and_parts, and_cases}
use Rattle.std.proofs.lemmas.List.{drop-take, take-take, take_all, take-append-drop, get_or-take}
use Rattle.byte_fields.specs.declared.error.FieldError.{FieldError}
use Rattle.byte_fields.specs.Reading.{Stand, left, ahead, ◌>>=◌, raw_at, byte_at, fixed32_at, fixed64_at}
use Rattle.block_list.specs.Body.{text_of}
use Rattle.block_list.specs.Slots.{IsVacant, SlotHolds, SlotsHold}
use Rattle.block_list.specs.Slots.SlotsHold.{none, alone, other_alone, newer, other_newer}
use Rattle.block_list.specs.Reading.{located, ruled, read8, read32, read64, tag, are_neighbours, tag_at, generation_at, count_at, head_at, file_at, goes_on, first_number_at, segment_ref_at, segments_at, level_at, rows_at, block_at, blocks_at, loose_at, list_body_at, slot_at, is_vacant, in_slot, generation_of, newer_of, slots_at}
use Rattle.block_list.specs.Fronts.{count_in, size_in, counting, is_to_clear}
use Rattle.block_list.specs.Loading.{IsFree, cleared}
use Rattle.block_list.specs.declared.reading.Head.{Head}
use Rattle.block_list.specs.declared.body.SegmentRef.{SegmentRef}
use Rattle.block_list.specs.declared.body.BlockRef.{BlockRef}
use Rattle.block_list.specs.declared.body.ListBody.{ListBody}

-- the same place in the first bytes alone
abbrev cut : ℕ → Stand → Stand
cut n s = record { whole = take n s.whole; at = s.at }

-- so many bytes on
abbrev on : ℕ → Stand → Stand
on size s = record { whole = s.whole; at = s.at + size }

abbrev cut_read : {X : Type 0} → ℕ → Result (X × Stand) ℕ → Result (X × Stand) ℕ
cut_read n (Ok r) = Ok (r.0, cut n r.1)
cut_read n (Err at) = Err at

-- A field of this size is read from the first bytes as from all of them.
record Local {X : Type 0} (n size : ℕ) (s : Stand) (front all : Result (X × Stand) ℕ) : Type 0 where
  same : front ≡ cut_read n all
  moves : (x : X) (t : Stand) → all ≡ Ok (x, t) → t ≡ on size s

-- the field lies in the first bytes
record Inside (n size : ℕ) (s : Stand) : Type 0 where
  fits : s.at + size ≤ n
  there : n ≤ length s.whole

same_value : {A : Type 0} (x y : A) → (let r : Result A ℕ = Ok x in let s : Result A ℕ = Ok y in r ≡ s) → x ≡ y
same_value x y is = cc

stand_at : (s : Stand) (a b : ℕ) → s.at + a ≡ b → on a s ≡ record { whole = s.whole; at = b }
stand_at s a b e = ap (λ (n : ℕ). record { whole = s.whole; at = n }) e

-- ---- steps

ok_local : {X : Type 0} (n : ℕ) (s : Stand) (x : X) → Local n 0 s (Ok (x, cut n s)) (Ok (x, s))
ok_local {X} n s x = record {
  same = refl;
  moves = λ y t is. sym (ap (λ (r : X × Stand). r.1) (same_value (x, s) (y, t) is)) ∙ sym (stand_at s 0 s.at (omega arith));
}

ruled_local : {X : Type 0} (n : ℕ) (s : Stand) (holds : Bool) (at : ℕ) (x : X) → Local n 0 s (ruled holds at (x, cut n s)) (ruled holds at (x, s))
ruled_local n s true at x = ok_local n s x
ruled_local n s false at x = record { same = refl; moves = λ y t is. absurd (cc) }

then_local : {X Y : Type 0} (n a b size : ℕ) (s : Stand) (front all : Result (X × Stand) ℕ) (rest : X × Stand → Result (Y × Stand) ℕ) → a + b ≡ size
    → Local n a s front all → ((x : X) → Local n b (on a s) (rest (x, cut n (on a s))) (rest (x, on a s))) → Local n size s (front >>= rest) (all >>= rest)
then_local {X} {Y} n a b size s front (Ok r) rest e first then =
    let moved : r.1 ≡ on a s = first.moves r.0 r.1 refl in
    let to : rest r ≡ rest (r.0, on a s) = ap (λ (t : Stand). rest (r.0, t)) moved in
    record {
      same = ap (λ (z : Result (X × Stand) ℕ). z >>= rest) first.same ∙ ap (λ (t : Stand). rest (r.0, cut n t)) moved ∙ (then r.0).same ∙ sym (ap (λ (z : Result (Y × Stand) ℕ). cut_read n z) to);
      moves = λ y t is. (then r.0).moves y t (sym to ∙ is) ∙ stand_at (on a s) b (s.at + size) (omega (arith, e));
    }
then_local {X} n a b size s front (Err at) rest e first then =
    record { same = ap (λ (z : Result (X × Stand) ℕ). z >>= rest) first.same; moves = λ y t is. absurd (cc) }

inside_on : (n a b size : ℕ) (s : Stand) → a + b ≡ size → Inside n size s → Inside n b (on a s)
inside_on n a b size s e inside = record { fits = omega (arith, e, inside.fits); there = inside.there }

inside_less : (n a b size : ℕ) (s : Stand) → a + b ≡ size → Inside n size s → Inside n a s
inside_less n a b size s e inside = record { fits = omega (arith, e, inside.fits); there = inside.there }

-- ---- numbers

raw_is : (k : ℕ) (s : Stand) → s.at + k ≤ length s.whole → raw_at k s ≡ Ok (take k (left s), ahead k s)
unfolding raw_at
raw_is k s enough =
    let long : ltb (length (left s)) k ≡ false = le-ltb (length (left s)) k (omega (arith, length-drop s.at s.whole, enough)) in
    rw long refl

front_bytes : (n k : ℕ) (s : Stand) → Inside n k s → take k (left (cut n s)) ≡ take k (left s)
front_bytes n k s inside =
    let e : s.at + (n - s.at) ≡ n = omega (arith, inside.fits) in
    ap (λ (m : ℕ). take k (drop s.at (take m s.whole))) (sym e) ∙ ap (λ (l : List ℕ). take k l) (drop-take s.at (n - s.at) s.whole)
    ∙ take-take k (n - s.at) (left s) (omega (arith, inside.fits))

cut_long : (n k : ℕ) (s : Stand) → Inside n k s → s.at + k ≤ length (take n s.whole)
cut_long n k s inside = omega (arith, length-take n s.whole, inside.fits, inside.there)

all_long : (n k : ℕ) (s : Stand) → Inside n k s → s.at + k ≤ length s.whole
all_long n k s inside = omega (arith, inside.fits, inside.there)

-- a reading that takes so many bytes and gives what they say
by_bytes : (n k : ℕ) (s : Stand) (value : List ℕ → ℕ) (read : Stand → Result (ℕ × Stand) ℕ) → Inside n k s
    → ((t : Stand) → t.at + k ≤ length t.whole → read t ≡ Ok (value (take k (left t)), ahead k t)) → Local n k s (read (cut n s)) (read s)
by_bytes n k s value read inside reads =
    let all = reads s (all_long n k s inside) in
    record {
      same = reads (cut n s) (cut_long n k s inside) ∙ ap (λ (l : List ℕ). Ok (value l, cut n (ahead k s))) (front_bytes n k s inside)
          ∙ sym (ap (λ (z : Result (ℕ × Stand) ℕ). cut_read n z) all);
      moves = λ x t is. sym (ap (λ (r : ℕ × Stand). r.1) (same_value (value (take k (left s)), ahead k s) (x, t) (sym all ∙ is)));
    }

reads8 : (t : Stand) → t.at + 1 ≤ length t.whole → read8 t ≡ Ok (get_or (take 1 (left t)) 0 0, ahead 1 t)
unfolding read8 byte_at
reads8 t enough = ap (λ (r : Result (List ℕ × Stand) FieldError). located (r >>= λ bytes. Ok (get_or bytes.0 0 0, bytes.1))) (raw_is 1 t enough)

pub reads32 : (t : Stand) → t.at + 4 ≤ length t.whole → read32 t ≡ Ok (from_le_bytes w32 (take 4 (left t)), ahead 4 t)
unfolding read32 fixed32_at
reads32 t enough = ap (λ (r : Result (List ℕ × Stand) FieldError). located (r >>= λ bytes. Ok (from_le_bytes w32 bytes.0, bytes.1))) (raw_is 4 t enough)

reads64 : (t : Stand) → t.at + 8 ≤ length t.whole → read64 t ≡ Ok (from_le_bytes w64 (take 8 (left t)), ahead 8 t)
unfolding read64 fixed64_at
reads64 t enough = ap (λ (r : Result (List ℕ × Stand) FieldError). located (r >>= λ bytes. Ok (from_le_bytes w64 bytes.0, bytes.1))) (raw_is 8 t enough)

local8 : (n : ℕ) (s : Stand) → Inside n 1 s → Local n 1 s (read8 (cut n s)) (read8 s)
local8 n s inside = by_bytes n 1 s (λ l. get_or l 0 0) read8 inside reads8

local32 : (n : ℕ) (s : Stand) → Inside n 4 s → Local n 4 s (read32 (cut n s)) (read32 s)
local32 n s inside = by_bytes n 4 s (λ l. from_le_bytes w32 l) read32 inside reads32

local64 : (n : ℕ) (s : Stand) → Inside n 8 s → Local n 8 s (read64 (cut n s)) (read64 s)
local64 n s inside = by_bytes n 8 s (λ l. from_le_bytes w64 l) read64 inside reads64

-- ---- fields

tag_local : (n : ℕ) (s : Stand) → Inside n 4 s → Local n 4 s (tag_at (cut n s)) (tag_at s)
unfolding tag_at
tag_local n s inside =
    then_local n 4 0 4 s (read32 (cut n s)) (read32 s) (λ number. ruled (eqb number.0 tag) s.at number) refl (local32 n s inside) (λ x. ruled_local n (on 4 s) (eqb x tag) s.at x)

generation_local : (n slot : ℕ) (other : Option ℕ) (s : Stand) → Inside n 1 s → Local n 1 s (generation_at slot other (cut n s)) (generation_at slot other s)
unfolding generation_at
generation_local n slot other s inside =
    then_local n 1 0 1 s (read8 (cut n s)) (read8 s) (λ g. ruled (eqb (g.0 % 2) slot && are_neighbours g.0 other) s.at g) refl (local8 n s inside)
    (λ x. ruled_local n (on 1 s) (eqb (x % 2) slot && are_neighbours x other) s.at x)

count_local : (n : ℕ) (s : Stand) → Inside n 4 s → Local n 4 s (count_at (cut n s)) (count_at s)
unfolding count_at
count_local n s inside =
    then_local n 4 0 4 s (read32 (cut n s)) (read32 s) (λ count. ruled (ltb 0 count.0) s.at count) refl (local32 n s inside) (λ x. ruled_local n (on 4 s) (ltb 0 x) s.at x)

file_local : (n next_file : ℕ) (seen : List ℕ) (s : Stand) → Inside n 4 s → Local n 4 s (file_at next_file seen (cut n s)) (file_at next_file seen s)
unfolding file_at
file_local n next_file seen s inside =
    then_local n 4 0 4 s (read32 (cut n s)) (read32 s) (λ file. ruled (leb 2 file.0 && ltb file.0 next_file && not (list_any (nat_eq file.0) seen)) s.at file) refl (local32 n s inside)
    (λ x. ruled_local n (on 4 s) (leb 2 x && ltb x next_file && not (list_any (nat_eq x) seen)) s.at x)

first_local : (n floor : ℕ) (is_last : Bool) (before : Option ℕ) (s : Stand) → Inside n 8 s → Local n 8 s (first_number_at floor is_last before (cut n s)) (first_number_at floor is_last before s)
unfolding first_number_at
first_local n floor is_last before s inside =
    then_local n 8 0 8 s (read64 (cut n s)) (read64 s) (λ first. ruled (leb first.0 4294967295 && goes_on floor before first.0 && (not is_last || leb floor first.0)) s.at first) refl (local64 n s inside)
    (λ x. ruled_local n (on 8 s) (leb x 4294967295 && goes_on floor before x && (not is_last || leb floor x)) s.at x)

segment_local : (n next_file floor : ℕ) (is_last : Bool) (before : Option ℕ) (seen : List ℕ) (s : Stand) → Inside n 12 s
    → Local n 12 s (segment_ref_at next_file floor is_last before seen (cut n s)) (segment_ref_at next_file floor is_last before seen s)
unfolding segment_ref_at
segment_local n next_file floor is_last before seen s inside =
    then_local n 4 8 12 s (file_at next_file seen (cut n s)) (file_at next_file seen s)
    (λ file. first_number_at floor is_last before file.1 >>= λ first. Ok (record { file = file.0; first = first.0 }, first.1)) refl
    (file_local n next_file seen s (inside_less n 4 8 12 s refl inside))
    (λ file. let s1 = on 4 s in then_local n 8 0 8 s1 (first_number_at floor is_last before (cut n s1)) (first_number_at floor is_last before s1)
    (λ first. Ok (record { file = file; first = first.0 }, first.1)) refl (first_local n floor is_last before s1 (inside_on n 4 8 12 s refl inside))
    (λ first. ok_local n (on 8 s1) (record { file = file; first = first })))

level_local : (n : ℕ) (s : Stand) → Inside n 1 s → Local n 1 s (level_at (cut n s)) (level_at s)
unfolding level_at
level_local n s inside =
    then_local n 1 0 1 s (read8 (cut n s)) (read8 s) (λ level. ruled (leb level.0 63) s.at level) refl (local8 n s inside) (λ x. ruled_local n (on 1 s) (leb x 63) s.at x)

rows_local : (n : ℕ) (s : Stand) → Inside n 4 s → Local n 4 s (rows_at (cut n s)) (rows_at s)
unfolding rows_at
rows_local n s inside =
    then_local n 4 0 4 s (read32 (cut n s)) (read32 s) (λ rows. ruled (leb 1 rows.0 && leb rows.0 1048576) s.at rows) refl (local32 n s inside)
    (λ x. ruled_local n (on 4 s) (leb 1 x && leb x 1048576) s.at x)

block_local : (n next_file : ℕ) (seen : List ℕ) (s : Stand) → Inside n 9 s → Local n 9 s (block_at next_file seen (cut n s)) (block_at next_file seen s)
unfolding block_at
block_local n next_file seen s inside =
    then_local n 4 5 9 s (file_at next_file seen (cut n s)) (file_at next_file seen s)
    (λ file. level_at file.1 >>= λ level. rows_at level.1 >>= λ rows. Ok (record { file = file.0; level = level.0; rows = rows.0 }, rows.1)) refl
    (file_local n next_file seen s (inside_less n 4 5 9 s refl inside))
    (λ file. let s1 = on 4 s in
    let in1 = inside_on n 4 5 9 s refl inside in
    then_local n 1 4 5 s1 (level_at (cut n s1)) (level_at s1) (λ level. rows_at level.1 >>= λ rows. Ok (record { file = file; level = level.0; rows = rows.0 }, rows.1)) refl
    (level_local n s1 (inside_less n 1 4 5 s1 refl in1))
    (λ level. let s2 = on 1 s1 in
    then_local n 4 0 4 s2 (rows_at (cut n s2)) (rows_at s2) (λ rows. Ok (record { file = file; level = level; rows = rows.0 }, rows.1)) refl
    (rows_local n s2 (inside_on n 1 4 5 s1 refl in1)) (λ rows. ok_local n (on 4 s2) (record { file = file; level = level; rows = rows }))))

-- ---- lists of fields

segments_local : (n next_file floor count : ℕ) (before : Option ℕ) (done : List SegmentRef) (s : Stand) → Inside n (12 * count) s
    → Local n (12 * count) s (segments_at next_file floor count before done (cut n s)) (segments_at next_file floor count before done s)
unfolding segments_at
segments_local n next_file floor zero before done s inside = ok_local n s done
segments_local n next_file floor (suc count) before done s inside =
    let e : 12 + 12 * count ≡ 12 * suc count = omega arith in
    let seen = map (λ (segment : SegmentRef). segment.file) done in
    then_local n 12 (12 * count) (12 * suc count) s (segment_ref_at next_file floor (eqb count 0) before seen (cut n s)) (segment_ref_at next_file floor (eqb count 0) before seen s)
    (λ segment. segments_at next_file floor count (Some segment.0.first) (done ++ segment.0 ∷ []) segment.1) e
    (segment_local n next_file floor (eqb count 0) before seen s (inside_less n 12 (12 * count) (12 * suc count) s e inside))
    (λ segment. segments_local n next_file floor count (Some segment.first) (done ++ segment ∷ []) (on 12 s) (inside_on n 12 (12 * count) (12 * suc count) s e inside))

blocks_local : (n next_file : ℕ) (earlier : List ℕ) (count : ℕ) (done : List BlockRef) (s : Stand) → Inside n (9 * count) s
    → Local n (9 * count) s (blocks_at next_file earlier count done (cut n s)) (blocks_at next_file earlier count done s)
unfolding blocks_at
blocks_local n next_file earlier zero done s inside = ok_local n s done
blocks_local n next_file earlier (suc count) done s inside =
    let e : 9 + 9 * count ≡ 9 * suc count = omega arith in
    let seen = earlier ++ map (λ (block : BlockRef). block.file) done in
    then_local n 9 (9 * count) (9 * suc count) s (block_at next_file seen (cut n s)) (block_at next_file seen s)
    (λ block. blocks_at next_file earlier count (done ++ block.0 ∷ []) block.1) e
    (block_local n next_file seen s (inside_less n 9 (9 * count) (9 * suc count) s e inside))
    (λ block. blocks_local n next_file earlier count (done ++ block ∷ []) (on 9 s) (inside_on n 9 (9 * count) (9 * suc count) s e inside))

loose_local : (n next_file : ℕ) (earlier : List ℕ) (count : ℕ) (done : List ℕ) (s : Stand) → Inside n (4 * count) s
    → Local n (4 * count) s (loose_at next_file earlier count done (cut n s)) (loose_at next_file earlier count done s)
unfolding loose_at
loose_local n next_file earlier zero done s inside = ok_local n s done
loose_local n next_file earlier (suc count) done s inside =
    let e : 4 + 4 * count ≡ 4 * suc count = omega arith in
    then_local n 4 (4 * count) (4 * suc count) s (file_at next_file (earlier ++ done) (cut n s)) (file_at next_file (earlier ++ done) s)
    (λ file. loose_at next_file earlier count (done ++ file.0 ∷ []) file.1) e
    (file_local n next_file (earlier ++ done) s (inside_less n 4 (4 * count) (4 * suc count) s e inside))
    (λ file. loose_local n next_file earlier count (done ++ file ∷ []) (on 4 s) (inside_on n 4 (4 * count) (4 * suc count) s e inside))

-- ---- the fixed fields

abbrev made : ℕ → ℕ → ℕ → ℕ → ℕ → ℕ × Stand → Result (Head × Stand) ℕ
made generation next_file floor segments blocks loose =
    Ok (record { generation = generation; next_file = next_file; floor = floor; segments = segments; blocks = blocks; loose = loose.0 }, loose.1)

abbrev after_blocks : ℕ → ℕ → ℕ → ℕ → ℕ × Stand → Result (Head × Stand) ℕ
after_blocks generation next_file floor segments blocks = read32 blocks.1 >>= λ loose. made generation next_file floor segments blocks.0 loose

abbrev after_segments : ℕ → ℕ → ℕ → ℕ × Stand → Result (Head × Stand) ℕ
after_segments generation next_file floor segments = read32 segments.1 >>= λ blocks. after_blocks generation next_file floor segments.0 blocks

abbrev after_floor : ℕ → ℕ → ℕ × Stand → Result (Head × Stand) ℕ
after_floor generation next_file floor = count_at floor.1 >>= λ segments. after_segments generation next_file floor.0 segments

abbrev after_next : ℕ → ℕ × Stand → Result (Head × Stand) ℕ
after_next generation next_file = read64 next_file.1 >>= λ floor. after_floor generation next_file.0 floor

abbrev after_generation : ℕ × Stand → Result (Head × Stand) ℕ
after_generation generation = read32 generation.1 >>= λ next_file. after_next generation.0 next_file

abbrev after_tag : ℕ → Option ℕ → ℕ × Stand → Result (Head × Stand) ℕ
after_tag slot other number = generation_at slot other number.1 >>= λ generation. after_generation generation

head_local : (n slot : ℕ) (other : Option ℕ) (s : Stand) → Inside n 29 s → Local n 29 s (head_at slot other (cut n s)) (head_at slot other s)
unfolding head_at
head_local n slot other s inside =
    let i1 = inside_on n 4 25 29 s refl inside in
    let i2 = inside_on n 1 24 25 (on 4 s) refl i1 in
    let i3 = inside_on n 4 20 24 (on 1 (on 4 s)) refl i2 in
    let i4 = inside_on n 8 12 20 (on 4 (on 1 (on 4 s))) refl i3 in
    let s4 = on 8 (on 4 (on 1 (on 4 s))) in
    let i5 = inside_on n 4 8 12 s4 refl i4 in
    let i6 = inside_on n 4 4 8 (on 4 s4) refl i5 in
    then_local n 4 25 29 s (tag_at (cut n s)) (tag_at s) (after_tag slot other) refl (tag_local n s (inside_less n 4 25 29 s refl inside))
    (λ number. let s1 = on 4 s in
    then_local n 1 24 25 s1 (generation_at slot other (cut n s1)) (generation_at slot other s1) after_generation refl (generation_local n slot other s1 (inside_less n 1 24 25 s1 refl i1))
    (λ generation. let s2 = on 1 s1 in
    then_local n 4 20 24 s2 (read32 (cut n s2)) (read32 s2) (after_next generation) refl (local32 n s2 (inside_less n 4 20 24 s2 refl i2))
    (λ next_file. let s3 = on 4 s2 in
    then_local n 8 12 20 s3 (read64 (cut n s3)) (read64 s3) (after_floor generation next_file) refl (local64 n s3 (inside_less n 8 12 20 s3 refl i3))
    (λ floor.
    then_local n 4 8 12 s4 (count_at (cut n s4)) (count_at s4) (after_segments generation next_file floor) refl (count_local n s4 (inside_less n 4 8 12 s4 refl i4))
    (λ segments. let s5 = on 4 s4 in
    then_local n 4 4 8 s5 (read32 (cut n s5)) (read32 s5) (after_blocks generation next_file floor segments) refl (local32 n s5 (inside_less n 4 4 8 s5 refl i5))
    (λ blocks. let s6 = on 4 s5 in
    then_local n 4 0 4 s6 (read32 (cut n s6)) (read32 s6) (made generation next_file floor segments blocks) refl (local32 n s6 i6)
    (λ loose. ok_local n (on 4 s6) (record { generation = generation; next_file = next_file; floor = floor; segments = segments; blocks = blocks; loose = loose }))))))))

-- a step that was passed
record Passed {X Y : Type 0} (size : ℕ) (s : Stand) (all : Result (X × Stand) ℕ) (rest : X × Stand → Result Y ℕ) (y : Y) : Type 0 where
  value : X
  first : all ≡ Ok (value, on size s)
  last : rest (value, on size s) ≡ Ok y

passed : {X Y : Type 0} (n size : ℕ) (s : Stand) (front all : Result (X × Stand) ℕ) (rest : X × Stand → Result Y ℕ) (y : Y) → Local n size s front all → (all >>= rest) ≡ Ok y
    → Passed size s all rest y
passed {X} n size s front (Ok r) rest y first is =
    let moved : r.1 ≡ on size s = first.moves r.0 r.1 refl in
    record { value = r.0; first = ap (λ (t : Stand). Ok (r.0, t)) moved; last = sym (ap (λ (t : Stand). rest (r.0, t)) moved) ∙ is }
passed n size s front (Err at) rest y first is = absurd (cc)

-- the number in the four bytes at an offset
number_read : (n : ℕ) (s : Stand) (x : ℕ) (t : Stand) → Inside n 4 s → read32 s ≡ Ok (x, t) → x ≡ count_in s.at s.whole
number_read n s x t inside is = sym (ap (λ (r : ℕ × Stand). r.0) (same_value (from_le_bytes w32 (take 4 (left s)), ahead 4 s) (x, t) (sym (reads32 s (all_long n 4 s inside)) ∙ is)))

count_read : (n : ℕ) (s : Stand) (x : ℕ) (t : Stand) → Inside n 4 s → count_at s ≡ Ok (x, t) → x ≡ count_in s.at s.whole
unfolding count_at
count_read n s x t inside is =
    let p = passed n 4 s (read32 (cut n s)) (read32 s) (λ count. ruled (ltb 0 count.0) s.at count) (x, t) (local32 n s inside) is in
    ruled_value (ltb 0 p.value) p.value (on 4 s) p.last ∙ number_read n s p.value (on 4 s) inside p.first
  where
    ruled_value : (b : Bool) (v : ℕ) (u : Stand) → ruled {X = ℕ × Stand} b s.at (v, u) ≡ Ok (x, t) → x ≡ v
    ruled_value true v u e = sym (ap (λ (r : ℕ × Stand). r.0) (same_value (v, u) (x, t) e))
    ruled_value false v u e = absurd (cc)

-- the counts of the fixed fields
record HeadCounts (s : Stand) (head : Head) : Type 0 where
  segments : head.segments ≡ count_in (s.at + 17) s.whole
  blocks : head.blocks ≡ count_in (s.at + 21) s.whole
  loose : head.loose ≡ count_in (s.at + 25) s.whole

head_counts : (n slot : ℕ) (other : Option ℕ) (s t : Stand) (head : Head) → Inside n 29 s → head_at slot other s ≡ Ok (head, t) → HeadCounts s head
unfolding head_at
head_counts n slot other s t head inside is =
    let i1 = inside_on n 4 25 29 s refl inside in
    let s1 = on 4 s in
    let i2 = inside_on n 1 24 25 s1 refl i1 in
    let s2 = on 1 s1 in
    let i3 = inside_on n 4 20 24 s2 refl i2 in
    let s3 = on 4 s2 in
    let i4 = inside_on n 8 12 20 s3 refl i3 in
    let s4 = on 8 s3 in
    let i5 = inside_on n 4 8 12 s4 refl i4 in
    let s5 = on 4 s4 in
    let i6 = inside_on n 4 4 8 s5 refl i5 in
    let s6 = on 4 s5 in
    let a = passed n 4 s (tag_at (cut n s)) (tag_at s) (after_tag slot other) (head, t) (tag_local n s (inside_less n 4 25 29 s refl inside)) is in
    let b = passed n 1 s1 (generation_at slot other (cut n s1)) (generation_at slot other s1) after_generation (head, t) (generation_local n slot other s1 (inside_less n 1 24 25 s1 refl i1)) a.last in
    let c = passed n 4 s2 (read32 (cut n s2)) (read32 s2) (after_next b.value) (head, t) (local32 n s2 (inside_less n 4 20 24 s2 refl i2)) b.last in
    let d = passed n 8 s3 (read64 (cut n s3)) (read64 s3) (after_floor b.value c.value) (head, t) (local64 n s3 (inside_less n 8 12 20 s3 refl i3)) c.last in
    let e = passed n 4 s4 (count_at (cut n s4)) (count_at s4) (after_segments b.value c.value d.value) (head, t) (count_local n s4 (inside_less n 4 8 12 s4 refl i4)) d.last in
    let f = passed n 4 s5 (read32 (cut n s5)) (read32 s5) (after_blocks b.value c.value d.value e.value) (head, t) (local32 n s5 (inside_less n 4 4 8 s5 refl i5)) e.last in
    let g = passed n 4 s6 (read32 (cut n s6)) (read32 s6) (made b.value c.value d.value e.value f.value) (head, t) (local32 n s6 i6) f.last in
    let same : record { generation = b.value; next_file = c.value; floor = d.value; segments = e.value; blocks = f.value; loose = g.value } ≡ head =
    ap (λ (r : Head × Stand). r.0) (same_value (record { generation = b.value; next_file = c.value; floor = d.value; segments = e.value; blocks = f.value; loose = g.value }, on 4 s6) (head, t) g.last) in
    let place : (k m : ℕ) → k ≡ m → count_in k s.whole ≡ count_in m s.whole = λ k m at. ap (λ (i : ℕ). count_in i s.whole) at in
    record {
      segments = sym (ap (λ (h : Head). h.segments) same) ∙ count_read n s4 e.value (on 4 s4) (inside_less n 4 8 12 s4 refl i4) e.first ∙ place s4.at (s.at + 17) (omega arith);
      blocks = sym (ap (λ (h : Head). h.blocks) same) ∙ number_read n s5 f.value (on 4 s5) (inside_less n 4 4 8 s5 refl i5) f.first ∙ place s5.at (s.at + 21) (omega arith);
      loose = sym (ap (λ (h : Head). h.loose) same) ∙ number_read n s6 g.value (on 4 s6) i6 g.first ∙ place s6.at (s.at + 25) (omega arith);
    }

-- ---- a list

abbrev after_loose : Head → List SegmentRef → List BlockRef → List ℕ × Stand → Result (ListBody × Stand) ℕ
after_loose head segments blocks loose =
    Ok (record { generation = head.generation; next_file = head.next_file; floor = head.floor; segments = segments; blocks = blocks; loose = loose.0 }, loose.1)

abbrev then_loose : Head → List SegmentRef → List BlockRef × Stand → Result (ListBody × Stand) ℕ
then_loose head segments blocks =
    loose_at head.next_file (map (λ (segment : SegmentRef). segment.file) segments ++ map (λ (block : BlockRef). block.file) blocks.0) head.loose [] blocks.1
    >>= λ loose. after_loose head segments blocks.0 loose

abbrev then_blocks : Head → List SegmentRef × Stand → Result (ListBody × Stand) ℕ
then_blocks head segments = blocks_at head.next_file (map (λ (segment : SegmentRef). segment.file) segments.0) head.blocks [] segments.1 >>= λ blocks. then_loose head segments.0 blocks

abbrev after_head : Head × Stand → Result (ListBody × Stand) ℕ
after_head head = segments_at head.0.next_file head.0.floor head.0.segments None [] head.1 >>= λ segments. then_blocks head.0 segments

body_local : (n : ℕ) (head : Head) (s : Stand) → Inside n (12 * head.segments + (9 * head.blocks + 4 * head.loose)) s
    → Local n (12 * head.segments + (9 * head.blocks + 4 * head.loose)) s (after_head (head, cut n s)) (after_head (head, s))
body_local n head s inside =
    let a = 12 * head.segments in
    let b = 9 * head.blocks in
    let d = 4 * head.loose in
    then_local n a (b + d) (a + (b + d)) s (segments_at head.next_file head.floor head.segments None [] (cut n s)) (segments_at head.next_file head.floor head.segments None [] s) (then_blocks head) refl
    (segments_local n head.next_file head.floor head.segments None [] s (inside_less n a (b + d) (a + (b + d)) s refl inside))
    (λ segments. let s1 = on a s in
    let i1 = inside_on n a (b + d) (a + (b + d)) s refl inside in
    let files = map (λ (segment : SegmentRef). segment.file) segments in
    then_local n b d (b + d) s1 (blocks_at head.next_file files head.blocks [] (cut n s1)) (blocks_at head.next_file files head.blocks [] s1) (then_loose head segments) refl
    (blocks_local n head.next_file files head.blocks [] s1 (inside_less n b d (b + d) s1 refl i1))
    (λ blocks. let s2 = on b s1 in
    let both = files ++ map (λ (block : BlockRef). block.file) blocks in
    then_local n d 0 d s2 (loose_at head.next_file both head.loose [] (cut n s2)) (loose_at head.next_file both head.loose [] s2) (after_loose head segments blocks) (omega arith)
    (loose_local n head.next_file both head.loose [] s2 (inside_on n b d (b + d) s1 refl i1))
    (λ loose. ok_local n (on d s2) (record { generation = head.generation; next_file = head.next_file; floor = head.floor; segments = segments; blocks = blocks; loose = loose }))))

then_same : {X Y : Type 0} (n size : ℕ) (s : Stand) (front all : Result (X × Stand) ℕ) (rest : X × Stand → Result (Y × Stand) ℕ) → Local n size s front all
    → ((x : X) → all ≡ Ok (x, on size s) → rest (x, cut n (on size s)) ≡ cut_read n (rest (x, on size s))) → (front >>= rest) ≡ cut_read n (all >>= rest)
then_same {X} {Y} n size s front (Ok r) rest first then =
    let moved : r.1 ≡ on size s = first.moves r.0 r.1 refl in
    ap (λ (z : Result (X × Stand) ℕ). z >>= rest) first.same ∙ ap (λ (t : Stand). rest (r.0, cut n t)) moved ∙ then r.0 (ap (λ (t : Stand). Ok (r.0, t)) moved)
    ∙ sym (ap (λ (t : Stand). cut_read n (rest (r.0, t))) moved)
then_same {X} n size s front (Err at) rest first then = ap (λ (z : Result (X × Stand) ℕ). z >>= rest) first.same

list_same : (n slot : ℕ) (other : Option ℕ) (s : Stand) → Inside n 29 s → s.at + (29 + (12 * count_in (s.at + 17) s.whole + (9 * count_in (s.at + 21) s.whole + 4 * count_in (s.at + 25) s.whole))) ≤ n
    → list_body_at slot other (cut n s) ≡ cut_read n (list_body_at slot other s)
unfolding list_body_at
list_same n slot other s inside enough =
    then_same n 29 s (head_at slot other (cut n s)) (head_at slot other s) after_head (head_local n slot other s inside)
    (λ head is.
    let counts = head_counts n slot other s (on 29 s) head inside is in
    let a = ap (λ (k : ℕ). 12 * k) counts.segments in
    let b = ap (λ (k : ℕ). 9 * k) counts.blocks in
    let d = ap (λ (k : ℕ). 4 * k) counts.loose in
    (body_local n head (on 29 s) (record { fits = omega (arith, a, b, d, enough); there = inside.there })).same)

-- ---- a slot

vacant_same : (n : ℕ) (bytes : List ℕ) → 30 ≤ n → n ≤ length bytes → is_vacant (take n bytes) ≡ is_vacant bytes
vacant_same n bytes some few =
    let front_long : ltb (length (take n bytes)) 30 ≡ false = le-ltb (length (take n bytes)) 30 (omega (arith, length-take n bytes, some, few)) in
    let long : ltb (length bytes) 30 ≡ false = le-ltb (length bytes) 30 (omega (arith, some, few)) in
    let first : get_or (take n bytes) 0 0 ≡ get_or bytes 0 0 = get_or-take n bytes 0 0 (omega (arith, some)) in
    ap (λ (b : Bool). b || not (eqb (get_or (take n bytes) 0 0) 1)) front_long ∙ ap (λ (k : ℕ). not (eqb k 1)) first
    ∙ sym (ap (λ (b : Bool). b || not (eqb (get_or bytes 0 0) 1)) long)

abbrev found : Result (ListBody × Stand) ℕ → Result (Option ListBody) ℕ
found list = list >>= λ list. Ok (Some list.0)

found_same : (n : ℕ) (r : Result (ListBody × Stand) ℕ) → found (cut_read n r) ≡ found r
found_same n (Ok x) = refl
found_same n (Err at) = refl

abbrev shown : ℕ → Option ℕ → List ℕ → Result (Option ListBody) ℕ
shown slot other bytes = read8 (record { whole = bytes; at = 0 }) >>= λ gate. found (list_body_at slot other gate.1)

shown_same : (n slot : ℕ) (other : Option ℕ) (bytes : List ℕ) → 30 ≤ n → n ≤ length bytes → size_in bytes ≤ n → shown slot other (take n bytes) ≡ shown slot other bytes
shown_same n slot other bytes some few enough =
    let s : Stand = record { whole = bytes; at = 0 } in
    let here : Inside n 1 s = record { fits = omega (arith, some); there = few } in
    let rest : Inside n 29 (on 1 s) = record { fits = omega (arith, some); there = few } in
    let list = list_same n slot other (on 1 s) rest (omega (arith, enough)) in
    ap (λ (r : Result (ℕ × Stand) ℕ). r >>= λ gate. found (list_body_at slot other gate.1)) (reads8 (cut n s) (cut_long n 1 s here))
    ∙ ap found list ∙ found_same n (list_body_at slot other (on 1 s))
    ∙ sym (ap (λ (r : Result (ℕ × Stand) ℕ). r >>= λ gate. found (list_body_at slot other gate.1)) (reads8 s (all_long n 1 s here)))

slot_front : (n slot : ℕ) (other : Option ℕ) (bytes : List ℕ) → 30 ≤ n → n ≤ length bytes → size_in bytes ≤ n → slot_at slot other (take n bytes) ≡ slot_at slot other bytes
unfolding slot_at
slot_front n slot other bytes some few enough =
    ap (λ (b : Bool). cond b (Ok None) (shown slot other (take n bytes))) (vacant_same n bytes some few)
    ∙ ap (λ (r : Result (Option ListBody) ℕ). cond (is_vacant bytes) (Ok None) r) (shown_same n slot other bytes some few enough)

-- the bytes that count, or all of them
pub counting_cases : (bytes : List ℕ) (P : List ℕ → Type 0) → P bytes → ((n : ℕ) → 30 ≤ n → n ≤ length bytes → size_in bytes ≤ n → P (take n bytes)) → P (counting bytes)
counting_cases bytes P all front = elim (cases_lt (length bytes) (size_in bytes)) [
  | inl short ↦ subst P (sym (take_all (size_in bytes) bytes (omega (arith, short)))) all
  | inr long ↦ front (size_in bytes) (omega arith) long (omega arith)
]

pub counting_slot : (slot : ℕ) (other : Option ℕ) (bytes : List ℕ) → slot_at slot other (counting bytes) ≡ slot_at slot other bytes
counting_slot slot other bytes = counting_cases bytes (λ l. slot_at slot other l ≡ slot_at slot other bytes) refl (λ n some few enough. slot_front n slot other bytes some few enough)

pub counting_vacant : (bytes : List ℕ) → is_vacant (counting bytes) ≡ is_vacant bytes
counting_vacant bytes = counting_cases bytes (λ l. is_vacant l ≡ is_vacant bytes) refl (λ n some few enough. vacant_same n bytes some few)

pub counting_long : (bytes : List ℕ) → leb 30 (length (counting bytes)) ≡ leb 30 (length bytes)
counting_long bytes = counting_cases bytes (λ l. leb 30 (length l) ≡ leb 30 (length bytes)) refl
    (λ n some few enough. le-leb 30 (length (take n bytes)) (omega (arith, length-take n bytes, some, few)) ∙ sym (le-leb 30 (length bytes) (omega (arith, some, few))))

pub counting_slots : (first second : List ℕ) → slots_at (counting first) (counting second) ≡ slots_at first second
unfolding slots_at
counting_slots first second =
    ap (λ (r : Result (Option ListBody) ℕ). in_slot 0 r >>= λ one. in_slot 1 (slot_at 1 (generation_of one) (counting second)) >>= λ two. Ok (newer_of one two)) (counting_slot 0 None first)
    ∙ after_one (in_slot 0 (slot_at 0 None first))
  where
    after_one : (r : Result (Option ListBody) (ℕ × ℕ)) → (r >>= λ one. in_slot 1 (slot_at 1 (generation_of one) (counting second)) >>= λ two. Ok (newer_of one two))
        ≡ (r >>= λ one. in_slot 1 (slot_at 1 (generation_of one) second) >>= λ two. Ok (newer_of one two))
    after_one (Ok one) = ap (λ (r : Result (Option ListBody) ℕ). in_slot 1 r >>= λ two. Ok (newer_of one two)) (counting_slot 1 (generation_of one) second)
    after_one (Err at) = refl

-- ---- what slots hold, by the bytes that count

counting_rest : (bytes : List ℕ) → bytes ≡ counting bytes ++ drop (size_in bytes) bytes
counting_rest bytes = sym (take-append-drop (size_in bytes) bytes)

holds_all : (slot : ℕ) (bytes : List ℕ) (body : ListBody) → SlotHolds slot (counting bytes) body → SlotHolds slot bytes body
holds_all slot bytes body holds = record {
  rest = holds.rest ++ drop (size_in bytes) bytes;
  encoded = counting_rest bytes ∙ ap (λ (l : List ℕ). l ++ drop (size_in bytes) bytes) holds.encoded ∙ append_assoc (1 ∷ text_of body) holds.rest (drop (size_in bytes) bytes);
  parity = holds.parity;
  rules = holds.rules;
}

vacant_all : (bytes : List ℕ) → IsVacant (counting bytes) → IsVacant bytes
vacant_all bytes vacant = counting_cases bytes (λ l. IsVacant l → IsVacant bytes) (λ v. v) (λ n some few enough. from n some few) vacant
  where
    from : (n : ℕ) → 30 ≤ n → n ≤ length bytes → IsVacant (take n bytes) → IsVacant bytes
    from n some few (inl short) = inl (omega (arith, length-take n bytes, some, few, short))
    from n some few (inr closed) = inr (λ one. closed (get_or-take n bytes 0 0 (omega (arith, some)) ∙ one))

pub counting_holds : (slot : ℕ) (first second : List ℕ) (list : Option ListBody) → SlotsHold slot (counting first) (counting second) list → SlotsHold slot first second list
counting_holds slot first second list (none a b is) = none (vacant_all first a) (vacant_all second b) is
counting_holds slot first second list (alone body a b is) = alone body (holds_all slot first body a) (vacant_all second b) is
counting_holds slot first second list (other_alone body a b is) = other_alone body (vacant_all first a) (holds_all (1 - slot) second body b) is
counting_holds slot first second list (newer body older a b next is) = newer body older (holds_all slot first body a) (holds_all (1 - slot) second older b) next is
counting_holds slot first second list (other_newer body older a b next is) = other_newer body older (holds_all slot first older a) (holds_all (1 - slot) second body b) next is

-- ---- how many bytes count

-- a count that was read
pub count_taken : (s t : Stand) (x : ℕ) → s.at + 4 ≤ length s.whole → read32 s ≡ Ok (x, t) → (x ≡ count_in s.at s.whole) × (t ≡ ahead 4 s)
count_taken s t x enough is =
    let same = same_value (from_le_bytes w32 (take 4 (left s)), ahead 4 s) (x, t) (sym (reads32 s enough) ∙ is) in
    (sym (ap (λ (r : ℕ × Stand). r.0) same), sym (ap (λ (r : ℕ × Stand). r.1) same))

count_front : (at : ℕ) (bytes : List ℕ) → at + 4 ≤ 30 → 30 ≤ length bytes → count_in at (take 30 bytes) ≡ count_in at bytes
count_front at bytes low long = ap (from_le_bytes w32) (front_bytes 30 4 (record { whole = bytes; at = at }) (record { fits = low; there = long }))

pub size_front : (bytes : List ℕ) → 30 ≤ length bytes → size_in (take 30 bytes) ≡ size_in bytes
size_front bytes long =
    let a = count_front 18 bytes (omega arith) long in
    let b = count_front 22 bytes (omega arith) long in
    let d = count_front 26 bytes (omega arith) long in
    omega (arith, ap (λ (k : ℕ). 12 * k) a, ap (λ (k : ℕ). 9 * k) b, ap (λ (k : ℕ). 4 * k) d)

-- a file shorter than a list's fixed fields counts whole
pub short_counts : (bytes : List ℕ) → length (take 30 bytes) < 30 → take 30 bytes ≡ counting bytes
short_counts bytes short =
    let few : length bytes < 30 = omega (arith, length-take 30 bytes, short) in
    take_all 30 bytes (omega (arith, few)) ∙ sym (take_all (size_in bytes) bytes (omega (arith, few)))

-- as many as the file has, at most
pub least_counts : (bytes : List ℕ) (size len : ℕ) → size ≡ size_in bytes → len ≡ length bytes → take (min size len) bytes ≡ counting bytes
least_counts bytes size len is all = elim (cases_lt (length bytes) (size_in bytes)) [
  | inl short ↦
      let e : min size len ≡ length bytes = omega (arith, is, all, short) in
      ap (λ (n : ℕ). take n bytes) e ∙ take_all (length bytes) bytes (omega arith) ∙ sym (take_all (size_in bytes) bytes (omega (arith, short)))
  | inr long ↦ let e : min size len ≡ size_in bytes = omega (arith, is, all, long) in ap (λ (n : ℕ). take n bytes) e
]

-- ---- which slots are cleared

pub clear_same : (bytes whole : List ℕ) → bytes ≡ counting whole → is_to_clear bytes ≡ is_to_clear whole
clear_same bytes whole e =
    ap is_to_clear e ∙ ap (λ (b : Bool). b && leb 30 (length (counting whole))) (counting_vacant whole) ∙ ap (λ (b : Bool). is_vacant whole && b) (counting_long whole)

pub cleared_then : (whole : List ℕ) → is_to_clear whole ≡ true → cleared whole ≡ take 1 whole
cleared_then whole is = ap (λ (b : Bool). cond b (take 1 whole) whole) is

pub cleared_else : (whole : List ℕ) → is_to_clear whole ≡ false → cleared whole ≡ whole
cleared_else whole is = ap (λ (b : Bool). cond b (take 1 whole) whole) is

pub clear_vacant_long : (whole : List ℕ) → is_to_clear whole ≡ true → (is_vacant whole ≡ true) × (30 ≤ length whole)
clear_vacant_long whole is = let parts = and_parts (is_vacant whole) (leb 30 (length whole)) is in (parts.0, leb-true 30 (length whole) parts.1)

pub free_else : (whole : List ℕ) → is_to_clear whole ≡ false → IsFree whole
free_else whole is = elim (and_cases (is_vacant whole) (leb 30 (length whole)) is) [
  | inl shown_slot ↦ inl (eqb-true (get_or whole 0 0) 1 (opened (ltb (length whole) 30) (eqb (get_or whole 0 0) 1) shown_slot))
  | inr short ↦ inr (leb-false 30 (length whole) short)
]
  where
    opened : (a b : Bool) → (a || not b) ≡ false → b ≡ true
    opened true b e = absurd (cc)
    opened false true e = refl
    opened false false e = absurd (cc)
