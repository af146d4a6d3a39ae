-- A list that slots are read as names no slot as a file, whatever the bytes are.
use Rattle.std.proofs.Common.{◌≡◌, inl, inr, ℕ, zero, suc, ◌≤◌, Bool, true, false, not, eqb, leb, ltb, cond, ◌&&◌, ◌||◌, Option, Some, None, List, [], ◌∷◌, ◌++◌, map, length, get_or, Result, Ok, Err, refl, sym, ◌∙◌, ap, subst}
use Rattle.std.specs.Prelude.{⊤, nat_eq}
use Rattle.std.specs.List.{Contains, list_any}
use Rattle.std.proofs.lemmas.Bool.{and_parts, cases_Bool, leb-true}
use Rattle.std.proofs.lemmas.List.Elements.{Contains-append_cases}
use Rattle.byte_fields.specs.Reading.{Stand, ◌>>=◌}
use Rattle.block_list.specs.Reading.{ruled, read8, read32, head_at, file_at, first_number_at, segment_ref_at, segments_at, level_at, rows_at, block_at, blocks_at, loose_at, list_body_at, is_vacant, slot_at, in_slot, generation_of, newer_of, slots_at}
use Rattle.block_list.specs.Body.{successor}
use Rattle.block_list.specs.declared.body.SegmentRef.{SegmentRef}
use Rattle.block_list.specs.declared.body.BlockRef.{BlockRef}
use Rattle.block_list.specs.declared.body.ListBody.{ListBody}
use Rattle.store_images.proofs.Lists.{in_cons, not_in_nil}

-- a step that gave something
record Bound {A B E : Type 0} (r : Result A E) (f : A → Result B E) (y : B) : Type 0 where
  value : A
  first : r ≡ Ok value
  last : f value ≡ Ok y

bound : {A B E : Type 0} (r : Result A E) (f : A → Result B E) (y : B) → (r >>= f) ≡ Ok y → Bound r f y
bound (Ok x) f y is = record { value = x; first = refl; last = is }
bound (Err at) f y is = absurd (cc)

ruled_ok : {X : Type 0} (holds : Bool) (at : ℕ) (x y : X) → ruled holds at x ≡ Ok y → (holds ≡ true) × (x ≡ y)
ruled_ok true at x y is = (refl, cc)
ruled_ok false at x y is = absurd (cc)

same_ok : {X E : Type 0} (x y : X) → (let r : Result X E = Ok x in let s : Result X E = Ok y in r ≡ s) → x ≡ y
same_ok x y is = cc

abbrev files_of_segments : List SegmentRef → List ℕ
files_of_segments xs = map (λ (segment : SegmentRef). segment.file) xs

abbrev files_of_blocks : List BlockRef → List ℕ
files_of_blocks xs = map (λ (block : BlockRef). block.file) xs

-- ---- a file

file_low : (next_file : ℕ) (seen : List ℕ) (s t : Stand) (file : ℕ) → file_at next_file seen s ≡ Ok (file, t) → 2 ≤ file
unfolding file_at
file_low next_file seen s t file is =
    let b = bound (read32 s) (λ file. ruled (leb 2 file.0 && ltb file.0 next_file && not (list_any (nat_eq file.0) seen)) s.at file) (file, t) is in
    let r = ruled_ok (leb 2 b.value.0 && ltb b.value.0 next_file && not (list_any (nat_eq b.value.0) seen)) s.at b.value (file, t) b.last in
    let parts = and_parts (leb 2 b.value.0 && ltb b.value.0 next_file) (not (list_any (nat_eq b.value.0) seen)) r.0 in
    let both = and_parts (leb 2 b.value.0) (ltb b.value.0 next_file) parts.0 in
    subst (λ (p : ℕ × Stand). 2 ≤ p.0) r.1 (leb-true 2 b.value.0 both.0)

segment_low : (next_file floor : ℕ) (is_last : Bool) (before : Option ℕ) (seen : List ℕ) (s t : Stand) (segment : SegmentRef) → segment_ref_at next_file floor is_last before seen s ≡ Ok (segment, t)
    → 2 ≤ segment.file
unfolding segment_ref_at
segment_low next_file floor is_last before seen s t segment is =
    let f = bound (file_at next_file seen s) (λ file. first_number_at floor is_last before file.1 >>= λ first. Ok (record { file = file.0; first = first.0 }, first.1)) (segment, t) is in
    let g = bound (first_number_at floor is_last before f.value.1) (λ first. Ok (record { file = f.value.0; first = first.0 }, first.1)) (segment, t) f.last in
    let same : (record { file = f.value.0; first = g.value.0 }, g.value.1) ≡ (segment, t) = same_ok {E = ℕ} (record { file = f.value.0; first = g.value.0 }, g.value.1) (segment, t) g.last in
    subst (λ (p : SegmentRef × Stand). 2 ≤ p.0.file) same (file_low next_file seen s f.value.1 f.value.0 f.first)

block_low : (next_file : ℕ) (seen : List ℕ) (s t : Stand) (block : BlockRef) → block_at next_file seen s ≡ Ok (block, t) → 2 ≤ block.file
unfolding block_at
block_low next_file seen s t block is =
    let f = bound (file_at next_file seen s) (λ file. level_at file.1 >>= λ level. rows_at level.1 >>= λ rows. Ok (record { file = file.0; level = level.0; rows = rows.0 }, rows.1)) (block, t) is in
    let g = bound (level_at f.value.1) (λ level. rows_at level.1 >>= λ rows. Ok (record { file = f.value.0; level = level.0; rows = rows.0 }, rows.1)) (block, t) f.last in
    let h = bound (rows_at g.value.1) (λ rows. Ok (record { file = f.value.0; level = g.value.0; rows = rows.0 }, rows.1)) (block, t) g.last in
    let same : (record { file = f.value.0; level = g.value.0; rows = h.value.0 }, h.value.1) ≡ (block, t) = same_ok {E = ℕ} (record { file = f.value.0; level = g.value.0; rows = h.value.0 }, h.value.1) (block, t) h.last in
    subst (λ (p : BlockRef × Stand). 2 ≤ p.0.file) same (file_low next_file seen s f.value.1 f.value.0 f.first)

-- ---- a list

abbrev pub AreLow : {X : Type 0} → (X → ℕ) → List X → Type 0
AreLow {X} file_of xs = (x : X) → Contains xs x → 2 ≤ file_of x

none_low : {X : Type 0} (file_of : X → ℕ) → AreLow file_of []
none_low file_of x c = absurd (not_in_nil x c)

one_more : {X : Type 0} (file_of : X → ℕ) (done : List X) (y : X) → AreLow file_of done → 2 ≤ file_of y → AreLow file_of (done ++ y ∷ [])
one_more file_of done y low here x c = elim (Contains-append_cases done (y ∷ []) x c) [
  | inl before ↦ low x before
  | inr last ↦ elim (in_cons x y [] last) [ inl is ↦ subst (λ z. 2 ≤ file_of z) is here | inr none ↦ absurd (not_in_nil x none) ]
]

segments_low : (next_file floor count : ℕ) (before : Option ℕ) (done : List SegmentRef) (s t : Stand) (all : List SegmentRef) → segments_at next_file floor count before done s ≡ Ok (all, t)
    → AreLow (λ (x : SegmentRef). x.file) done → AreLow (λ (x : SegmentRef). x.file) all
unfolding segments_at
segments_low next_file floor zero before done s t all is low = subst (λ (p : List SegmentRef × Stand). AreLow (λ (x : SegmentRef). x.file) p.0) (same_ok {E = ℕ} (done, s) (all, t) is) low
segments_low next_file floor (suc count) before done s t all is low =
    let b = bound (segment_ref_at next_file floor (eqb count 0) before (files_of_segments done) s) (λ segment. segments_at next_file floor count (Some segment.0.first) (done ++ segment.0 ∷ []) segment.1) (all, t) is in
    let segment = b.value.0 in
    segments_low next_file floor count (Some segment.first) (done ++ segment ∷ []) b.value.1 t all b.last
    (one_more (λ (x : SegmentRef). x.file) done segment low (segment_low next_file floor (eqb count 0) before (files_of_segments done) s b.value.1 segment b.first))

blocks_low : (next_file : ℕ) (earlier : List ℕ) (count : ℕ) (done : List BlockRef) (s t : Stand) (all : List BlockRef) → blocks_at next_file earlier count done s ≡ Ok (all, t)
    → AreLow (λ (x : BlockRef). x.file) done → AreLow (λ (x : BlockRef). x.file) all
unfolding blocks_at
blocks_low next_file earlier zero done s t all is low = subst (λ (p : List BlockRef × Stand). AreLow (λ (x : BlockRef). x.file) p.0) (same_ok {E = ℕ} (done, s) (all, t) is) low
blocks_low next_file earlier (suc count) done s t all is low =
    let b = bound (block_at next_file (earlier ++ files_of_blocks done) s) (λ block. blocks_at next_file earlier count (done ++ block.0 ∷ []) block.1) (all, t) is in
    let block = b.value.0 in
    blocks_low next_file earlier count (done ++ block ∷ []) b.value.1 t all b.last
    (one_more (λ (x : BlockRef). x.file) done block low (block_low next_file (earlier ++ files_of_blocks done) s b.value.1 block b.first))

-- its segments and its blocks lie in files that are no slots
abbrev pub IsLow : ListBody → Type 0
IsLow list = AreLow (λ (x : SegmentRef). x.file) list.segments × AreLow (λ (x : BlockRef). x.file) list.blocks

abbrev AllLow : Option ListBody → Type 0
AllLow None = ⊤
AllLow (Some list) = IsLow list

list_low : (slot : ℕ) (other : Option ℕ) (s t : Stand) (body : ListBody) → list_body_at slot other s ≡ Ok (body, t) → IsLow body
unfolding list_body_at
list_low slot other s t body is =
    let a = bound (head_at slot other s) (λ head. segments_at head.0.next_file head.0.floor head.0.segments None [] head.1 >>= λ segments. blocks_at head.0.next_file (files_of_segments segments.0) head.0.blocks [] segments.1 >>= λ blocks.
    loose_at head.0.next_file (files_of_segments segments.0 ++ files_of_blocks blocks.0) head.0.loose [] blocks.1 >>= λ loose.
    Ok (record { generation = head.0.generation; next_file = head.0.next_file; floor = head.0.floor; segments = segments.0; blocks = blocks.0; loose = loose.0 }, loose.1)) (body, t) is in
    let h = a.value.0 in
    let b = bound (segments_at h.next_file h.floor h.segments None [] a.value.1) (λ segments. blocks_at h.next_file (files_of_segments segments.0) h.blocks [] segments.1 >>= λ blocks.
    loose_at h.next_file (files_of_segments segments.0 ++ files_of_blocks blocks.0) h.loose [] blocks.1 >>= λ loose.
    Ok (record { generation = h.generation; next_file = h.next_file; floor = h.floor; segments = segments.0; blocks = blocks.0; loose = loose.0 }, loose.1)) (body, t) a.last in
    let c = bound (blocks_at h.next_file (files_of_segments b.value.0) h.blocks [] b.value.1) (λ blocks.
    loose_at h.next_file (files_of_segments b.value.0 ++ files_of_blocks blocks.0) h.loose [] blocks.1 >>= λ loose.
    Ok (record { generation = h.generation; next_file = h.next_file; floor = h.floor; segments = b.value.0; blocks = blocks.0; loose = loose.0 }, loose.1)) (body, t) b.last in
    let d = bound (loose_at h.next_file (files_of_segments b.value.0 ++ files_of_blocks c.value.0) h.loose [] c.value.1) (λ loose.
    Ok (record { generation = h.generation; next_file = h.next_file; floor = h.floor; segments = b.value.0; blocks = c.value.0; loose = loose.0 }, loose.1)) (body, t) c.last in
    let same : (record { generation = h.generation; next_file = h.next_file; floor = h.floor; segments = b.value.0; blocks = c.value.0; loose = d.value.0 }, d.value.1) ≡ (body, t) =
    same_ok {E = ℕ} (record { generation = h.generation; next_file = h.next_file; floor = h.floor; segments = b.value.0; blocks = c.value.0; loose = d.value.0 }, d.value.1) (body, t) d.last in
    subst (λ (p : ListBody × Stand). IsLow p.0) same (
      segments_low h.next_file h.floor h.segments None [] a.value.1 b.value.1 b.value.0 b.first (none_low (λ (x : SegmentRef). x.file)),
      blocks_low h.next_file (files_of_segments b.value.0) h.blocks [] b.value.1 c.value.1 c.value.0 c.first (none_low (λ (x : BlockRef). x.file)),
    )

-- ---- slots

in_slot_ok : {X : Type 0} (slot : ℕ) (r : Result X ℕ) (x : X) → in_slot slot r ≡ Ok x → r ≡ Ok x
in_slot_ok {X} slot (Ok y) x is = let same : y ≡ x = cc in ap (λ (z : X). Ok z) same
in_slot_ok slot (Err at) x is = absurd (cc)

slot_low : (slot : ℕ) (other : Option ℕ) (bytes : List ℕ) (found : Option ListBody) → slot_at slot other bytes ≡ Ok found → AllLow found
unfolding slot_at
slot_low slot other bytes found is = elim (cases_Bool (is_vacant bytes)) [
  | inl vacant ↦
      let h : (let r : Result (Option ListBody) ℕ = Ok None in r ≡ Ok found) =
      subst (λ (b : Bool). cond b (Ok None) (read8 (record { whole = bytes; at = 0 }) >>= λ gate. list_body_at slot other gate.1 >>= λ list. Ok (Some list.0)) ≡ Ok found) vacant is in
      subst AllLow (same_ok {E = ℕ} None found h) tt
  | inr shown ↦
      let h : (read8 (record { whole = bytes; at = 0 }) >>= λ gate. list_body_at slot other gate.1 >>= λ list. Ok (Some list.0)) ≡ Ok found =
      subst (λ (b : Bool). cond b (Ok None) (read8 (record { whole = bytes; at = 0 }) >>= λ gate. list_body_at slot other gate.1 >>= λ list. Ok (Some list.0)) ≡ Ok found) shown is in
      let a = bound (read8 (record { whole = bytes; at = 0 })) (λ gate. list_body_at slot other gate.1 >>= λ list. Ok (Some list.0)) found h in
      let b = bound (list_body_at slot other a.value.1) (λ list. Ok (Some list.0)) found a.last in
      subst AllLow (same_ok {E = ℕ} (Some b.value.0) found b.last) (list_low slot other a.value.1 b.value.1 b.value.0 b.first)
]

newer_low : (one two : Option ListBody) → AllLow one → AllLow two → AllLow (newer_of one two)
newer_low None two here there = there
newer_low (Some a) None here there = here
newer_low (Some a) (Some b) here there = elim (cases_Bool (eqb b.generation (successor a.generation))) [
  | inl follows ↦ subst (λ (t : Bool). AllLow (cond t (Some b) (Some a))) (sym follows) there
  | inr stays ↦ subst (λ (t : Bool). AllLow (cond t (Some b) (Some a))) (sym stays) here
]

pub slots_low : (first second : List ℕ) (list : ListBody) → slots_at first second ≡ Ok (Some list) → IsLow list
unfolding slots_at
slots_low first second list is =
    let a = bound (in_slot 0 (slot_at 0 None first)) (λ one. in_slot 1 (slot_at 1 (generation_of one) second) >>= λ two. Ok (newer_of one two)) (Some list) is in
    let b = bound (in_slot 1 (slot_at 1 (generation_of a.value) second)) (λ two. Ok (newer_of a.value two)) (Some list) a.last in
    let one = slot_low 0 None first a.value (in_slot_ok 0 (slot_at 0 None first) a.value a.first) in
    let two = slot_low 1 (generation_of a.value) second b.value (in_slot_ok 1 (slot_at 1 (generation_of a.value) second) b.value b.first) in
    subst AllLow (same_ok {E = ℕ × ℕ} (newer_of a.value b.value) (Some list) b.last) (newer_low a.value b.value one two)
