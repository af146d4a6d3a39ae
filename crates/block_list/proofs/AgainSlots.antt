-- What two slots stand for is what they are read as.
use Rattle.std.proofs.Common.{◌≡◌, inl, inr, ℕ, ◌-◌, ◌%◌, ◌^◌, ◌<◌, ◌≤◌, Bool, true, false, eqb, ltb, ◌&&◌, ◌||◌, Option, Some, None, List, [], ◌∷◌, ◌++◌, length, get_or, Result, Ok, Err, refl, sym, ◌∙◌, ap, subst, arith, append_assoc}
use Rattle.std.specs.List.{flat_map, AllByRecursion}
use Rattle.std.proofs.lemmas.Bool.{cases_Bool, eq-eqb, ne_eqb, le-leb, lt-ltb}
use Rattle.std.proofs.lemmas.List.{length-map, append-nil}
use Rattle.std.proofs.lemmas.List.Elements.{recursion_from_All}
use Rattle.byte_fields.specs.Spelling.{fixed32_bytes, fixed64_bytes}
use Rattle.byte_fields.specs.Reading.{Stand, left}
use Rattle.block_list.specs.Body.{MeetsRules, files_of, firsts_of, magic, segment_bytes, block_bytes, head_bytes, text_of, successor}
use Rattle.block_list.specs.Slots.{IsVacant, SlotHolds, SlotsHold}
use Rattle.block_list.specs.Slots.SlotsHold.{none, alone, other_alone, newer, other_newer}
use Rattle.block_list.specs.Reading.{ruled, read8, read32, read64, tag, are_neighbours, tag_at, generation_at, count_at, head_at, segments_at, blocks_at, loose_at, list_body_at, is_vacant, slot_at, slots_at}
use Rattle.block_list.proofs.ReadingLemmas.{segment_files, block_files}
use Rattle.block_list.proofs.BodyLemmas.{few_segments, few_blocks, few_loose}
use Rattle.block_list.proofs.LoadLemmas.{holds_not_vacant, vacant_from}
use Rattle.block_list.proofs.Meaning.{FilesFit, FirstsFit, BlocksFit}
use Rattle.block_list.proofs.Again.{ReadsTo, then_read, done_here, again8, again32, again64, ruled_again, both_true, files_fit, none_before, files_front, files_back, firsts_fit, segments_again, blocks_again, loose_again}
use Rattle.block_list.specs.declared.reading.Head.{Head}
use Rattle.block_list.specs.declared.body.SegmentRef.{SegmentRef}
use Rattle.block_list.specs.declared.body.BlockRef.{BlockRef}
use Rattle.block_list.specs.declared.body.ListBody.{ListBody}

-- ---- the fixed fields

abbrev head_of : ListBody → Head
head_of body = record { generation = body.generation; next_file = body.next_file; floor = body.floor; segments = length body.segments; blocks = length body.blocks; loose = length body.loose }

tag_again : (s : Stand) (rest : List ℕ) → left s ≡ magic ++ rest → ReadsTo (tag_at s) tag rest
unfolding tag_at
tag_again s rest e =
    then_read (read32 s) (λ number. ruled (eqb number.0 tag) s.at number) tag rest tag rest (again32 s tag rest (omega arith) e) (λ t f. ruled_again (eqb tag tag) s.at tag t rest refl f)

generation_again : (slot : ℕ) (other : Option ℕ) (s : Stand) (generation : ℕ) (rest : List ℕ) → generation % 2 ≡ slot → are_neighbours generation other ≡ true → left s ≡ generation ∷ rest → ReadsTo (generation_at slot other s) generation rest
unfolding generation_at
generation_again slot other s generation rest parity beside e =
    then_read (read8 s) (λ generation. ruled (eqb (generation.0 % 2) slot && are_neighbours generation.0 other) s.at generation) generation rest generation rest (again8 s generation rest e)
    (λ t f. ruled_again (eqb (generation % 2) slot && are_neighbours generation other) s.at generation t rest (both_true (eqb (generation % 2) slot) (are_neighbours generation other) (eq-eqb (generation % 2) slot parity) beside) f)

count_again : (s : Stand) (count : ℕ) (rest : List ℕ) → 0 < count → count < 2 ^ 32 → left s ≡ fixed32_bytes count ++ rest → ReadsTo (count_at s) count rest
unfolding count_at
count_again s count rest some small e =
    then_read (read32 s) (λ count. ruled (ltb 0 count.0) s.at count) count rest count rest (again32 s count rest small e) (λ t f. ruled_again (ltb 0 count) s.at count t rest (lt-ltb 0 count some) f)

head_parts : (generation : ℕ) (next_file floor segments blocks loose rest : List ℕ) → (magic ++ generation ∷ [] ++ next_file ++ floor ++ segments ++ blocks ++ loose) ++ rest
    ≡ magic ++ (generation ∷ (next_file ++ (floor ++ (segments ++ (blocks ++ (loose ++ rest))))))
head_parts generation next_file floor segments blocks loose rest = simp append_assoc

below_floor : (body : ListBody) → MeetsRules body → body.floor < 2 ^ 64
below_floor body rules =
    let size : length (firsts_of body) ≡ length body.segments = length-map body.segments (λ (segment : SegmentRef). segment.first) in
    omega (arith, rules.to_floor, rules.some_segment, rules.firsts (length body.segments - 1) 0 (omega (arith, rules.some_segment)))

head_again : (slot : ℕ) (other : Option ℕ) (s : Stand) (body : ListBody) (rest : List ℕ) → MeetsRules body → body.generation % 2 ≡ slot → are_neighbours body.generation other ≡ true → left s ≡ head_bytes body ++ rest
    → ReadsTo (head_at slot other s) (head_of body) rest
unfolding head_at head_bytes
head_again slot other s body rest rules parity beside e =
    let next_file = fixed32_bytes body.next_file in
    let floor = fixed64_bytes body.floor in
    let segments = fixed32_bytes (length body.segments) in
    let blocks = fixed32_bytes (length body.blocks) in
    let loose = fixed32_bytes (length body.loose) in
    let whole = e ∙ head_parts body.generation next_file floor segments blocks loose rest in
    then_read (tag_at s) _ tag (body.generation ∷ (next_file ++ (floor ++ (segments ++ (blocks ++ (loose ++ rest)))))) (head_of body) rest (tag_again s (body.generation ∷ (next_file ++ (floor ++ (segments ++ (blocks ++ (loose ++ rest)))))) whole)
    (λ t a. then_read (generation_at slot other t) _ body.generation (next_file ++ (floor ++ (segments ++ (blocks ++ (loose ++ rest))))) (head_of body) rest (generation_again slot other t body.generation (next_file ++ (floor ++ (segments ++ (blocks ++ (loose ++ rest))))) parity beside a)
    (λ u b. then_read (read32 u) _ body.next_file (floor ++ (segments ++ (blocks ++ (loose ++ rest)))) (head_of body) rest (again32 u body.next_file (floor ++ (segments ++ (blocks ++ (loose ++ rest)))) rules.next_file b)
    (λ v c. then_read (read64 v) _ body.floor (segments ++ (blocks ++ (loose ++ rest))) (head_of body) rest (again64 v body.floor (segments ++ (blocks ++ (loose ++ rest))) (below_floor body rules) c)
    (λ w d. then_read (count_at w) _ (length body.segments) (blocks ++ (loose ++ rest)) (head_of body) rest (count_again w (length body.segments) (blocks ++ (loose ++ rest)) rules.some_segment (few_segments body rules) d)
    (λ x f. then_read (read32 x) _ (length body.blocks) (loose ++ rest) (head_of body) rest (again32 x (length body.blocks) (loose ++ rest) (few_blocks body rules) f)
    (λ y g. then_read (read32 y) _ (length body.loose) rest (head_of body) rest (again32 y (length body.loose) rest (few_loose body rules) g)
    (λ z h. done_here (head_of body) z rest h)))))))

-- ---- a list

all_files_fit : (body : ListBody) → MeetsRules body → FilesFit body.next_file [] (files_of body)
all_files_fit body rules = files_fit body.next_file [] (files_of body) (recursion_from_All (λ file. (2 ≤ file) × (file < body.next_file)) (files_of body) rules.files) (none_before (files_of body)) rules.once

all_firsts_fit : (body : ListBody) → MeetsRules body → FirstsFit body.floor None (firsts_of body)
all_firsts_fit body rules =
    let size : length (firsts_of body) ≡ length body.segments = length-map body.segments (λ (segment : SegmentRef). segment.first) in
    firsts_fit body.floor None (firsts_of body) (recursion_from_All (λ first. first ≤ 4294967295) (firsts_of body) rules.firsts) (λ some. le-leb (get_or (firsts_of body) 0 0) body.floor rules.from_floor) rules.order
    (λ last is. let at : length body.segments - 1 ≡ last = omega arith in subst (λ (n : ℕ). body.floor ≤ get_or (firsts_of body) n 0) at rules.to_floor)

both_fit : (blocks : List BlockRef) → AllByRecursion (λ (block : BlockRef). block.level ≤ 63) blocks → AllByRecursion (λ (block : BlockRef). (1 ≤ block.rows) × (block.rows ≤ 1048576)) blocks → BlocksFit blocks
both_fit [] levels rows = tt
both_fit (block ∷ blocks) levels rows = ((levels.0, rows.0), both_fit blocks levels.1 rows.1)

text_groups : (a b c d rest : List ℕ) → (a ++ b ++ c ++ d) ++ rest ≡ a ++ (b ++ (c ++ (d ++ rest)))
text_groups a b c d rest = simp append_assoc

list_again : (slot : ℕ) (other : Option ℕ) (s : Stand) (body : ListBody) (rest : List ℕ) → MeetsRules body → body.generation % 2 ≡ slot → are_neighbours body.generation other ≡ true → left s ≡ text_of body ++ rest
    → ReadsTo (list_body_at slot other s) body rest
unfolding list_body_at text_of
list_again slot other s body rest rules parity beside e =
    let segments = flat_map segment_bytes body.segments in
    let blocks = flat_map block_bytes body.blocks in
    let loose = flat_map fixed32_bytes body.loose in
    let earlier = segment_files body.segments ++ block_files body.blocks in
    let files = all_files_fit body rules in
    let front = files_front body.next_file [] earlier body.loose files in
    let first = files_front body.next_file [] (segment_files body.segments) (block_files body.blocks) front in
    let second = files_back body.next_file [] (segment_files body.segments) (block_files body.blocks) front in
    let third = files_back body.next_file [] earlier body.loose files in
    let fit = both_fit body.blocks (recursion_from_All (λ (block : BlockRef). block.level ≤ 63) body.blocks rules.levels) (recursion_from_All (λ (block : BlockRef). (1 ≤ block.rows) × (block.rows ≤ 1048576)) body.blocks rules.rows) in
    then_read (head_at slot other s) _ (head_of body) (segments ++ (blocks ++ (loose ++ rest))) body rest
    (head_again slot other s body (segments ++ (blocks ++ (loose ++ rest))) rules parity beside (e ∙ text_groups (head_bytes body) segments blocks loose rest))
    (λ t a. then_read (segments_at body.next_file body.floor (length body.segments) None [] t) _ body.segments (blocks ++ (loose ++ rest)) body rest
    (segments_again body.next_file body.floor body.segments None [] t (blocks ++ (loose ++ rest)) rules.next_file first (all_firsts_fit body rules) a)
    (λ u b. then_read (blocks_at body.next_file (segment_files body.segments) (length body.blocks) [] u) _ body.blocks (loose ++ rest) body rest
    (blocks_again body.next_file (segment_files body.segments) body.blocks [] u (loose ++ rest) rules.next_file (subst (λ (l : List ℕ). FilesFit body.next_file l (block_files body.blocks)) (sym (append-nil (segment_files body.segments))) second) fit b)
    (λ v c. then_read (loose_at body.next_file earlier (length body.loose) [] v) _ body.loose rest body rest
    (loose_again body.next_file earlier body.loose [] v rest rules.next_file (subst (λ (l : List ℕ). FilesFit body.next_file l body.loose) (sym (append-nil earlier)) third) c)
    (λ w d. done_here body w rest d))))

-- ---- slots

or_not : (a : Bool) → (a || true) ≡ true
or_not true = refl
or_not false = refl

is_vacant_of : (bytes : List ℕ) → IsVacant bytes → is_vacant bytes ≡ true
is_vacant_of bytes (inl short) = rw (lt-ltb (length bytes) 30 short) refl
is_vacant_of bytes (inr closed) = rw (ne_eqb (get_or bytes 0 0) 1 closed) (or_not (ltb (length bytes) 30))

vacant_again : (slot : ℕ) (other : Option ℕ) (bytes : List ℕ) → IsVacant bytes → slot_at slot other bytes ≡ Ok None
unfolding slot_at
vacant_again slot other bytes vacant = rw (is_vacant_of bytes vacant) refl

not_vacant_of : (slot : ℕ) (bytes : List ℕ) (body : ListBody) → SlotHolds slot bytes body → is_vacant bytes ≡ false
not_vacant_of slot bytes body holds = elim (cases_Bool (is_vacant bytes)) [
  | inl vacant ↦ absurd (holds_not_vacant slot bytes body holds (vacant_from bytes vacant))
  | inr shown ↦ shown
]

slot_again : (slot : ℕ) (other : Option ℕ) (bytes : List ℕ) (body : ListBody) → SlotHolds slot bytes body → are_neighbours body.generation other ≡ true → slot_at slot other bytes ≡ Ok (Some body)
unfolding slot_at
slot_again slot other bytes body holds beside =
    let start : Stand = record { whole = bytes; at = 0 } in
    let gate = again8 start 1 (text_of body ++ holds.rest) holds.encoded in
    let list = list_again slot other gate.stand body holds.rest holds.rules holds.parity beside gate.leaves in
    rw (not_vacant_of slot bytes body holds) (rw gate.is (rw list.is refl))

next_to : (generation : ℕ) (other : ℕ) → generation ≡ successor other → are_neighbours generation (Some other) ≡ true
next_to generation other is = rw (eq-eqb generation (successor other) is) refl

before_it : (generation : ℕ) (other : ℕ) → other ≡ successor generation → are_neighbours generation (Some other) ≡ true
before_it generation other is = rw (eq-eqb other (successor generation) is) (or_not (eqb generation (successor other)))

-- what the slots stand for is what is read
pub slots_again : (first second : List ℕ) (list : Option ListBody) → SlotsHold 0 first second list → slots_at first second ≡ Ok list
unfolding slots_at
slots_again first second list (none here there is) =
    rw (vacant_again 0 None first here) (rw (vacant_again 1 None second there) (ap (λ (l : Option ListBody). Ok l) (sym is)))
slots_again first second list (alone body here there is) =
    rw (slot_again 0 None first body here refl) (rw (vacant_again 1 (Some body.generation) second there) (ap (λ (l : Option ListBody). Ok l) (sym is)))
slots_again first second list (other_alone body here there is) =
    rw (vacant_again 0 None first here) (rw (slot_again 1 None second body there refl) (ap (λ (l : Option ListBody). Ok l) (sym is)))
slots_again first second list (newer body older here there follows is) =
    let stays : eqb older.generation (successor body.generation) ≡ false = ne_eqb older.generation (successor body.generation) (λ same. absurd (omega arith)) in
    rw (slot_again 0 None first body here refl) (rw (slot_again 1 (Some body.generation) second older there (before_it older.generation body.generation follows)) (rw stays (ap (λ (l : Option ListBody). Ok l) (sym is))))
slots_again first second list (other_newer body older here there follows is) =
    rw (slot_again 0 None first older here refl) (rw (slot_again 1 (Some older.generation) second body there (next_to body.generation older.generation follows)) (rw (eq-eqb body.generation (successor older.generation) follows) (ap (λ (l : Option ListBody). Ok l) (sym is))))

same_found : (a b : Option ListBody) → (let r : Result (Option ListBody) (ℕ × ℕ) = Ok a in let s : Result (Option ListBody) (ℕ × ℕ) = Ok b in r ≡ s) → a ≡ b
same_found a b is = cc

pub only_one : (first second : List ℕ) (found list : Option ListBody) → SlotsHold 0 first second list → slots_at first second ≡ Ok found → found ≡ list
only_one first second found list stands is = same_found found list (sym is ∙ slots_again first second list stands)

pub never_breaks : (first second : List ℕ) (list : Option ListBody) (slot at : ℕ) → SlotsHold 0 first second list → slots_at first second ≡ Err (slot, at) → ⊥
never_breaks first second list slot at stands is = absurd (let bad = sym (slots_again first second list stands) ∙ is in cc)
