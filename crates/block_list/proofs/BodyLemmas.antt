-- How many bytes a body takes, and how many files it names.
use Rattle.std.proofs.Common.{◌≡◌, ℕ, ◌+◌, ◌*◌, ◌^◌, ◌<◌, ◌≤◌, true, eqb, List, [], ◌∷◌, ◌++◌, length, map, get_or, take, refl, sym, ◌∙◌, ap, inl, inr, arith, length-append, append_assoc}
use Rattle.std.specs.List.{flat_map, list_any}
use Rattle.std.proofs.lemmas.List.{length-map, append-nil, take_more}
use Rattle.std.proofs.lemmas.Bool.{eqb-true, or_cases}
use Rattle.std.proofs.lemmas.List.Elements.{recursion_from_All}
use Rattle.std.specs.List.{AllByRecursion}
use Rattle.std.proofs.lemmas.Map.Steps.{length-le_from_distinct_below}
use Rattle.byte_fields.specs.Spelling.{fixed32_bytes, fixed64_bytes}
use Rattle.block_list.specs.Body.{MeetsRules, files_of, magic, segment_bytes, block_bytes, head_bytes, text_of}
use Rattle.block_list.specs.declared.body.SegmentRef.{SegmentRef}
use Rattle.block_list.specs.declared.body.BlockRef.{BlockRef}
use Rattle.block_list.specs.declared.body.ListBody.{ListBody}

pub length-segment : (segment : SegmentRef) → length (segment_bytes segment) ≡ 12
unfolding segment_bytes
length-segment segment = refl

pub length-block : (block : BlockRef) → length (block_bytes block) ≡ 9
unfolding block_bytes
length-block block = refl

pub length-head : (body : ListBody) → length (head_bytes body) ≡ 29
unfolding head_bytes
length-head body = refl

pub length-segments : (segments : List SegmentRef) → length (flat_map segment_bytes segments) ≡ 12 * length segments
length-segments [] = refl
length-segments (segment ∷ segments) = omega (arith, length-append (segment_bytes segment) (flat_map segment_bytes segments), length-segments segments, length-segment segment)

pub length-blocks : (blocks : List BlockRef) → length (flat_map block_bytes blocks) ≡ 9 * length blocks
length-blocks [] = refl
length-blocks (block ∷ blocks) = omega (arith, length-append (block_bytes block) (flat_map block_bytes blocks), length-blocks blocks, length-block block)

pub length-files : (files : List ℕ) → length (flat_map fixed32_bytes files) ≡ 4 * length files
length-files [] = refl
length-files (file ∷ files) = omega (arith, length-append (fixed32_bytes file) (flat_map fixed32_bytes files), length-files files)

pub length-text : (body : ListBody) → length (text_of body) ≡ 29 + 12 * length body.segments + 9 * length body.blocks + 4 * length body.loose
unfolding text_of
length-text body =
    let a = head_bytes body in
    let b = flat_map segment_bytes body.segments in
    let c = flat_map block_bytes body.blocks in
    let d = flat_map fixed32_bytes body.loose in
    omega (arith, length-append (a ++ b ++ c) d, length-append (a ++ b) c, length-append a b, length-head body, length-segments body.segments, length-blocks body.blocks, length-files body.loose)

below_all : (files : List ℕ) (n : ℕ) → AllByRecursion (λ file. (2 ≤ file) × (file < n)) files → (q : ℕ) → list_any (eqb q) files ≡ true → q < n
below_all [] n all q is = absurd (cc)
below_all (file ∷ files) n all q is = elim (or_cases (eqb q file) (list_any (eqb q) files) is) [
  | inl here ↦ omega (arith, all.0.1, eqb-true q file here)
  | inr there ↦ below_all files n all.1 q there
]

-- files that are below a number and named once are no more than it
pub few_files : (body : ListBody) → MeetsRules body → length (files_of body) ≤ body.next_file
few_files body rules = length-le_from_distinct_below (files_of body) body.next_file rules.once
    (below_all (files_of body) body.next_file (recursion_from_All (λ file. (2 ≤ file) × (file < body.next_file)) (files_of body) rules.files))

pub record FewEntries (body : ListBody) : Type 0 where
  pub segments : length body.segments < 2 ^ 32
  pub blocks : length body.blocks < 2 ^ 32
  pub loose : length body.loose < 2 ^ 32

pub few_entries : (body : ListBody) → MeetsRules body → FewEntries body
few_entries body rules =
    let a = map (λ (segment : SegmentRef). segment.file) body.segments in
    let b = map (λ (block : BlockRef). block.file) body.blocks in
    let whole : length a + length b + length body.loose ≤ body.next_file = omega (arith, few_files body rules, length-append (a ++ b) body.loose, length-append a b) in
    let first : length a ≡ length body.segments = length-map body.segments (λ (segment : SegmentRef). segment.file) in
    let second : length b ≡ length body.blocks = length-map body.blocks (λ (block : BlockRef). block.file) in
    record {
      segments = omega (arith, rules.next_file);
      blocks = omega (arith, rules.next_file);
      loose = omega (arith, rules.next_file);
    }

pub few_segments : (body : ListBody) → MeetsRules body → length body.segments < 2 ^ 32
few_segments body rules = (few_entries body rules).segments

pub few_blocks : (body : ListBody) → MeetsRules body → length body.blocks < 2 ^ 32
few_blocks body rules = (few_entries body rules).blocks

pub few_loose : (body : ListBody) → MeetsRules body → length body.loose < 2 ^ 32
few_loose body rules = (few_entries body rules).loose

-- entries with one more at the end
flat_map_push : {X : Type 0} (f : X → List ℕ) (xs : List X) (x : X) → flat_map f (xs ++ x ∷ []) ≡ flat_map f xs ++ f x
flat_map_push f [] x = append-nil (f x)
flat_map_push f (y ∷ xs) x = ap (λ (l : List ℕ). f y ++ l) (flat_map_push f xs x) ∙ sym (append_assoc (f y) (flat_map f xs) (f x))

pub entries_more : {X : Type 0} (f : X → List ℕ) (text : List ℕ) (xs : List X) (index : ℕ) (d : X) → index < length xs
    → (text ++ flat_map f (take index xs)) ++ f (get_or xs index d) ≡ text ++ flat_map f (take (index + 1) xs)
entries_more {X} f text xs index d inside =
    append_assoc text (flat_map f (take index xs)) (f (get_or xs index d))
    ∙ ap (λ (l : List ℕ). text ++ l) (sym (flat_map_push f (take index xs) (get_or xs index d)))
    ∙ ap (λ (l : List X). text ++ flat_map f l) (sym (take_more xs index d inside))

-- one segment, and one block, written field by field
pub segment_fields : (text : List ℕ) (segment : SegmentRef) → (text ++ fixed32_bytes segment.file) ++ fixed64_bytes segment.first ≡ text ++ segment_bytes segment
unfolding segment_bytes
segment_fields text segment = append_assoc text (fixed32_bytes segment.file) (fixed64_bytes segment.first)

pub block_fields : (text : List ℕ) (block : BlockRef) → ((text ++ fixed32_bytes block.file) ++ block.level ∷ []) ++ fixed32_bytes block.rows ≡ text ++ block_bytes block
unfolding block_bytes
block_fields text block =
    append_assoc (text ++ fixed32_bytes block.file) (block.level ∷ []) (fixed32_bytes block.rows)
    ∙ append_assoc text (fixed32_bytes block.file) (block.level ∷ [] ++ fixed32_bytes block.rows)
    ∙ ap (λ (l : List ℕ). text ++ l) (sym (append_assoc (fixed32_bytes block.file) (block.level ∷ []) (fixed32_bytes block.rows)))

-- the fixed fields
pub head_fields : (text : List ℕ) (body : ListBody)
    → ((((((text ++ magic) ++ body.generation ∷ []) ++ fixed32_bytes body.next_file) ++ fixed64_bytes body.floor) ++ fixed32_bytes (length body.segments)) ++ fixed32_bytes (length body.blocks)) ++ fixed32_bytes (length body.loose)
    ≡ text ++ head_bytes body
unfolding head_bytes
head_fields text body = simp append_assoc

-- the whole of it
pub text_parts : (text : List ℕ) (body : ListBody)
    → (((text ++ head_bytes body) ++ flat_map segment_bytes body.segments) ++ flat_map block_bytes body.blocks) ++ flat_map fixed32_bytes body.loose ≡ text ++ text_of body
unfolding text_of
text_parts text body = simp append_assoc
