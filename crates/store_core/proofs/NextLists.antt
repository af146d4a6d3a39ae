-- The list that a flush's commit makes meets the rules.
use Rattle.std.proofs.Common.{◌≡◌, inl, inr, ℕ, ◌+◌, ◌-◌, ◌<◌, ◌≤◌, suc, List, [], ◌∷◌, ◌++◌, map, length, get_or, nat_eq, false, refl, sym, ◌∙◌, ap, subst, arith, append_assoc, length-append}
use Rattle.std.specs.List.{Contains, All, IsDistinct, AllByRecursion}
use Rattle.std.specs.List.Sorted.{IsNonDecreasing}
use Rattle.std.proofs.Math.Seq.{get_or-append_seam}
use Rattle.std.proofs.lemmas.Bool.{cases_lt, ne_eqb}
use Rattle.std.proofs.lemmas.List.{map-append, length-map}
use Rattle.std.proofs.lemmas.List.Elements.{All-from_recursion, All-push, All-tail}
use Rattle.std.proofs.lemmas.List.Sorted.{IsNonDecreasingBy-push}
use Rattle.block_list.specs.Body.{MeetsRules, files_of, firsts_of}
use Rattle.block_list.specs.declared.body.BlockRef.{BlockRef}
use Rattle.block_list.specs.declared.body.SegmentRef.{SegmentRef}
use Rattle.block_list.specs.declared.body.ListBody.{ListBody}
use Rattle.store_model.specs.State.{State, Block, Segment, segment_files, block_files, flush_files, compaction_files, listed_loose}
use Rattle.store_model.specs.After.{staying, released}
use Rattle.store_model.specs.Sound.{times, uses, StateIsSound}
use Rattle.store_model.proofs.Numbers.{times-append, times_itself}
use Rattle.store_state.specs.Listed.{segment_of, ref_of}
use Rattle.store_state.proofs.Listings.{goes_staying, goes_released, stays_staying, stays_released}
use Rattle.store_images.proofs.Lists.{not_in_nil, in_cons, at_front, behind}

abbrev number_in : SegmentRef → ℕ
number_in x = x.first

abbrev file_in : SegmentRef → ℕ
file_in x = x.file

-- ---- numbers that rise

-- none is below this one, nor below the one in front of it
abbrev Rises : ℕ → List SegmentRef → Type 0
Rises low [] = Unit {0}
Rises low (x ∷ xs) = (low ≤ x.first) × Rises x.first xs

rises_of : (xs : List SegmentRef) (low : ℕ) → IsNonDecreasing (map number_in xs) → (0 < length xs → low ≤ get_or (map number_in xs) 0 0) → Rises low xs
rises_of [] low order from = tt
rises_of (x ∷ []) low order from = (from (omega arith), tt)
rises_of (x ∷ y ∷ xs) low order from = (
  from (omega arith),
  rises_of (y ∷ xs) x.first (λ i j d le inside. order (suc i) (suc j) d (omega (arith, le)) (omega (arith, inside))) (λ some. order 0 1 0 (omega arith) (omega arith)),
)

rises_above : (low : ℕ) (xs : List SegmentRef) → Rises low xs → (x : SegmentRef) → Contains xs x → low ≤ x.first
rises_above low [] rise x c = absurd (not_in_nil x c)
rises_above low (y ∷ ys) rise x c = elim (in_cons x y ys c) [
  | inl is ↦ subst (λ (z : SegmentRef). low ≤ z.first) is rise.0
  | inr there ↦ (let more = rises_above y.first ys rise.1 x there in let here = rise.0 in omega (arith, here, more))
]

tail_order : (gone rest : List SegmentRef) → IsNonDecreasing (map number_in (gone ++ rest)) → IsNonDecreasing (map number_in rest)
tail_order [] rest order = order
tail_order (x ∷ gone) rest order = tail_order gone rest (λ i j d le inside. order (suc i) (suc j) d (omega (arith, le)) (omega (arith, inside)))

-- ---- which segments stay: those from one on, and a last one after them

abbrev pub first_in : List SegmentRef → SegmentRef → ℕ
first_in [] last = last.first
first_in (x ∷ xs) last = x.first

pub record Parting (floor : ℕ) (segments : List SegmentRef) (last : SegmentRef) : Type 0 where
  pub gone : List SegmentRef
  pub kept : List SegmentRef
  pub split : segments ≡ gone ++ kept
  pub stay : staying floor (map segment_of (segments ++ last ∷ [])) ≡ map segment_of (kept ++ last ∷ [])
  pub go : released floor (map segment_of (segments ++ last ∷ [])) ≡ map file_in gone
  pub low : first_in kept last ≤ floor

all_stay : (floor : ℕ) (a : SegmentRef) (rest : List SegmentRef) → ((x : SegmentRef) → Contains rest x → floor < x.first)
    → (staying floor (map segment_of (a ∷ rest)) ≡ map segment_of (a ∷ rest)) × (released floor (map segment_of (a ∷ rest)) ≡ [])
all_stay floor a [] above = (refl, refl)
all_stay floor a (b ∷ rest) above =
    let more = all_stay floor b rest (λ x c. above x (behind x b rest c)) in
    let here : floor < b.first = above b (at_front b rest) in
    (sym (stays_staying floor a b rest here) ∙ ap (λ (l : List Segment). segment_of a ∷ l) more.0, sym (stays_released floor a b rest here) ∙ more.1)

all_kept : (floor : ℕ) (a : SegmentRef) (rest : List SegmentRef) (last : SegmentRef) → a.first ≤ floor → ((x : SegmentRef) → Contains (rest ++ last ∷ []) x → floor < x.first) → Parting floor (a ∷ rest) last
all_kept floor a rest last low above =
    let all = all_stay floor a (rest ++ last ∷ []) above in
    record { gone = []; kept = a ∷ rest; split = refl; stay = all.0; go = all.1; low = low }

pub parting : (floor : ℕ) (segments : List SegmentRef) (last : SegmentRef) → IsNonDecreasing (map number_in (segments ++ last ∷ [])) → first_in segments last ≤ floor → Parting floor segments last
parting floor [] last order low = record { gone = []; kept = []; split = refl; stay = refl; go = refl; low = low }
parting floor (a ∷ []) last order low = elim (cases_lt floor last.first) [
  | inl stays ↦ all_kept floor a [] last low (λ x c. let above = rises_above (floor + 1) (last ∷ []) (omega (arith, stays), tt) x c in omega (arith, above))
  | inr goes ↦ record { gone = a ∷ []; kept = []; split = refl; stay = sym (goes_staying floor a last [] goes); go = sym (goes_released floor a last [] goes); low = goes }
]
parting floor (a ∷ b ∷ rest) last order low = elim (cases_lt floor b.first) [
  | inl stays ↦ all_kept floor a (b ∷ rest) last low
      (λ x c. let above = rises_above (floor + 1) (b ∷ (rest ++ last ∷ [])) (rises_of (b ∷ (rest ++ last ∷ [])) (floor + 1) (tail_order (a ∷ []) (b ∷ (rest ++ last ∷ [])) order) (λ some. omega (arith, stays))) x c in omega (arith, above))
  | inr goes ↦ (let r = parting floor (b ∷ rest) last (tail_order (a ∷ []) (b ∷ (rest ++ last ∷ [])) order) goes in record {
    gone = a ∷ r.gone;
    kept = r.kept;
    split = ap (λ (l : List SegmentRef). a ∷ l) r.split;
    stay = sym (goes_staying floor a b (rest ++ last ∷ []) goes) ∙ r.stay;
    go = sym (goes_released floor a b (rest ++ last ∷ []) goes) ∙ ap (λ (l : List ℕ). a.file ∷ l) r.go;
    low = r.low;
  })
]

-- segments are known by what a state has of them
abbrev ref_back : Segment → SegmentRef
ref_back s = record { file = s.file; first = s.first }

same_back : (xs : List SegmentRef) → map ref_back (map segment_of xs) ≡ xs
same_back [] = refl
same_back (x ∷ xs) = ap (λ (l : List SegmentRef). x ∷ l) (same_back xs)

pub same_segments : (xs ys : List SegmentRef) → map segment_of xs ≡ map segment_of ys → xs ≡ ys
same_segments xs ys is = sym (same_back xs) ∙ ap (map ref_back) is ∙ same_back ys

-- ---- files

-- the list names what the state has, and as loose the files of open jobs besides
pub record NamesState (body : ListBody) (u : State) : Type 0 where
  pub blocks : map ref_of u.blocks ≡ body.blocks
  pub segments : u.segments ≡ map segment_of body.segments
  pub floor : u.floor ≡ body.floor
  pub loose : listed_loose u ≡ body.loose
  pub next_file : u.next_file ≡ body.next_file

seg_files : (segments : List SegmentRef) → segment_files (map segment_of segments) ≡ map file_in segments
seg_files [] = refl
seg_files (x ∷ xs) = ap (λ (l : List ℕ). x.file ∷ l) (seg_files xs)

blk_files : (blocks : List Block) → map (λ (b : BlockRef). b.file) (map ref_of blocks) ≡ block_files blocks
blk_files [] = refl
blk_files (x ∷ xs) = ap (λ (l : List ℕ). x.file ∷ l) (blk_files xs)

pub uses_are : (body : ListBody) (u : State) → NamesState body u → (file : ℕ) → times file (files_of body) ≡ uses file u
uses_are body u names file =
    let segments : List ℕ = map file_in body.segments in
    let blocks : List ℕ = map (λ (b : BlockRef). b.file) body.blocks in
    let all = times-append file (segments ++ blocks) body.loose in
    let two = times-append file segments blocks in
    let one : times file (segment_files u.segments) ≡ times file segments = ap (λ (l : List Segment). times file (segment_files l)) names.segments ∙ ap (times file) (seg_files body.segments) in
    let other : times file blocks ≡ times file (block_files u.blocks) = ap (λ (l : List BlockRef). times file (map (λ (b : BlockRef). b.file) l)) (sym names.blocks) ∙ ap (times file) (blk_files u.blocks) in
    let rest : times file (listed_loose u) ≡ times file body.loose = ap (times file) names.loose in
    let jobs = times-append file (u.loose ++ flush_files u.flush) (compaction_files u.compaction) in
    let flush = times-append file u.loose (flush_files u.flush) in
    omega (arith, all, two, one, other, rest, jobs, flush)

all_by : (P : ℕ → Type 0) (xs : List ℕ) → ((x : ℕ) → 1 ≤ times x xs → P x) → AllByRecursion P xs
all_by P [] each = tt
all_by P (y ∷ ys) each =
    let joined : (x : ℕ) → times x (y ∷ ys) ≡ times x (y ∷ []) + times x ys = λ x. times-append x (y ∷ []) ys in
    (each y (let own = times_itself y in let j = joined y in omega (arith, own, j)), all_by P ys (λ x some. each x (let j = joined x in omega (arith, some, j))))

apart_by : (x : ℕ) (xs : List ℕ) → times x xs ≡ 0 → AllByRecursion (λ (y : ℕ). nat_eq x y ≡ false) xs
apart_by x [] none = tt
apart_by x (y ∷ ys) none =
    let joined = times-append x (y ∷ []) ys in (
      ne_eqb x y (λ is. let one : times x (y ∷ []) ≡ 1 = subst (λ (n : ℕ). times x (n ∷ []) ≡ 1) is (times_itself x) in omega (arith, one, joined, none)),
      apart_by x ys (omega (arith, joined, none)),
    )

pub distinct_by : (xs : List ℕ) → ((n : ℕ) → times n xs ≤ 1) → IsDistinct nat_eq xs
unfolding IsDistinct
distinct_by [] once = tt
distinct_by (x ∷ xs) once =
    let joined : (n : ℕ) → times n (x ∷ xs) ≡ times n (x ∷ []) + times n xs = λ n. times-append n (x ∷ []) xs in (
      apart_by x xs (let j = joined x in let own = times_itself x in let most = once x in omega (arith, j, own, most)),
      distinct_by xs (λ n. let j = joined n in let most = once n in omega (arith, j, most)),
    )

-- each file of a sound state has one use
pub files_fit : (body : ListBody) (u : State) → NamesState body u → StateIsSound u → All (λ file. (2 ≤ file) × (file < body.next_file)) (files_of body)
files_fit body u names sound =
    All-from_recursion (λ (file : ℕ). (2 ≤ file) × (file < body.next_file)) (files_of body) (all_by (λ (file : ℕ). (2 ≤ file) × (file < body.next_file)) (files_of body) (λ file some. (low file some, high file some)))
  where
    low : (file : ℕ) → 1 ≤ times file (files_of body) → 2 ≤ file
    low file some = elim (cases_lt file 2) [
      | inl less ↦ absurd (let same = uses_are body u names file in let none = sound.files.slots file less in omega (arith, same, none, some))
      | inr le ↦ le
    ]

    high : (file : ℕ) → 1 ≤ times file (files_of body) → file < body.next_file
    high file some = elim (cases_lt file u.next_file) [
      | inl less ↦ (let is = names.next_file in omega (arith, less, is))
      | inr above ↦ absurd (let same = uses_are body u names file in let none = sound.files.new file above in omega (arith, same, none, some))
    ]

pub files_once : (body : ListBody) (u : State) → NamesState body u → StateIsSound u → IsDistinct nat_eq (files_of body)
files_once body u names sound = distinct_by (files_of body) (λ file. let same = uses_are body u names file in let one = sound.files.once file in omega (arith, same, one))

-- ---- the rules

from_first : (body : ListBody) (kept : List SegmentRef) (last : SegmentRef) → body.segments ≡ kept ++ last ∷ [] → get_or (firsts_of body) 0 0 ≡ first_in kept last
from_first body kept last is = ap (λ (l : List SegmentRef). get_or (map number_in l) 0 0) is ∙ by_front kept
  where
    by_front : (xs : List SegmentRef) → get_or (map number_in (xs ++ last ∷ [])) 0 0 ≡ first_in xs last
    by_front [] = refl
    by_front (x ∷ xs) = refl

to_last : (body : ListBody) (kept : List SegmentRef) (last : SegmentRef) → body.segments ≡ kept ++ last ∷ [] → get_or (firsts_of body) (length body.segments - 1) 0 ≡ last.first
to_last body kept last is =
    let size : length body.segments - 1 ≡ length (map number_in kept) = (let a = ap (λ (l : List SegmentRef). length l) is in let b = length-append kept (last ∷ []) in let c = length-map kept number_in in omega (arith, a, b, c)) in
    subst (λ (k : ℕ). get_or (map number_in body.segments) k 0 ≡ last.first) (sym size)
    (subst (λ (l : List ℕ). get_or l (length (map number_in kept)) 0 ≡ last.first) (sym (ap (map number_in) is ∙ map-append number_in kept (last ∷ []))) (get_or-append_seam (map number_in kept) last.first [] 0))

-- the numbers of a list's segments, and one after them that is not below the last
pub order_with : (body : ListBody) (front : List SegmentRef) (tail last : SegmentRef) → MeetsRules body → body.segments ≡ front ++ tail ∷ [] → tail.first ≤ last.first → IsNonDecreasing (map number_in (body.segments ++ last ∷ []))
order_with body front tail last rules is le =
    subst (λ (l : List ℕ). IsNonDecreasing l) (sym (map-append number_in body.segments (last ∷ [])))
    (IsNonDecreasingBy-push (λ (n : ℕ). n) (map number_in body.segments) last.first rules.order (λ d some. omega (arith, at_end d, le)))
  where
    at_end : (d : ℕ) → get_or (map number_in body.segments) (length (map number_in body.segments) - 1) d ≡ tail.first
    at_end d =
        let size : length (map number_in body.segments) - 1 ≡ length (map number_in front) =
        (let a = ap (λ (l : List SegmentRef). length (map number_in l)) is in let b = length-map (front ++ tail ∷ []) number_in in let c = length-append front (tail ∷ []) in let e = length-map front number_in in omega (arith, a, b, c, e)) in
        subst (λ (k : ℕ). get_or (map number_in body.segments) k d ≡ tail.first) (sym size)
        (subst (λ (l : List ℕ). get_or l (length (map number_in front)) d ≡ tail.first) (sym (ap (map number_in) is ∙ map-append number_in front (tail ∷ []))) (get_or-append_seam (map number_in front) tail.first [] d))

-- What a flush's commit makes of a list that meets the rules meets them: the segments from one on stay, with the new one after
-- them, and the floor lies between the first number and that of the new one.
pub next_rules : (old new : ListBody) (u : State) (floor : ℕ) (last : SegmentRef) (block : BlockRef) (front : List SegmentRef) (tail : SegmentRef) → MeetsRules old → StateIsSound u → NamesState new u
    → (p : Parting floor old.segments last) → new.segments ≡ p.kept ++ last ∷ [] → new.blocks ≡ old.blocks ++ block ∷ [] → new.floor ≡ floor → new.generation < 256
    → old.segments ≡ front ++ tail ∷ [] → tail.first ≤ last.first → last.first ≤ 4294967295 → floor ≤ last.first
    → block.level ≤ 63 → 1 ≤ block.rows → block.rows ≤ 1048576 → MeetsRules new
next_rules old new u floor last block front tail rules sound names p segments blocks is generation at_end rises few high level some most = record {
  generation = generation;
  next_file = (let same = names.next_file in let fits = sound.fits.files in omega (arith, same, fits));
  some_segment = (let a = ap (λ (l : List SegmentRef). length l) segments in let b = length-append p.kept (last ∷ []) in omega (arith, a, b));
  files = files_fit new u names sound;
  once = files_once new u names sound;
  order = subst (λ (l : List SegmentRef). IsNonDecreasing (map number_in l)) (sym segments) (tail_order p.gone (p.kept ++ last ∷ [])
      (subst (λ (l : List SegmentRef). IsNonDecreasing (map number_in l)) (append_assoc p.gone p.kept (last ∷ [])) (subst (λ (l : List SegmentRef). IsNonDecreasing (map number_in (l ++ last ∷ []))) p.split (order_with old front tail last rules at_end rises))));
  firsts = subst (λ (l : List ℕ). All (λ first. first ≤ 4294967295) l) (sym (ap (map number_in) segments ∙ map-append number_in p.kept (last ∷ [])))
      (All-push (λ (n : ℕ). n ≤ 4294967295) (map number_in p.kept) last.first kept_few few);
  from_floor = (let first = from_first new p.kept last segments in let low = p.low in omega (arith, first, low, is));
  to_floor = (let end = to_last new p.kept last segments in omega (arith, end, high, is));
  levels = subst (λ (l : List BlockRef). All (λ block. block.level ≤ 63) l) (sym blocks) (All-push (λ (b : BlockRef). b.level ≤ 63) old.blocks block rules.levels level);
  rows = subst (λ (l : List BlockRef). All (λ block. (1 ≤ block.rows) × (block.rows ≤ 1048576)) l) (sym blocks) (All-push (λ (b : BlockRef). (1 ≤ b.rows) × (b.rows ≤ 1048576)) old.blocks block rules.rows (some, most));
}
  where
    all_few : All (λ (n : ℕ). n ≤ 4294967295) (map number_in p.gone ++ map number_in p.kept)
    all_few = subst (λ (l : List ℕ). All (λ (n : ℕ). n ≤ 4294967295) l) (ap (map number_in) p.split ∙ map-append number_in p.gone p.kept) rules.firsts

    behind_of : (xs ys : List ℕ) → All (λ (n : ℕ). n ≤ 4294967295) (xs ++ ys) → All (λ (n : ℕ). n ≤ 4294967295) ys
    behind_of [] ys all = all
    behind_of (x ∷ xs) ys all = behind_of xs ys (All-tail (λ (n : ℕ). n ≤ 4294967295) x (xs ++ ys) all)

    kept_few : All (λ (n : ℕ). n ≤ 4294967295) (map number_in p.kept)
    kept_few = behind_of (map number_in p.gone) (map number_in p.kept) all_few
