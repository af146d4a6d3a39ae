-- What is read is a list, each byte of it, and it meets the rules.
use Rattle.std.proofs.Common.{◌≡◌, inl, inr, ℕ, zero, suc, ◌+◌, ◌-◌, ◌%◌, ◌^◌, ◌<◌, ◌≤◌, Bool, true, false, not, eqb, leb, ltb, ◌&&◌, ◌||◌, Option, Some, None, List, [], ◌∷◌, ◌++◌, length, get_or, map, Result, Ok, Err, refl, sym, ◌∙◌, ap, subst, arith, length-append, length-drop, append_assoc}
use Rattle.std.specs.Prelude.{nat_eq}
use Rattle.std.specs.List.{flat_map, list_any, IsDistinct, AllByRecursion}
use Rattle.std.specs.List.Sorted.{IsNonDecreasing}
use Rattle.std.specs.Int.{w32, from_le_bytes}
use Rattle.std.proofs.lemmas.Bool.{cases_lt, and_parts, eqb-true, eqb-false, ne_eqb, leb-true, ltb-true, not-true}
use Rattle.std.proofs.lemmas.List.{length-map, map-append, append-nil, get_or_append_left, get_or_past}
use Rattle.std.proofs.lemmas.List.Elements.{All-from_recursion}
use Rattle.std.proofs.lemmas.List.Folds.{list_any-append}
use Rattle.byte_fields.specs.declared.error.FieldError.{FieldError}
use Rattle.byte_fields.specs.Spelling.{fixed32_bytes, fixed64_bytes}
use Rattle.byte_fields.specs.Reading.{Stand, left, AreBytes, IsWithin, ahead, MovesPast, ◌>>=◌, raw_at, byte_at, fixed32_at, fixed64_at}
use Rattle.byte_fields.proofs.FieldLaws.{read_as, left_fits, raw_takes, byte_takes, fixed32_takes, fixed64_takes}
use Rattle.byte_fields.proofs.TextLaws.{MovesPast-then}
use Rattle.block_list.specs.Body.{MeetsRules, magic, segment_bytes, block_bytes, head_bytes, text_of}
use Rattle.block_list.specs.Reading.{located, ruled, read8, read32, read64, tag, are_neighbours, tag_at, generation_at, count_at, head_at, file_at, goes_on, first_number_at, segment_ref_at, segments_at, level_at, rows_at, block_at, blocks_at, loose_at, list_body_at}
use Rattle.block_list.proofs.ReadingLemmas.{segment_files, block_files}
use Rattle.block_list.specs.declared.reading.Head.{Head}
use Rattle.block_list.specs.declared.body.SegmentRef.{SegmentRef}
use Rattle.block_list.specs.declared.body.BlockRef.{BlockRef}
use Rattle.block_list.specs.declared.body.ListBody.{ListBody}

-- ---- steps and fields

-- a step that gave something
record Bound {A B : Type 0} (r : Result A ℕ) (f : A → Result B ℕ) (y : B) : Type 0 where
  value : A
  first : r ≡ Ok value
  last : f value ≡ Ok y

bound : {A B : Type 0} (r : Result A ℕ) (f : A → Result B ℕ) (y : B) → (r >>= f) ≡ Ok y → Bound r f y
bound (Ok x) f y is = record { value = x; first = refl; last = is }
bound (Err at) f y is = absurd (cc)

ruled_ok : {X : Type 0} (holds : Bool) (at : ℕ) (x y : X) → ruled holds at x ≡ Ok y → (holds ≡ true) × (x ≡ y)
ruled_ok true at x y is = (refl, cc)
ruled_ok false at x y is = absurd (cc)

placed_ok : {X : Type 0} (r : Result X FieldError) (x : X) → located r ≡ Ok x → r ≡ Ok x
placed_ok {X} (Ok y) x is = let same : y ≡ x = cc in ap (λ (z : X). Ok z) same
placed_ok (Err e) x is = absurd (cc)

same_ok : {X : Type 0} (x y : X) → (let r : Result X ℕ = Ok x in let s : Result X ℕ = Ok y in r ≡ s) → x ≡ y
same_ok x y is = cc

-- these bytes were passed
pub record Took (spelling : List ℕ) (s t : Stand) : Type 0 where
  pub passed : MovesPast spelling s t
  pub within : IsWithin t.whole t.at

took : (spelling : List ℕ) (s t : Stand) → IsWithin s.whole s.at → MovesPast spelling s t → Took spelling s t
took spelling s t within passed =
    let whole : t.whole ≡ s.whole = ap (λ (x : Stand). x.whole) passed.place in
    let at : t.at ≡ s.at + length spelling = ap (λ (x : Stand). x.at) passed.place in
    let size : length (left s) ≡ length s.whole - s.at = length-drop s.at s.whole in
    let parts : length (left s) ≡ length spelling + length (left t) = ap length passed.spelled ∙ length-append spelling (left t) in
    let same : length t.whole ≡ length s.whole = ap length whole in
    record { passed = passed; within = record { bytes_fit = subst AreBytes (sym whole) within.bytes_fit; no_further = omega (arith, within.no_further) } }

took_none : (s : Stand) → IsWithin s.whole s.at → Took [] s s
took_none s within =
    let none : s.at ≡ s.at + 0 = omega arith in
    record { passed = record { spelled = refl; place = ap (λ (n : ℕ). record { whole = s.whole; at = n }) none }; within = within }

took_then : (a b : List ℕ) (s t u : Stand) → Took a s t → Took b t u → Took (a ++ b) s u
took_then a b s t u p q = record { passed = MovesPast-then a b s t u p.passed q.passed; within = q.within }

pub record TookByte (s t : Stand) (b : ℕ) : Type 0 where
  pub bytes : Took (b ∷ []) s t
  pub small : b < 256

pub took8 : (s t : Stand) (b : ℕ) → IsWithin s.whole s.at → read8 s ≡ Ok (b, t) → TookByte s t b
unfolding read8
took8 s t b within is =
    let passed = byte_takes s within t b (placed_ok (byte_at s) (b, t) is) in
    let here : get_or (left s) 0 0 ≡ b = ap (λ (l : List ℕ). get_or l 0 0) passed.spelled in
    record { bytes = took (b ∷ []) s t within passed; small = omega (arith, left_fits s within.bytes_fit 0) }

below32 : (bytes : List ℕ) → ((i : ℕ) → get_or bytes i 0 < 256) → from_le_bytes w32 bytes < 2 ^ 32
below32 bytes fits = omega (arith, fits 0, fits 1, fits 2, fits 3)

fixed32_small : (s : Stand) → IsWithin s.whole s.at → (t : Stand) (n : ℕ) (r : Result (List ℕ × Stand) FieldError) → raw_at 4 s ≡ r
    → (let read : Result (ℕ × Stand) FieldError = r >>= λ bytes. Ok (from_le_bytes w32 bytes.0, bytes.1) in read ≡ read_as n t) → n < 2 ^ 32
fixed32_small s within t n (Ok bytes) raw is =
    let taken = raw_takes 4 s bytes.0 bytes.1 raw in
    let same : (from_le_bytes w32 bytes.0, bytes.1) ≡ (n, t) = ok_same (from_le_bytes w32 bytes.0, bytes.1) (n, t) is in
    let value : from_le_bytes w32 bytes.0 ≡ n = ap (λ (p : ℕ × Stand). p.0) same in
    let fits : (i : ℕ) → get_or bytes.0 i 0 < 256 = λ i. elim (cases_lt i (length bytes.0)) [
      | inl inside ↦
          let here : get_or (left s) i 0 ≡ get_or bytes.0 i 0 = ap (λ (l : List ℕ). get_or l i 0) taken.passed.spelled ∙ get_or_append_left bytes.0 (left bytes.1) 0 i inside in
          omega (arith, left_fits s within.bytes_fit i)
      | inr past ↦ omega (arith, get_or_past bytes.0 i 0 past)
    ] in
    omega (arith, below32 bytes.0 fits)
  where
    ok_same : (x y : ℕ × Stand) → (let r : Result (ℕ × Stand) FieldError = Ok x in let q : Result (ℕ × Stand) FieldError = Ok y in r ≡ q) → x ≡ y
    ok_same x y e = cc
fixed32_small s within t n (Err e) raw is = absurd (cc)

record TookNumber (s t : Stand) (n : ℕ) : Type 0 where
  bytes : Took (fixed32_bytes n) s t
  small : n < 2 ^ 32

took32 : (s t : Stand) (n : ℕ) → IsWithin s.whole s.at → read32 s ≡ Ok (n, t) → TookNumber s t n
unfolding read32 fixed32_at
took32 s t n within is =
    let read = placed_ok (fixed32_at s) (n, t) is in
    record { bytes = took (fixed32_bytes n) s t within (fixed32_takes s within t n read); small = fixed32_small s within t n (raw_at 4 s) refl read }

took64 : (s t : Stand) (n : ℕ) → IsWithin s.whole s.at → read64 s ≡ Ok (n, t) → Took (fixed64_bytes n) s t
unfolding read64
took64 s t n within is = took (fixed64_bytes n) s t within (fixed64_takes s within t n (placed_ok (fixed64_at s) (n, t) is))

-- a field with a rule
record Ruled32 (s t : Stand) (n : ℕ) (holds : Bool) : Type 0 where
  field : TookNumber s t n
  holds_so : holds ≡ true

ruled32 : (s t : Stand) (n : ℕ) (test : ℕ → Bool) → IsWithin s.whole s.at → (read32 s >>= λ number. ruled (test number.0) s.at number) ≡ Ok (n, t) → Ruled32 s t n (test n)
ruled32 s t n test within is =
    let b = bound (read32 s) (λ number. ruled (test number.0) s.at number) (n, t) is in
    let r = ruled_ok (test b.value.0) s.at b.value (n, t) b.last in
    let read : read32 s ≡ Ok (n, t) = b.first ∙ ap (λ (p : ℕ × Stand). Ok p) r.1 in
    record { field = took32 s t n within read; holds_so = subst (λ (p : ℕ × Stand). test p.0 ≡ true) r.1 r.0 }

record Ruled8 (s t : Stand) (n : ℕ) (holds : Bool) : Type 0 where
  field : TookByte s t n
  holds_so : holds ≡ true

ruled8 : (s t : Stand) (n : ℕ) (test : ℕ → Bool) → IsWithin s.whole s.at → (read8 s >>= λ number. ruled (test number.0) s.at number) ≡ Ok (n, t) → Ruled8 s t n (test n)
ruled8 s t n test within is =
    let b = bound (read8 s) (λ number. ruled (test number.0) s.at number) (n, t) is in
    let r = ruled_ok (test b.value.0) s.at b.value (n, t) b.last in
    let read : read8 s ≡ Ok (n, t) = b.first ∙ ap (λ (p : ℕ × Stand). Ok p) r.1 in
    record { field = took8 s t n within read; holds_so = subst (λ (p : ℕ × Stand). test p.0 ≡ true) r.1 r.0 }

record Ruled64 (s t : Stand) (n : ℕ) (holds : Bool) : Type 0 where
  field : Took (fixed64_bytes n) s t
  holds_so : holds ≡ true

ruled64 : (s t : Stand) (n : ℕ) (test : ℕ → Bool) → IsWithin s.whole s.at → (read64 s >>= λ number. ruled (test number.0) s.at number) ≡ Ok (n, t) → Ruled64 s t n (test n)
ruled64 s t n test within is =
    let b = bound (read64 s) (λ number. ruled (test number.0) s.at number) (n, t) is in
    let r = ruled_ok (test b.value.0) s.at b.value (n, t) b.last in
    let read : read64 s ≡ Ok (n, t) = b.first ∙ ap (λ (p : ℕ × Stand). Ok p) r.1 in
    record { field = took64 s t n within read; holds_so = subst (λ (p : ℕ × Stand). test p.0 ≡ true) r.1 r.0 }

-- ---- files

-- files that were given out and are named once, beside those named before
abbrev pub FilesFit : ℕ → List ℕ → List ℕ → Type 0
FilesFit next_file seen [] = Unit {0}
FilesFit next_file seen (file ∷ files) = (2 ≤ file) × (file < next_file) × (list_any (nat_eq file) seen ≡ false) × FilesFit next_file (seen ++ file ∷ []) files

record FileMeans (next_file : ℕ) (seen : List ℕ) (s t : Stand) (file : ℕ) : Type 0 where
  bytes : Took (fixed32_bytes file) s t
  low : 2 ≤ file
  high : file < next_file
  fresh : list_any (nat_eq file) seen ≡ false

file_means : (next_file : ℕ) (seen : List ℕ) (s t : Stand) (file : ℕ) → IsWithin s.whole s.at → file_at next_file seen s ≡ Ok (file, t) → FileMeans next_file seen s t file
unfolding file_at
file_means next_file seen s t file within is =
    let r = ruled32 s t file (λ file. leb 2 file && ltb file next_file && not (list_any (nat_eq file) seen)) within is in
    let parts = and_parts (leb 2 file && ltb file next_file) (not (list_any (nat_eq file) seen)) r.holds_so in
    let both = and_parts (leb 2 file) (ltb file next_file) parts.0 in
    record { bytes = r.field.bytes; low = leb-true 2 file both.0; high = ltb-true file next_file both.1; fresh = not-true (list_any (nat_eq file) seen) parts.1 }

files_behind : (next_file : ℕ) (seen a b : List ℕ) → FilesFit next_file seen a → FilesFit next_file (seen ++ a) b → FilesFit next_file seen (a ++ b)
files_behind next_file seen [] b first second = subst (λ (l : List ℕ). FilesFit next_file l b) (append-nil seen) second
files_behind next_file seen (file ∷ a) b first second =
    (first.0, first.1, first.2, files_behind next_file (seen ++ file ∷ []) a b first.3 (subst (λ (l : List ℕ). FilesFit next_file l b) (sym (append_assoc seen (file ∷ []) a)) second))

record Once (seen files : List ℕ) : Type 0 where
  apart : AllByRecursion (λ file. list_any (nat_eq file) seen ≡ false) files
  once : IsDistinct nat_eq files

or_none : (a b : Bool) → (a || b) ≡ false → (a ≡ false) × (b ≡ false)
or_none true b is = absurd (cc)
or_none false b is = (refl, is)

split_apart : (seen : List ℕ) (file : ℕ) (files : List ℕ) → AllByRecursion (λ other. list_any (nat_eq other) (seen ++ file ∷ []) ≡ false) files
    → AllByRecursion (λ other. list_any (nat_eq other) seen ≡ false) files × AllByRecursion (λ other. nat_eq file other ≡ false) files
split_apart seen file [] all = (tt, tt)
split_apart seen file (other ∷ files) all =
    let parts = or_none (list_any (nat_eq other) seen) (nat_eq other file || false) (sym (list_any-append (nat_eq other) seen (file ∷ [])) ∙ all.0) in
    let differs = or_none (nat_eq other file) false parts.1 in
    let rest = split_apart seen file files all.1 in
    ((parts.0, rest.0), (ne_eqb file other (λ same. eqb-false other file differs.0 (sym same)), rest.1))

files_once : (next_file : ℕ) (seen files : List ℕ) → FilesFit next_file seen files → Once seen files
unfolding IsDistinct
files_once next_file seen [] fit = record { apart = tt; once = tt }
files_once next_file seen (file ∷ files) fit =
    let rest = files_once next_file (seen ++ file ∷ []) files fit.3 in
    let parts = split_apart seen file files rest.apart in
    record { apart = (fit.2, parts.0); once = (parts.1, rest.once) }

files_in_range : (next_file : ℕ) (seen files : List ℕ) → FilesFit next_file seen files → AllByRecursion (λ file. (2 ≤ file) × (file < next_file)) files
files_in_range next_file seen [] fit = tt
files_in_range next_file seen (file ∷ files) fit = ((fit.0, fit.1), files_in_range next_file (seen ++ file ∷ []) files fit.3)

-- ---- segments

-- first numbers that don't fall and that the floor fits
abbrev pub FirstsFit : ℕ → Option ℕ → List ℕ → Type 0
FirstsFit floor before [] = Unit {0}
FirstsFit floor before (first ∷ firsts) = (first ≤ 4294967295) × (goes_on floor before first ≡ true) × ((not (eqb (length firsts) 0) || leb floor first) ≡ true) × FirstsFit floor (Some first) firsts

record SegmentMeans (next_file floor : ℕ) (is_last : Bool) (before : Option ℕ) (seen : List ℕ) (s t : Stand) (segment : SegmentRef) : Type 0 where
  bytes : Took (segment_bytes segment) s t
  file : FileMeans next_file seen s (ahead 4 s) segment.file
  small : segment.first ≤ 4294967295
  goes : goes_on floor before segment.first ≡ true
  last : (not is_last || leb floor segment.first) ≡ true

segment_means : (next_file floor : ℕ) (is_last : Bool) (before : Option ℕ) (seen : List ℕ) (s t : Stand) (segment : SegmentRef) → IsWithin s.whole s.at → segment_ref_at next_file floor is_last before seen s ≡ Ok (segment, t)
    → SegmentMeans next_file floor is_last before seen s t segment
unfolding segment_ref_at first_number_at segment_bytes
segment_means next_file floor is_last before seen s t segment within is =
    let f = bound (file_at next_file seen s) (λ file. first_number_at floor is_last before file.1 >>= λ first. Ok (record { file = file.0; first = first.0 }, first.1)) (segment, t) is in
    let file = file_means next_file seen s f.value.1 f.value.0 within f.first in
    let g = bound (first_number_at floor is_last before f.value.1) (λ first. Ok (record { file = f.value.0; first = first.0 }, first.1)) (segment, t) f.last in
    let r = ruled64 f.value.1 g.value.1 g.value.0 (λ first. leb first 4294967295 && goes_on floor before first && (not is_last || leb floor first)) file.bytes.within g.first in
    let same : (record { file = f.value.0; first = g.value.0 }, g.value.1) ≡ (segment, t) = same_ok (record { file = f.value.0; first = g.value.0 }, g.value.1) (segment, t) g.last in
    let parts = and_parts (leb g.value.0 4294967295 && goes_on floor before g.value.0) (not is_last || leb floor g.value.0) r.holds_so in
    let both = and_parts (leb g.value.0 4294967295) (goes_on floor before g.value.0) parts.0 in
    let here : f.value.1 ≡ ahead 4 s = file.bytes.passed.place in
    subst (λ (p : SegmentRef × Stand). SegmentMeans next_file floor is_last before seen s p.1 p.0) same
    (record {
      bytes = took_then (fixed32_bytes f.value.0) (fixed64_bytes g.value.0) s f.value.1 g.value.1 file.bytes r.field;
      file = subst (λ (u : Stand). FileMeans next_file seen s u f.value.0) here file;
      small = leb-true g.value.0 4294967295 both.0;
      goes = both.1;
      last = parts.1;
    })

record SegmentsMean (next_file floor : ℕ) (before : Option ℕ) (done : List SegmentRef) (count : ℕ) (s t : Stand) (all : List SegmentRef) : Type 0 where
  more : List SegmentRef
  is : all ≡ done ++ more
  size : length more ≡ count
  bytes : Took (flat_map segment_bytes more) s t
  files : FilesFit next_file (segment_files done) (segment_files more)
  firsts : FirstsFit floor before (map (λ (segment : SegmentRef). segment.first) more)

segments_mean : (next_file floor count : ℕ) (before : Option ℕ) (done : List SegmentRef) (s t : Stand) (all : List SegmentRef) → IsWithin s.whole s.at → segments_at next_file floor count before done s ≡ Ok (all, t)
    → SegmentsMean next_file floor before done count s t all
unfolding segments_at
segments_mean next_file floor zero before done s t all within is =
    subst (λ (p : List SegmentRef × Stand). SegmentsMean next_file floor before done 0 s p.1 p.0) (same_ok (done, s) (all, t) is)
    (record { more = []; is = sym (append-nil done); size = refl; bytes = took_none s within; files = tt; firsts = tt })
segments_mean next_file floor (suc count) before done s t all within is =
    let b = bound (segment_ref_at next_file floor (eqb count 0) before (segment_files done) s) (λ segment. segments_at next_file floor count (Some segment.0.first) (done ++ segment.0 ∷ []) segment.1) (all, t) is in
    let segment = b.value.0 in
    let one = segment_means next_file floor (eqb count 0) before (segment_files done) s b.value.1 segment within b.first in
    let rest = segments_mean next_file floor count (Some segment.first) (done ++ segment ∷ []) b.value.1 t all one.bytes.within b.last in
    let size : length (map (λ (x : SegmentRef). x.first) rest.more) ≡ count = length-map rest.more (λ (x : SegmentRef). x.first) ∙ rest.size in
    record {
      more = segment ∷ rest.more;
      is = rest.is ∙ append_assoc done (segment ∷ []) rest.more;
      size = ap suc rest.size;
      bytes = took_then (segment_bytes segment) (flat_map segment_bytes rest.more) s b.value.1 t one.bytes rest.bytes;
      files = (one.file.low, one.file.high, one.file.fresh, subst (λ (l : List ℕ). FilesFit next_file l (segment_files rest.more)) (map-append (λ (x : SegmentRef). x.file) done (segment ∷ [])) rest.files);
      firsts = (one.small, one.goes, subst (λ (n : ℕ). (not (eqb n 0) || leb floor segment.first) ≡ true) (sym size) one.last, rest.firsts);
    }

-- ---- blocks

abbrev pub BlocksFit : List BlockRef → Type 0
BlocksFit blocks = AllByRecursion (λ (block : BlockRef). (block.level ≤ 63) × ((1 ≤ block.rows) × (block.rows ≤ 1048576))) blocks

record BlockMeans (next_file : ℕ) (seen : List ℕ) (s t : Stand) (block : BlockRef) : Type 0 where
  bytes : Took (block_bytes block) s t
  file : FileMeans next_file seen s (ahead 4 s) block.file
  level : block.level ≤ 63
  some_rows : 1 ≤ block.rows
  rows : block.rows ≤ 1048576

block_means : (next_file : ℕ) (seen : List ℕ) (s t : Stand) (block : BlockRef) → IsWithin s.whole s.at → block_at next_file seen s ≡ Ok (block, t) → BlockMeans next_file seen s t block
unfolding block_at level_at rows_at block_bytes
block_means next_file seen s t block within is =
    let f = bound (file_at next_file seen s) (λ file. level_at file.1 >>= λ level. rows_at level.1 >>= λ rows. Ok (record { file = file.0; level = level.0; rows = rows.0 }, rows.1)) (block, t) is in
    let file = file_means next_file seen s f.value.1 f.value.0 within f.first in
    let g = bound (level_at f.value.1) (λ level. rows_at level.1 >>= λ rows. Ok (record { file = f.value.0; level = level.0; rows = rows.0 }, rows.1)) (block, t) f.last in
    let level = ruled8 f.value.1 g.value.1 g.value.0 (λ level. leb level 63) file.bytes.within g.first in
    let h = bound (rows_at g.value.1) (λ rows. Ok (record { file = f.value.0; level = g.value.0; rows = rows.0 }, rows.1)) (block, t) g.last in
    let rows = ruled32 g.value.1 h.value.1 h.value.0 (λ rows. leb 1 rows && leb rows 1048576) level.field.bytes.within h.first in
    let same : (record { file = f.value.0; level = g.value.0; rows = h.value.0 }, h.value.1) ≡ (block, t) = same_ok (record { file = f.value.0; level = g.value.0; rows = h.value.0 }, h.value.1) (block, t) h.last in
    let both = and_parts (leb 1 h.value.0) (leb h.value.0 1048576) rows.holds_so in
    subst (λ (p : BlockRef × Stand). BlockMeans next_file seen s p.1 p.0) same
    (record {
      bytes = took_then (fixed32_bytes f.value.0 ++ g.value.0 ∷ []) (fixed32_bytes h.value.0) s g.value.1 h.value.1 (took_then (fixed32_bytes f.value.0) (g.value.0 ∷ []) s f.value.1 g.value.1 file.bytes level.field.bytes) rows.field.bytes;
      file = subst (λ (u : Stand). FileMeans next_file seen s u f.value.0) file.bytes.passed.place file;
      level = leb-true g.value.0 63 level.holds_so;
      some_rows = leb-true 1 h.value.0 both.0;
      rows = leb-true h.value.0 1048576 both.1;
    })

record BlocksMean (next_file : ℕ) (earlier : List ℕ) (done : List BlockRef) (count : ℕ) (s t : Stand) (all : List BlockRef) : Type 0 where
  more : List BlockRef
  is : all ≡ done ++ more
  size : length more ≡ count
  bytes : Took (flat_map block_bytes more) s t
  files : FilesFit next_file (earlier ++ block_files done) (block_files more)
  fit : BlocksFit more

blocks_mean : (next_file : ℕ) (earlier : List ℕ) (count : ℕ) (done : List BlockRef) (s t : Stand) (all : List BlockRef) → IsWithin s.whole s.at → blocks_at next_file earlier count done s ≡ Ok (all, t)
    → BlocksMean next_file earlier done count s t all
unfolding blocks_at
blocks_mean next_file earlier zero done s t all within is =
    subst (λ (p : List BlockRef × Stand). BlocksMean next_file earlier done 0 s p.1 p.0) (same_ok (done, s) (all, t) is)
    (record { more = []; is = sym (append-nil done); size = refl; bytes = took_none s within; files = tt; fit = tt })
blocks_mean next_file earlier (suc count) done s t all within is =
    let b = bound (block_at next_file (earlier ++ block_files done) s) (λ block. blocks_at next_file earlier count (done ++ block.0 ∷ []) block.1) (all, t) is in
    let block = b.value.0 in
    let one = block_means next_file (earlier ++ block_files done) s b.value.1 block within b.first in
    let rest = blocks_mean next_file earlier count (done ++ block ∷ []) b.value.1 t all one.bytes.within b.last in
    record {
      more = block ∷ rest.more;
      is = rest.is ∙ append_assoc done (block ∷ []) rest.more;
      size = ap suc rest.size;
      bytes = took_then (block_bytes block) (flat_map block_bytes rest.more) s b.value.1 t one.bytes rest.bytes;
      files = (
        one.file.low,
        one.file.high,
        one.file.fresh,
        subst (λ (l : List ℕ). FilesFit next_file l (block_files rest.more))
            (ap (λ (l : List ℕ). earlier ++ l) (map-append (λ (x : BlockRef). x.file) done (block ∷ [])) ∙ sym (append_assoc earlier (block_files done) (block.file ∷ []))) rest.files,
      );
      fit = ((one.level, (one.some_rows, one.rows)), rest.fit);
    }

-- ---- loose files

record LooseMean (next_file : ℕ) (earlier done : List ℕ) (count : ℕ) (s t : Stand) (all : List ℕ) : Type 0 where
  more : List ℕ
  is : all ≡ done ++ more
  size : length more ≡ count
  bytes : Took (flat_map fixed32_bytes more) s t
  files : FilesFit next_file (earlier ++ done) more

loose_mean : (next_file : ℕ) (earlier : List ℕ) (count : ℕ) (done : List ℕ) (s t : Stand) (all : List ℕ) → IsWithin s.whole s.at → loose_at next_file earlier count done s ≡ Ok (all, t)
    → LooseMean next_file earlier done count s t all
unfolding loose_at
loose_mean next_file earlier zero done s t all within is =
    subst (λ (p : List ℕ × Stand). LooseMean next_file earlier done 0 s p.1 p.0) (same_ok (done, s) (all, t) is)
    (record { more = []; is = sym (append-nil done); size = refl; bytes = took_none s within; files = tt })
loose_mean next_file earlier (suc count) done s t all within is =
    let b = bound (file_at next_file (earlier ++ done) s) (λ file. loose_at next_file earlier count (done ++ file.0 ∷ []) file.1) (all, t) is in
    let file = b.value.0 in
    let one = file_means next_file (earlier ++ done) s b.value.1 file within b.first in
    let rest = loose_mean next_file earlier count (done ++ file ∷ []) b.value.1 t all one.bytes.within b.last in
    record {
      more = file ∷ rest.more;
      is = rest.is ∙ append_assoc done (file ∷ []) rest.more;
      size = ap suc rest.size;
      bytes = took_then (fixed32_bytes file) (flat_map fixed32_bytes rest.more) s b.value.1 t one.bytes rest.bytes;
      files = (one.low, one.high, one.fresh, subst (λ (l : List ℕ). FilesFit next_file l rest.more) (sym (append_assoc earlier done (file ∷ []))) rest.files);
    }

-- ---- first numbers

firsts_above : (floor before low : ℕ) (firsts : List ℕ) → low ≤ before → FirstsFit floor (Some before) firsts → AllByRecursion (λ first. low ≤ first) firsts
firsts_above floor before low [] le fit = tt
firsts_above floor before low (first ∷ firsts) le fit =
    let here : before ≤ first = leb-true before first fit.1 in
    let step : low ≤ first = omega arith in
    (step, firsts_above floor first low firsts step fit.3)

firsts_order : (floor : ℕ) (before : Option ℕ) (firsts : List ℕ) → FirstsFit floor before firsts → IsNonDecreasing firsts
firsts_order floor before [] fit i j d le inside = absurd (omega arith)
firsts_order floor before (first ∷ firsts) fit zero zero d le inside = omega arith
firsts_order floor before (first ∷ firsts) fit zero (suc j) d le inside =
    All-from_recursion (λ other. first ≤ other) firsts (firsts_above floor first first firsts (omega arith) fit.3) j d (omega arith)
firsts_order floor before (first ∷ firsts) fit (suc i) zero d le inside = absurd (omega arith)
firsts_order floor before (first ∷ firsts) fit (suc i) (suc j) d le inside = firsts_order floor (Some first) firsts fit.3 i j d (omega arith) (omega arith)

firsts_small : (floor : ℕ) (before : Option ℕ) (firsts : List ℕ) → FirstsFit floor before firsts → AllByRecursion (λ first. first ≤ 4294967295) firsts
firsts_small floor before [] fit = tt
firsts_small floor before (first ∷ firsts) fit = (fit.0, firsts_small floor (Some first) firsts fit.3)

firsts_from : (floor : ℕ) (firsts : List ℕ) → 0 < length firsts → FirstsFit floor None firsts → get_or firsts 0 0 ≤ floor
firsts_from floor [] some fit = absurd (omega arith)
firsts_from floor (first ∷ firsts) some fit = leb-true first floor fit.1

firsts_to : (floor last : ℕ) (before : Option ℕ) (firsts : List ℕ) → last + 1 ≡ length firsts → FirstsFit floor before firsts → floor ≤ get_or firsts last 0
firsts_to floor last before [] is fit = absurd (omega arith)
firsts_to floor zero before (first ∷ []) is fit = leb-true floor first fit.2
firsts_to floor zero before (first ∷ other ∷ firsts) is fit = absurd (omega arith)
firsts_to floor (suc last) before (first ∷ firsts) is fit = firsts_to floor last (Some first) firsts (omega arith) fit.3

-- ---- the whole

record HeadMeans (slot : ℕ) (other : Option ℕ) (s t : Stand) (head : Head) : Type 0 where
  bytes : Took (magic ++ head.generation ∷ [] ++ fixed32_bytes head.next_file ++ fixed64_bytes head.floor ++ fixed32_bytes head.segments ++ fixed32_bytes head.blocks ++ fixed32_bytes head.loose) s t
  parity : head.generation % 2 ≡ slot
  neighbours : are_neighbours head.generation other ≡ true
  small : head.generation < 256
  files : head.next_file < 2 ^ 32
  some : 0 < head.segments

head_means : (slot : ℕ) (other : Option ℕ) (s t : Stand) (head : Head) → IsWithin s.whole s.at → head_at slot other s ≡ Ok (head, t) → HeadMeans slot other s t head
unfolding head_at tag_at generation_at count_at
head_means slot other s t head within is =
    let a = bound (tag_at s) (λ number. generation_at slot other number.1 >>= λ generation. read32 generation.1 >>= λ next_file. read64 next_file.1 >>= λ floor. count_at floor.1 >>= λ segments. read32 segments.1 >>= λ blocks. read32 blocks.1 >>= λ loose.
    Ok (record { generation = generation.0; next_file = next_file.0; floor = floor.0; segments = segments.0; blocks = blocks.0; loose = loose.0 }, loose.1)) (head, t) is in
    let b = bound (generation_at slot other a.value.1) (λ generation. read32 generation.1 >>= λ next_file. read64 next_file.1 >>= λ floor. count_at floor.1 >>= λ segments. read32 segments.1 >>= λ blocks. read32 blocks.1 >>= λ loose.
    Ok (record { generation = generation.0; next_file = next_file.0; floor = floor.0; segments = segments.0; blocks = blocks.0; loose = loose.0 }, loose.1)) (head, t) a.last in
    let c = bound (read32 b.value.1) (λ next_file. read64 next_file.1 >>= λ floor. count_at floor.1 >>= λ segments. read32 segments.1 >>= λ blocks. read32 blocks.1 >>= λ loose.
    Ok (record { generation = b.value.0; next_file = next_file.0; floor = floor.0; segments = segments.0; blocks = blocks.0; loose = loose.0 }, loose.1)) (head, t) b.last in
    let d = bound (read64 c.value.1) (λ floor. count_at floor.1 >>= λ segments. read32 segments.1 >>= λ blocks. read32 blocks.1 >>= λ loose.
    Ok (record { generation = b.value.0; next_file = c.value.0; floor = floor.0; segments = segments.0; blocks = blocks.0; loose = loose.0 }, loose.1)) (head, t) c.last in
    let e = bound (count_at d.value.1) (λ segments. read32 segments.1 >>= λ blocks. read32 blocks.1 >>= λ loose.
    Ok (record { generation = b.value.0; next_file = c.value.0; floor = d.value.0; segments = segments.0; blocks = blocks.0; loose = loose.0 }, loose.1)) (head, t) d.last in
    let f = bound (read32 e.value.1) (λ blocks. read32 blocks.1 >>= λ loose.
    Ok (record { generation = b.value.0; next_file = c.value.0; floor = d.value.0; segments = e.value.0; blocks = blocks.0; loose = loose.0 }, loose.1)) (head, t) e.last in
    let g = bound (read32 f.value.1) (λ loose.
    Ok (record { generation = b.value.0; next_file = c.value.0; floor = d.value.0; segments = e.value.0; blocks = f.value.0; loose = loose.0 }, loose.1)) (head, t) f.last in
    let same : (record { generation = b.value.0; next_file = c.value.0; floor = d.value.0; segments = e.value.0; blocks = f.value.0; loose = g.value.0 }, g.value.1) ≡ (head, t) =
    same_ok (record { generation = b.value.0; next_file = c.value.0; floor = d.value.0; segments = e.value.0; blocks = f.value.0; loose = g.value.0 }, g.value.1) (head, t) g.last in
    let ra = ruled32 s a.value.1 a.value.0 (λ number. eqb number tag) within a.first in
    let ta : Took magic s a.value.1 = subst (λ (n : ℕ). Took (fixed32_bytes n) s a.value.1) (eqb-true a.value.0 tag ra.holds_so) ra.field.bytes in
    let rb = ruled8 a.value.1 b.value.1 b.value.0 (λ generation. eqb (generation % 2) slot && are_neighbours generation other) ta.within b.first in
    let both = and_parts (eqb (b.value.0 % 2) slot) (are_neighbours b.value.0 other) rb.holds_so in
    let tb = took_then magic (b.value.0 ∷ []) s a.value.1 b.value.1 ta rb.field.bytes in
    let nc = took32 b.value.1 c.value.1 c.value.0 tb.within c.first in
    let tc = took_then (magic ++ b.value.0 ∷ []) (fixed32_bytes c.value.0) s b.value.1 c.value.1 tb nc.bytes in
    let td = took_then (magic ++ b.value.0 ∷ [] ++ fixed32_bytes c.value.0) (fixed64_bytes d.value.0) s c.value.1 d.value.1 tc (took64 c.value.1 d.value.1 d.value.0 tc.within d.first) in
    let re = ruled32 d.value.1 e.value.1 e.value.0 (λ count. ltb 0 count) td.within e.first in
    let te = took_then (magic ++ b.value.0 ∷ [] ++ fixed32_bytes c.value.0 ++ fixed64_bytes d.value.0) (fixed32_bytes e.value.0) s d.value.1 e.value.1 td re.field.bytes in
    let tf = took_then (magic ++ b.value.0 ∷ [] ++ fixed32_bytes c.value.0 ++ fixed64_bytes d.value.0 ++ fixed32_bytes e.value.0) (fixed32_bytes f.value.0) s e.value.1 f.value.1 te (took32 e.value.1 f.value.1 f.value.0 te.within f.first).bytes in
    let tg = took_then (magic ++ b.value.0 ∷ [] ++ fixed32_bytes c.value.0 ++ fixed64_bytes d.value.0 ++ fixed32_bytes e.value.0 ++ fixed32_bytes f.value.0) (fixed32_bytes g.value.0) s f.value.1 g.value.1 tf (took32 f.value.1 g.value.1 g.value.0 tf.within g.first).bytes in
    subst (λ (p : Head × Stand). HeadMeans slot other s p.1 p.0) same
    (record { bytes = tg; parity = eqb-true (b.value.0 % 2) slot both.0; neighbours = both.1; small = rb.field.small; files = nc.small; some = ltb-true 0 e.value.0 re.holds_so })

-- a list with its bytes and its rules
pub record ListMeans (slot : ℕ) (other : Option ℕ) (s t : Stand) (body : ListBody) : Type 0 where
  pub spelled : left s ≡ text_of body ++ left t
  pub parity : body.generation % 2 ≡ slot
  pub neighbours : are_neighbours body.generation other ≡ true
  pub rules : MeetsRules body

pub list_means : (slot : ℕ) (other : Option ℕ) (s t : Stand) (body : ListBody) → IsWithin s.whole s.at → list_body_at slot other s ≡ Ok (body, t) → ListMeans slot other s t body
unfolding list_body_at text_of head_bytes
list_means slot other s t body within is =
    let a = bound (head_at slot other s) (λ head. segments_at head.0.next_file head.0.floor head.0.segments None [] head.1 >>= λ segments. blocks_at head.0.next_file (segment_files segments.0) head.0.blocks [] segments.1 >>= λ blocks.
    loose_at head.0.next_file (segment_files segments.0 ++ block_files blocks.0) head.0.loose [] blocks.1 >>= λ loose.
    Ok (record { generation = head.0.generation; next_file = head.0.next_file; floor = head.0.floor; segments = segments.0; blocks = blocks.0; loose = loose.0 }, loose.1)) (body, t) is in
    let h = a.value.0 in
    let hm = head_means slot other s a.value.1 h within a.first in
    let b = bound (segments_at h.next_file h.floor h.segments None [] a.value.1) (λ segments. blocks_at h.next_file (segment_files segments.0) h.blocks [] segments.1 >>= λ blocks.
    loose_at h.next_file (segment_files segments.0 ++ block_files blocks.0) h.loose [] blocks.1 >>= λ loose.
    Ok (record { generation = h.generation; next_file = h.next_file; floor = h.floor; segments = segments.0; blocks = blocks.0; loose = loose.0 }, loose.1)) (body, t) a.last in
    let sm = segments_mean h.next_file h.floor h.segments None [] a.value.1 b.value.1 b.value.0 hm.bytes.within b.first in
    let c = bound (blocks_at h.next_file (segment_files b.value.0) h.blocks [] b.value.1) (λ blocks.
    loose_at h.next_file (segment_files b.value.0 ++ block_files blocks.0) h.loose [] blocks.1 >>= λ loose.
    Ok (record { generation = h.generation; next_file = h.next_file; floor = h.floor; segments = b.value.0; blocks = blocks.0; loose = loose.0 }, loose.1)) (body, t) b.last in
    let bm = blocks_mean h.next_file (segment_files b.value.0) h.blocks [] b.value.1 c.value.1 c.value.0 sm.bytes.within c.first in
    let d = bound (loose_at h.next_file (segment_files b.value.0 ++ block_files c.value.0) h.loose [] c.value.1) (λ loose.
    Ok (record { generation = h.generation; next_file = h.next_file; floor = h.floor; segments = b.value.0; blocks = c.value.0; loose = loose.0 }, loose.1)) (body, t) c.last in
    let lm = loose_mean h.next_file (segment_files b.value.0 ++ block_files c.value.0) h.loose [] c.value.1 d.value.1 d.value.0 bm.bytes.within d.first in
    let made : ListBody = record { generation = h.generation; next_file = h.next_file; floor = h.floor; segments = b.value.0; blocks = c.value.0; loose = d.value.0 } in
    let same : (made, d.value.1) ≡ (body, t) = same_ok (made, d.value.1) (body, t) d.last in
    let segments_is : b.value.0 ≡ sm.more = sm.is in
    let blocks_is : c.value.0 ≡ bm.more = bm.is in
    let loose_is : d.value.0 ≡ lm.more = lm.is in
    let n_segments : length b.value.0 ≡ h.segments = ap length segments_is ∙ sm.size in
    let n_blocks : length c.value.0 ≡ h.blocks = ap length blocks_is ∙ bm.size in
    let n_loose : length d.value.0 ≡ h.loose = ap length loose_is ∙ lm.size in
    let front : List ℕ = magic ++ h.generation ∷ [] ++ fixed32_bytes h.next_file ++ fixed64_bytes h.floor in
    let head_took : Took (front ++ fixed32_bytes (length b.value.0) ++ fixed32_bytes (length c.value.0) ++ fixed32_bytes (length d.value.0)) s a.value.1 =
    subst (λ (n : ℕ). Took (front ++ fixed32_bytes n ++ fixed32_bytes (length c.value.0) ++ fixed32_bytes (length d.value.0)) s a.value.1) (sym n_segments)
    (subst (λ (n : ℕ). Took (front ++ fixed32_bytes h.segments ++ fixed32_bytes n ++ fixed32_bytes (length d.value.0)) s a.value.1) (sym n_blocks)
    (subst (λ (n : ℕ). Took (front ++ fixed32_bytes h.segments ++ fixed32_bytes h.blocks ++ fixed32_bytes n) s a.value.1) (sym n_loose) hm.bytes)) in
    let st : Took (flat_map segment_bytes b.value.0) a.value.1 b.value.1 = subst (λ (l : List SegmentRef). Took (flat_map segment_bytes l) a.value.1 b.value.1) (sym segments_is) sm.bytes in
    let bt : Took (flat_map block_bytes c.value.0) b.value.1 c.value.1 = subst (λ (l : List BlockRef). Took (flat_map block_bytes l) b.value.1 c.value.1) (sym blocks_is) bm.bytes in
    let lt : Took (flat_map fixed32_bytes d.value.0) c.value.1 d.value.1 = subst (λ (l : List ℕ). Took (flat_map fixed32_bytes l) c.value.1 d.value.1) (sym loose_is) lm.bytes in
    let head_text : List ℕ = front ++ fixed32_bytes (length b.value.0) ++ fixed32_bytes (length c.value.0) ++ fixed32_bytes (length d.value.0) in
    let two = took_then head_text (flat_map segment_bytes b.value.0) s a.value.1 b.value.1 head_took st in
    let three = took_then (head_text ++ flat_map segment_bytes b.value.0) (flat_map block_bytes c.value.0) s b.value.1 c.value.1 two bt in
    let four = took_then (head_text ++ flat_map segment_bytes b.value.0 ++ flat_map block_bytes c.value.0) (flat_map fixed32_bytes d.value.0) s c.value.1 d.value.1 three lt in
    let sf : FilesFit h.next_file [] (segment_files b.value.0) = subst (λ (l : List SegmentRef). FilesFit h.next_file [] (segment_files l)) (sym segments_is) sm.files in
    let bf : FilesFit h.next_file (segment_files b.value.0) (block_files c.value.0) =
    subst (λ (l : List ℕ). FilesFit h.next_file l (block_files c.value.0)) (append-nil (segment_files b.value.0)) (subst (λ (l : List BlockRef). FilesFit h.next_file (segment_files b.value.0 ++ []) (block_files l)) (sym blocks_is) bm.files) in
    let lf : FilesFit h.next_file (segment_files b.value.0 ++ block_files c.value.0) d.value.0 =
    subst (λ (l : List ℕ). FilesFit h.next_file l d.value.0) (append-nil (segment_files b.value.0 ++ block_files c.value.0)) (subst (λ (l : List ℕ). FilesFit h.next_file ((segment_files b.value.0 ++ block_files c.value.0) ++ []) l) (sym loose_is) lm.files) in
    let all_files : FilesFit h.next_file [] (segment_files b.value.0 ++ block_files c.value.0 ++ d.value.0) =
    files_behind h.next_file [] (segment_files b.value.0 ++ block_files c.value.0) d.value.0 (files_behind h.next_file [] (segment_files b.value.0) (block_files c.value.0) sf bf) lf in
    let firsts : FirstsFit h.floor None (map (λ (segment : SegmentRef). segment.first) b.value.0) = subst (λ (l : List SegmentRef). FirstsFit h.floor None (map (λ (segment : SegmentRef). segment.first) l)) (sym segments_is) sm.firsts in
    let fs : List ℕ = map (λ (segment : SegmentRef). segment.first) b.value.0 in
    let n_firsts : length fs ≡ length b.value.0 = length-map b.value.0 (λ (segment : SegmentRef). segment.first) in
    let some : 0 < length b.value.0 = omega (arith, hm.some, n_segments) in
    let blocks_fit : BlocksFit c.value.0 = subst (λ (l : List BlockRef). BlocksFit l) (sym blocks_is) bm.fit in
    let each_block = All-from_recursion (λ (block : BlockRef). (block.level ≤ 63) × ((1 ≤ block.rows) × (block.rows ≤ 1048576))) c.value.0 blocks_fit in
    let rules : MeetsRules made = record {
      generation = hm.small;
      next_file = hm.files;
      some_segment = some;
      files = All-from_recursion (λ file. (2 ≤ file) × (file < h.next_file)) (segment_files b.value.0 ++ block_files c.value.0 ++ d.value.0) (files_in_range h.next_file [] (segment_files b.value.0 ++ block_files c.value.0 ++ d.value.0) all_files);
      once = (files_once h.next_file [] (segment_files b.value.0 ++ block_files c.value.0 ++ d.value.0) all_files).once;
      order = firsts_order h.floor None fs firsts;
      firsts = All-from_recursion (λ first. first ≤ 4294967295) fs (firsts_small h.floor None fs firsts);
      from_floor = firsts_from h.floor fs (omega (arith, some, n_firsts)) firsts;
      to_floor = firsts_to h.floor (length b.value.0 - 1) None fs (omega (arith, some, n_firsts)) firsts;
      levels = λ k block inside. (each_block k block inside).0;
      rows = λ k block inside. (each_block k block inside).1;
    } in
    subst (λ (p : ListBody × Stand). ListMeans slot other s p.1 p.0) same
    (record { spelled = four.passed.spelled; parity = hm.parity; neighbours = hm.neighbours; rules = rules })
