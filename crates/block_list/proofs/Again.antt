-- What is encoded in a slot is read there.
use Rattle.std.proofs.Common.{◌≡◌, ℕ, suc, ◌+◌, ◌^◌, ◌<◌, ◌≤◌, Bool, true, false, not, eqb, leb, ltb, ◌&&◌, ◌||◌, Option, Some, List, [], ◌∷◌, ◌++◌, length, get_or, map, Result, Ok, refl, sym, ◌∙◌, ap, subst, arith, append_assoc}
use Rattle.std.specs.Prelude.{nat_eq}
use Rattle.std.specs.List.{flat_map, list_any, IsDistinct, AllByRecursion}
use Rattle.std.specs.List.Sorted.{IsNonDecreasing}
use Rattle.std.proofs.lemmas.Bool.{eqb-false, ne_eqb, le-leb, lt-ltb}
use Rattle.std.proofs.lemmas.List.{length-map, map-append, append-nil}
use Rattle.std.proofs.lemmas.List.Folds.{list_any-append}
use Rattle.byte_fields.specs.Spelling.{fixed32_bytes, fixed64_bytes}
use Rattle.byte_fields.specs.Reading.{Stand, left, ahead, ◌>>=◌}
use Rattle.byte_fields.proofs.FieldLaws.{left-ahead, byte_again, fixed32_again, fixed64_again}
use Rattle.block_list.specs.Body.{segment_bytes, block_bytes}
use Rattle.block_list.specs.Reading.{ruled, read8, read32, read64, file_at, goes_on, first_number_at, segment_ref_at, segments_at, level_at, rows_at, block_at, blocks_at, loose_at}
use Rattle.block_list.proofs.ReadingLemmas.{segment_files, block_files}
use Rattle.block_list.proofs.Meaning.{FilesFit, FirstsFit, BlocksFit}
use Rattle.block_list.specs.declared.body.SegmentRef.{SegmentRef}
use Rattle.block_list.specs.declared.body.BlockRef.{BlockRef}

-- ---- steps

-- a value was read, and these bytes stand after it
pub record ReadsTo {A : Type 0} (read : Result (A × Stand) ℕ) (x : A) (rest : List ℕ) : Type 0 where
  pub stand : Stand
  pub is : read ≡ Ok (x, stand)
  pub leaves : left stand ≡ rest

pub then_read : {A B : Type 0} (read : Result (A × Stand) ℕ) (k : A × Stand → Result (B × Stand) ℕ) (x : A) (mid : List ℕ) (y : B) (rest : List ℕ) → ReadsTo read x mid → ((t : Stand) → left t ≡ mid → ReadsTo (k (x, t)) y rest) → ReadsTo (read >>= k) y rest
then_read read k x mid y rest r next =
    let n = next r.stand r.leaves in
    record { stand = n.stand; is = rw r.is n.is; leaves = n.leaves }

pub done_here : {A : Type 0} (x : A) (s : Stand) (rest : List ℕ) → left s ≡ rest → ReadsTo (Ok (x, s)) x rest
done_here x s rest e = record { stand = s; is = refl; leaves = e }

pub again8 : (s : Stand) (b : ℕ) (rest : List ℕ) → left s ≡ b ∷ rest → ReadsTo (read8 s) b rest
unfolding read8
again8 s b rest e = record { stand = ahead 1 s; is = rw (byte_again s b rest e) refl; leaves = left-ahead s (b ∷ []) rest e }

pub again32 : (s : Stand) (n : ℕ) (rest : List ℕ) → n < 2 ^ 32 → left s ≡ fixed32_bytes n ++ rest → ReadsTo (read32 s) n rest
unfolding read32
again32 s n rest small e = record { stand = ahead 4 s; is = rw (fixed32_again s n rest small e) refl; leaves = left-ahead s (fixed32_bytes n) rest e }

pub again64 : (s : Stand) (n : ℕ) (rest : List ℕ) → n < 2 ^ 64 → left s ≡ fixed64_bytes n ++ rest → ReadsTo (read64 s) n rest
unfolding read64
again64 s n rest small e = record { stand = ahead 8 s; is = rw (fixed64_again s n rest small e) refl; leaves = left-ahead s (fixed64_bytes n) rest e }

pub ruled_again : (holds : Bool) (at n : ℕ) (t : Stand) (rest : List ℕ) → holds ≡ true → left t ≡ rest → ReadsTo (ruled holds at (n, t)) n rest
ruled_again holds at n t rest so e = record { stand = t; is = rw so refl; leaves = e }

pub both_true : (a b : Bool) → a ≡ true → b ≡ true → (a && b) ≡ true
both_true a b p q = rw (p, q) refl

-- ---- files

file_again : (next_file : ℕ) (seen : List ℕ) (s : Stand) (file : ℕ) (rest : List ℕ) → next_file < 2 ^ 32 → 2 ≤ file → file < next_file → list_any (nat_eq file) seen ≡ false → left s ≡ fixed32_bytes file ++ rest
    → ReadsTo (file_at next_file seen s) file rest
unfolding file_at
file_again next_file seen s file rest small low high fresh e =
    then_read (read32 s) (λ file. ruled (leb 2 file.0 && ltb file.0 next_file && not (list_any (nat_eq file.0) seen)) s.at file) file rest file rest
    (again32 s file rest (omega arith) e)
    (λ t f. ruled_again (leb 2 file && ltb file next_file && not (list_any (nat_eq file) seen)) s.at file t rest
    (both_true (leb 2 file && ltb file next_file) (not (list_any (nat_eq file) seen)) (both_true (leb 2 file) (ltb file next_file) (le-leb 2 file low) (lt-ltb file next_file high)) (ap not fresh)) f)

apart_more : (seen : List ℕ) (file : ℕ) (files : List ℕ) → AllByRecursion (λ other. list_any (nat_eq other) seen ≡ false) files → AllByRecursion (λ other. nat_eq file other ≡ false) files
    → AllByRecursion (λ other. list_any (nat_eq other) (seen ++ file ∷ []) ≡ false) files
apart_more seen file [] all differs = tt
apart_more seen file (other ∷ files) all differs =
    let apart : nat_eq other file ≡ false = ne_eqb other file (λ same. eqb-false file other differs.0 (sym same)) in
    (list_any-append (nat_eq other) seen (file ∷ []) ∙ rw (all.0, apart) refl, apart_more seen file files all.1 differs.1)

pub none_before : (files : List ℕ) → AllByRecursion (λ other. list_any (nat_eq other) [] ≡ false) files
none_before [] = tt
none_before (file ∷ files) = (refl, none_before files)

pub files_fit : (next_file : ℕ) (seen files : List ℕ) → AllByRecursion (λ file. (2 ≤ file) × (file < next_file)) files → AllByRecursion (λ file. list_any (nat_eq file) seen ≡ false) files → IsDistinct nat_eq files → FilesFit next_file seen files
unfolding IsDistinct
files_fit next_file seen [] range apart once = tt
files_fit next_file seen (file ∷ files) range apart once =
    (range.0.0, range.0.1, apart.0, files_fit next_file (seen ++ file ∷ []) files range.1 (apart_more seen file files apart.1 once.0) once.1)

pub files_front : (next_file : ℕ) (seen a b : List ℕ) → FilesFit next_file seen (a ++ b) → FilesFit next_file seen a
files_front next_file seen [] b fit = tt
files_front next_file seen (file ∷ a) b fit = (fit.0, fit.1, fit.2, files_front next_file (seen ++ file ∷ []) a b fit.3)

pub files_back : (next_file : ℕ) (seen a b : List ℕ) → FilesFit next_file seen (a ++ b) → FilesFit next_file (seen ++ a) b
files_back next_file seen [] b fit = subst (λ (l : List ℕ). FilesFit next_file l b) (sym (append-nil seen)) fit
files_back next_file seen (file ∷ a) b fit = subst (λ (l : List ℕ). FilesFit next_file l b) (append_assoc seen (file ∷ []) a) (files_back next_file (seen ++ file ∷ []) a b fit.3)

-- ---- segments

pub firsts_fit : (floor : ℕ) (before : Option ℕ) (firsts : List ℕ) → AllByRecursion (λ first. first ≤ 4294967295) firsts → (0 < length firsts → goes_on floor before (get_or firsts 0 0) ≡ true) → IsNonDecreasing firsts
    → ((last : ℕ) → last + 1 ≡ length firsts → floor ≤ get_or firsts last 0) → FirstsFit floor before firsts
firsts_fit floor before [] small starts order to = tt
firsts_fit floor before (first ∷ []) small starts order to = (small.0, starts (omega arith), le-leb floor first (to 0 refl), tt)
firsts_fit floor before (first ∷ other ∷ firsts) small starts order to =
    let more : eqb (length (other ∷ firsts)) 0 ≡ false = ne_eqb (length (other ∷ firsts)) 0 (λ none. absurd (omega arith)) in (
      small.0,
      starts (omega arith),
      rw more refl,
      firsts_fit floor (Some first) (other ∷ firsts) small.1 (λ some. le-leb first other (order 0 1 0 (omega arith) (omega arith)))
          (λ i j d le inside. order (suc i) (suc j) d (omega arith) (omega arith)) (λ last is. to (suc last) (omega arith)),
    )

first_again : (floor : ℕ) (is_last : Bool) (before : Option ℕ) (s : Stand) (first : ℕ) (rest : List ℕ) → first ≤ 4294967295 → goes_on floor before first ≡ true → (not is_last || leb floor first) ≡ true → left s ≡ fixed64_bytes first ++ rest
    → ReadsTo (first_number_at floor is_last before s) first rest
unfolding first_number_at
first_again floor is_last before s first rest small goes last e =
    then_read (read64 s) (λ first. ruled (leb first.0 4294967295 && goes_on floor before first.0 && (not is_last || leb floor first.0)) s.at first) first rest first rest
    (again64 s first rest (omega arith) e)
    (λ t f. ruled_again (leb first 4294967295 && goes_on floor before first && (not is_last || leb floor first)) s.at first t rest
    (both_true (leb first 4294967295 && goes_on floor before first) (not is_last || leb floor first) (both_true (leb first 4294967295) (goes_on floor before first) (le-leb first 4294967295 small) goes) last) f)

segment_again : (next_file floor : ℕ) (is_last : Bool) (before : Option ℕ) (seen : List ℕ) (s : Stand) (segment : SegmentRef) (rest : List ℕ) → next_file < 2 ^ 32 → 2 ≤ segment.file → segment.file < next_file → list_any (nat_eq segment.file) seen ≡ false
    → segment.first ≤ 4294967295 → goes_on floor before segment.first ≡ true → (not is_last || leb floor segment.first) ≡ true → left s ≡ segment_bytes segment ++ rest → ReadsTo (segment_ref_at next_file floor is_last before seen s) segment rest
unfolding segment_ref_at segment_bytes
segment_again next_file floor is_last before seen s segment rest below low high fresh small goes last e =
    then_read (file_at next_file seen s) (λ file. first_number_at floor is_last before file.1 >>= λ first. Ok (record { file = file.0; first = first.0 }, first.1)) segment.file (fixed64_bytes segment.first ++ rest) segment rest
    (file_again next_file seen s segment.file (fixed64_bytes segment.first ++ rest) below low high fresh (e ∙ append_assoc (fixed32_bytes segment.file) (fixed64_bytes segment.first) rest))
    (λ t f. then_read (first_number_at floor is_last before t) (λ first. Ok (record { file = segment.file; first = first.0 }, first.1)) segment.first rest segment rest (first_again floor is_last before t segment.first rest small goes last f) (λ u g. done_here segment u rest g))

pub segments_again : (next_file floor : ℕ) (more : List SegmentRef) (before : Option ℕ) (done : List SegmentRef) (s : Stand) (rest : List ℕ) → next_file < 2 ^ 32 → FilesFit next_file (segment_files done) (segment_files more)
    → FirstsFit floor before (map (λ (segment : SegmentRef). segment.first) more) → left s ≡ flat_map segment_bytes more ++ rest → ReadsTo (segments_at next_file floor (length more) before done s) (done ++ more) rest
unfolding segments_at
segments_again next_file floor [] before done s rest below files firsts e = record { stand = s; is = rw (append-nil done) refl; leaves = e }
segments_again next_file floor (segment ∷ more) before done s rest below files firsts e =
    let size : length (map (λ (x : SegmentRef). x.first) more) ≡ length more = length-map more (λ (x : SegmentRef). x.first) in
    then_read (segment_ref_at next_file floor (eqb (length more) 0) before (segment_files done) s) (λ x. segments_at next_file floor (length more) (Some x.0.first) (done ++ x.0 ∷ []) x.1) segment (flat_map segment_bytes more ++ rest) (done ++ segment ∷ more) rest
    (segment_again next_file floor (eqb (length more) 0) before (segment_files done) s segment (flat_map segment_bytes more ++ rest) below files.0 files.1 files.2 firsts.0 firsts.1
    (subst (λ (n : ℕ). (not (eqb n 0) || leb floor segment.first) ≡ true) size firsts.2) (e ∙ append_assoc (segment_bytes segment) (flat_map segment_bytes more) rest))
    (λ t f. subst (λ (l : List SegmentRef). ReadsTo (segments_at next_file floor (length more) (Some segment.first) (done ++ segment ∷ []) t) l rest) (append_assoc done (segment ∷ []) more)
    (segments_again next_file floor more (Some segment.first) (done ++ segment ∷ []) t rest below
    (subst (λ (l : List ℕ). FilesFit next_file l (segment_files more)) (sym (map-append (λ (x : SegmentRef). x.file) done (segment ∷ []))) files.3) firsts.3 f))

-- ---- blocks

level_again : (s : Stand) (level : ℕ) (rest : List ℕ) → level ≤ 63 → left s ≡ level ∷ rest → ReadsTo (level_at s) level rest
unfolding level_at
level_again s level rest small e =
    then_read (read8 s) (λ level. ruled (leb level.0 63) s.at level) level rest level rest (again8 s level rest e) (λ t f. ruled_again (leb level 63) s.at level t rest (le-leb level 63 small) f)

rows_again : (s : Stand) (rows : ℕ) (rest : List ℕ) → 1 ≤ rows → rows ≤ 1048576 → left s ≡ fixed32_bytes rows ++ rest → ReadsTo (rows_at s) rows rest
unfolding rows_at
rows_again s rows rest some small e =
    then_read (read32 s) (λ rows. ruled (leb 1 rows.0 && leb rows.0 1048576) s.at rows) rows rest rows rest (again32 s rows rest (omega arith) e)
    (λ t f. ruled_again (leb 1 rows && leb rows 1048576) s.at rows t rest (both_true (leb 1 rows) (leb rows 1048576) (le-leb 1 rows some) (le-leb rows 1048576 small)) f)

block_again : (next_file : ℕ) (seen : List ℕ) (s : Stand) (block : BlockRef) (rest : List ℕ) → next_file < 2 ^ 32 → 2 ≤ block.file → block.file < next_file → list_any (nat_eq block.file) seen ≡ false
    → (block.level ≤ 63) × ((1 ≤ block.rows) × (block.rows ≤ 1048576)) → left s ≡ block_bytes block ++ rest → ReadsTo (block_at next_file seen s) block rest
unfolding block_at block_bytes
block_again next_file seen s block rest below low high fresh fits e =
    let grouped : left s ≡ fixed32_bytes block.file ++ (block.level ∷ (fixed32_bytes block.rows ++ rest)) =
    e ∙ append_assoc (fixed32_bytes block.file ++ block.level ∷ []) (fixed32_bytes block.rows) rest ∙ append_assoc (fixed32_bytes block.file) (block.level ∷ []) (fixed32_bytes block.rows ++ rest) in
    then_read (file_at next_file seen s) (λ file. level_at file.1 >>= λ level. rows_at level.1 >>= λ rows. Ok (record { file = file.0; level = level.0; rows = rows.0 }, rows.1)) block.file (block.level ∷ (fixed32_bytes block.rows ++ rest)) block rest
    (file_again next_file seen s block.file (block.level ∷ (fixed32_bytes block.rows ++ rest)) below low high fresh grouped)
    (λ t f. then_read (level_at t) (λ level. rows_at level.1 >>= λ rows. Ok (record { file = block.file; level = level.0; rows = rows.0 }, rows.1)) block.level (fixed32_bytes block.rows ++ rest) block rest
    (level_again t block.level (fixed32_bytes block.rows ++ rest) fits.0 f)
    (λ u g. then_read (rows_at u) (λ rows. Ok (record { file = block.file; level = block.level; rows = rows.0 }, rows.1)) block.rows rest block rest (rows_again u block.rows rest fits.1.0 fits.1.1 g) (λ v h. done_here block v rest h)))

pub blocks_again : (next_file : ℕ) (earlier : List ℕ) (more done : List BlockRef) (s : Stand) (rest : List ℕ) → next_file < 2 ^ 32 → FilesFit next_file (earlier ++ block_files done) (block_files more) → BlocksFit more
    → left s ≡ flat_map block_bytes more ++ rest → ReadsTo (blocks_at next_file earlier (length more) done s) (done ++ more) rest
unfolding blocks_at
blocks_again next_file earlier [] done s rest below files fit e = record { stand = s; is = rw (append-nil done) refl; leaves = e }
blocks_again next_file earlier (block ∷ more) done s rest below files fit e =
    then_read (block_at next_file (earlier ++ block_files done) s) (λ x. blocks_at next_file earlier (length more) (done ++ x.0 ∷ []) x.1) block (flat_map block_bytes more ++ rest) (done ++ block ∷ more) rest
    (block_again next_file (earlier ++ block_files done) s block (flat_map block_bytes more ++ rest) below files.0 files.1 files.2 fit.0 (e ∙ append_assoc (block_bytes block) (flat_map block_bytes more) rest))
    (λ t f. subst (λ (l : List BlockRef). ReadsTo (blocks_at next_file earlier (length more) (done ++ block ∷ []) t) l rest) (append_assoc done (block ∷ []) more)
    (blocks_again next_file earlier more (done ++ block ∷ []) t rest below
    (subst (λ (l : List ℕ). FilesFit next_file l (block_files more))
    (append_assoc earlier (block_files done) (block.file ∷ []) ∙ ap (λ (l : List ℕ). earlier ++ l) (sym (map-append (λ (x : BlockRef). x.file) done (block ∷ [])))) files.3) fit.1 f))

-- ---- loose files

pub loose_again : (next_file : ℕ) (earlier more done : List ℕ) (s : Stand) (rest : List ℕ) → next_file < 2 ^ 32 → FilesFit next_file (earlier ++ done) more → left s ≡ flat_map fixed32_bytes more ++ rest
    → ReadsTo (loose_at next_file earlier (length more) done s) (done ++ more) rest
unfolding loose_at
loose_again next_file earlier [] done s rest below files e = record { stand = s; is = rw (append-nil done) refl; leaves = e }
loose_again next_file earlier (file ∷ more) done s rest below files e =
    then_read (file_at next_file (earlier ++ done) s) (λ x. loose_at next_file earlier (length more) (done ++ x.0 ∷ []) x.1) file (flat_map fixed32_bytes more ++ rest) (done ++ file ∷ more) rest
    (file_again next_file (earlier ++ done) s file (flat_map fixed32_bytes more ++ rest) below files.0 files.1 files.2 (e ∙ append_assoc (fixed32_bytes file) (flat_map fixed32_bytes more) rest))
    (λ t f. subst (λ (l : List ℕ). ReadsTo (loose_at next_file earlier (length more) (done ++ file ∷ []) t) l rest) (append_assoc done (file ∷ []) more)
    (loose_again next_file earlier more (done ++ file ∷ []) t rest below (subst (λ (l : List ℕ). FilesFit next_file l more) (append_assoc earlier done (file ∷ [])) files.3) f))
