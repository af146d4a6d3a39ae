-- The images that a disk in memory gives.
use Rattle.std.proofs.Common.{◌≡◌, inl, inr, ℕ, ◌+◌, ◌-◌, ◌/◌, ◌%◌, ◌<◌, ◌≤◌, Bool, true, false, cond, eqb, leb, ◌||◌, List, [], ◌∷◌, ◌++◌, length, get_or, refl, sym, ◌∙◌, ap, arith}
use Rattle.std.proofs.lemmas.Bool.{cases_eq, eq-eqb, ne_eqb, leb-false}
use Rattle.std.proofs.lemmas.Nat.{mod_below}
use Rattle.std.proofs.lemmas.List.FromFn.{map-range_with_len_more, length-map-range_with_len, get_or-map-range_with_len}
use Rattle.disk_model.specs.Images.{Image, bytes_of}
use Rattle.disk_model.specs.Files.{FileState, IsSound, MayBeLeft, is_free, settled}
use Rattle.disk_model.specs.History.{Files, state_of, unchanged, held_now}
use Rattle.disk_model.specs.HistoryLaws.{bytes_of-held}
use Rattle.disk_model.specs.Picks.{filled, byte_of, mixed_length, picked_length, picked, picked_image, seed_of}

-- one byte more
pub filled_more : (file : FileState) (byte : ℕ → ℕ) (len : ℕ) → filled file byte (len + 1) ≡ filled file byte len ++ cond (is_free file len) (byte len) (get_or file.synced len 0) ∷ []
filled_more file byte len = map-range_with_len_more (λ offset. cond (is_free file offset) (byte offset) (get_or file.synced offset 0)) 0 len len (omega arith)

-- it is one of the contents that may be left
filled_left : (file : FileState) (byte : ℕ → ℕ) (len : ℕ) → file.least ≤ len → len ≤ file.greatest → MayBeLeft file (filled file byte len)
filled_left file byte len low high =
    let f : ℕ → ℕ = λ offset. cond (is_free file offset) (byte offset) (get_or file.synced offset 0) in
    let long : length (filled file byte len) ≡ len = length-map-range_with_len f 0 len in
    record {
      no_shorter = omega (arith, low, long);
      no_longer = omega (arith, high, long);
      same = λ offset inside kept. get_or-map-range_with_len f 0 len offset offset 0 (omega (arith, inside, long)) (omega arith) ∙ ap (λ (b : Bool). cond b (byte offset) (get_or file.synced offset 0)) kept;
    }

-- a length from the least to the greatest
abbrev Between : ℕ → ℕ → ℕ → Type 0
Between low high len = (low ≤ len) × (len ≤ high)

mixed_between : (least greatest seed : ℕ) → least ≤ greatest → Between least greatest (mixed_length least greatest seed)
mixed_between least greatest seed order = by (leb greatest least) (leb-false greatest least) (eqb (seed % 4) 0) (eqb (seed % 4) 3)
  where
    by : (a : Bool) → (a ≡ false → least < greatest) → (b c : Bool) → Between least greatest (cond (a || b) least (cond c (least + seed / 4 % (greatest - least)) greatest))
    by true less b c = (omega arith, order)
    by false less true c = (omega arith, order)
    by false less false true = let below = mod_below (seed / 4) (greatest - least) (omega (arith, less refl)) in (omega arith, omega (arith, below))
    by false less false false = (order, omega arith)

picked_between : (pick least greatest seed : ℕ) → least ≤ greatest → Between least greatest (picked_length pick least greatest seed)
picked_between pick least greatest seed order = by (eqb pick 2) (eqb pick 3)
  where
    by : (a b : Bool) → Between least greatest (cond a greatest (cond b least (mixed_length least greatest seed)))
    by true b = (order, omega arith)
    by false true = (omega arith, order)
    by false false = mixed_between least greatest seed order

-- what a pick gives of a file may be left of it
pub picked_left : (pick number : ℕ) (file : FileState) → IsSound file → MayBeLeft file (picked pick number file)
picked_left pick number file sound = by (eqb pick 0) (eqb pick 1)
  where
    len : ℕ
    len = picked_length pick file.least file.greatest (seed_of pick number)

    by : (a b : Bool) → MayBeLeft file (cond a file.synced (cond b file.held (filled file (byte_of pick (seed_of pick number) file) len)))
    by true b = sound.returns
    by false true = sound.stays
    by false false =
        let between = picked_between pick file.least file.greatest (seed_of pick number) (omega (arith, sound.stays.no_shorter, sound.stays.no_longer)) in
        filled_left file (byte_of pick (seed_of pick number) file) len between.0 between.1

-- nothing is given of a file that isn't there
picked_empty : (pick number : ℕ) → picked pick number (settled []) ≡ []
picked_empty pick number = by (eqb pick 0) (eqb pick 1) (eqb pick 2) (eqb pick 3)
  where
    by : (a b c d : Bool) → (let e : List ℕ = [] in cond a e (cond b e (filled (settled e) (byte_of pick (seed_of pick number) (settled e)) (cond c 0 (cond d 0 (mixed_length 0 0 (seed_of pick number)))))) ≡ e)
    by true b c d = refl
    by false true c d = refl
    by false false true d = refl
    by false false false true = refl
    by false false false false = refl

-- what a pick gives of a file among the files
pub picked_of : (pick : ℕ) (files : Files) (file : ℕ) → bytes_of (picked_image pick files) file ≡ picked pick file (state_of files file)
picked_of pick [] file = sym (picked_empty pick file)
picked_of pick (entry ∷ files) file = elim (cases_eq entry.0 file) [
  | inl here ↦
      ap (λ (b : Bool). cond b (picked pick entry.0 entry.1) (bytes_of (picked_image pick files) file)) (eq-eqb entry.0 file here)
      ∙ ap (λ (n : ℕ). picked pick n entry.1) here
      ∙ ap (λ (b : Bool). picked pick file (cond b entry.1 (state_of files file))) (sym (eq-eqb entry.0 file here))
  | inr other ↦
      ap (λ (b : Bool). cond b (picked pick entry.0 entry.1) (bytes_of (picked_image pick files) file)) (ne_eqb entry.0 file other)
      ∙ picked_of pick files file
      ∙ ap (λ (b : Bool). picked pick file (cond b entry.1 (state_of files file))) (sym (ne_eqb entry.0 file other))
]

-- an image of its own holds that image
pub state_of-unchanged : (image : Image) (file : ℕ) → state_of (unchanged image) file ≡ settled (bytes_of image file)
state_of-unchanged [] file = refl
state_of-unchanged (entry ∷ image) file = chosen (eqb entry.0 file) (state_of-unchanged image file)
  where
    chosen : (b : Bool) → state_of (unchanged image) file ≡ settled (bytes_of image file) → cond b (settled entry.1) (state_of (unchanged image) file) ≡ settled (cond b entry.1 (bytes_of image file))
    chosen true rest = refl
    chosen false rest = rest

pub held_first : (image : Image) (file : ℕ) → bytes_of (held_now (record { first = image; changes = [] })) file ≡ bytes_of image file
held_first image file = bytes_of-held (unchanged image) file ∙ ap (λ (s : FileState). s.held) (state_of-unchanged image file)

unchanged_append : (image : Image) (entry : ℕ × List ℕ) → unchanged (image ++ entry ∷ []) ≡ unchanged image ++ (entry.0, settled entry.1) ∷ []
unchanged_append [] entry = refl
unchanged_append (first ∷ image) entry = ap (λ (files : Files). (first.0, settled first.1) ∷ files) (unchanged_append image entry)

-- one file more that holds what was picked
pub held_more : (image : Image) (held : Files) (number : ℕ) (bytes : List ℕ) → held ≡ unchanged image → held ++ (number, settled bytes) ∷ [] ≡ unchanged (image ++ (number, bytes) ∷ [])
held_more image held number bytes same = ap (λ (files : Files). files ++ (number, settled bytes) ∷ []) same ∙ sym (unchanged_append image (number, bytes))
