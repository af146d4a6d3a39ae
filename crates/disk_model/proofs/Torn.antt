-- What a crash may leave after a change comes from what it might have left before.
use Rattle.std.proofs.Common.{◌≡◌, ◌⊎◌, inl, inr, ℕ, ◌+◌, ◌<◌, ◌≤◌, min, max, Bool, true, false, cond, leb, ltb, ◌&&◌, ◌||◌, List, [], ◌∷◌, ◌++◌, length, get_or, map, refl, sym, ◌∙◌, ap, subst, arith}
use Rattle.std.specs.List.{list_any, range_with_len}
use Rattle.std.proofs.lemmas.Bool.{cases_eq, cases_Bool, eq-eqb, ne_eqb, lt-leb, le-ltb}
use Rattle.std.proofs.lemmas.List.{ext_get_or}
use Rattle.std.proofs.lemmas.List.FromFn.{length-map-range_with_len, get_or-map-range_with_len}
use Rattle.std.proofs.lemmas.List.Folds.{list_any-append}
use Rattle.disk_model.specs.Images.{Image, bytes_of, OnFile}
use Rattle.disk_model.specs.Bytes.{reach, Torn, HalfCut}
use Rattle.disk_model.specs.Crash.{Reached}
use Rattle.disk_model.specs.Files.{FileState, MayBeLeft, frees, is_free, settled}
use Rattle.disk_model.specs.History.{Files, state_of, updated, IsLeft}
use Rattle.disk_model.specs.Files.{IsSound}
use Rattle.disk_model.specs.HistoryLaws.{state_of-updated}
use Rattle.disk_model.specs.declared.change.Pending.{Pending}
use Rattle.disk_model.specs.declared.change.Pending.TheVariants.{Written, Shortened}

-- a content that the file may be left with, as like the given one as can be: its bytes where they are free
abbrev alike : FileState → List ℕ → ℕ → List ℕ
alike file given len = map (λ offset. cond (is_free file offset) (get_or given offset 0) (get_or file.synced offset 0)) (range_with_len 0 len)

length-alike : (file : FileState) (given : List ℕ) (len : ℕ) → length (alike file given len) ≡ len
length-alike file given len = length-map-range_with_len (λ offset. cond (is_free file offset) (get_or given offset 0) (get_or file.synced offset 0)) 0 len

get_or-alike : (file : FileState) (given : List ℕ) (len offset : ℕ) → offset < len → get_or (alike file given len) offset 0 ≡ cond (is_free file offset) (get_or given offset 0) (get_or file.synced offset 0)
get_or-alike file given len offset inside = get_or-map-range_with_len (λ offset. cond (is_free file offset) (get_or given offset 0) (get_or file.synced offset 0)) 0 len offset offset 0 inside (omega arith)

alike_may_be_left : (file : FileState) (given : List ℕ) (len : ℕ) → file.least ≤ len → len ≤ file.greatest → MayBeLeft file (alike file given len)
alike_may_be_left file given len low high = record {
  no_shorter = omega (arith, low, length-alike file given len);
  no_longer = omega (arith, high, length-alike file given len);
  same = λ offset inside kept.
      get_or-alike file given len offset (omega (arith, inside, length-alike file given len))
      ∙ ap (λ (b : Bool). cond b (get_or given offset 0) (get_or file.synced offset 0)) kept;
}

-- where the given content may be left after one change more that leaves this offset alone, the two agree there
alike_same : (file : FileState) (change : Pending) (given : List ℕ) (len offset : ℕ) → offset < len → frees offset change ≡ false
    → ((leb (length file.synced) offset || list_any (frees offset) (file.pending ++ change ∷ [])) ≡ false → get_or given offset 0 ≡ get_or file.synced offset 0)
    → get_or given offset 0 ≡ get_or (alike file given len) offset 0
alike_same file change given len offset inside kept same = elim (cases_Bool (is_free file offset)) [
  | inl free ↦ sym (get_or-alike file given len offset inside ∙ ap (λ (b : Bool). cond b (get_or given offset 0) (get_or file.synced offset 0)) free)
  | inr certain ↦
      same (ap (λ (b : Bool). leb (length file.synced) offset || b) (list_any-append (frees offset) file.pending (change ∷ [])) ∙ joined (leb (length file.synced) offset) (list_any (frees offset) file.pending) (frees offset change) certain kept)
      ∙ sym (get_or-alike file given len offset inside ∙ ap (λ (b : Bool). cond b (get_or given offset 0) (get_or file.synced offset 0)) certain)
]
  where
    joined : (a b c : Bool) → (a || b) ≡ false → c ≡ false → (a || (b || (c || false))) ≡ false
    joined true b c e f = absurd (cc)
    joined false true c e f = absurd (cc)
    joined false false true e f = absurd (cc)
    joined false false false e f = refl

outside_is_kept : (at len offset : ℕ) → (offset < at) ⊎ (at + len ≤ offset) → frees offset (Written at len) ≡ false
outside_is_kept at len offset (inl before) = ap (λ (b : Bool). b && ltb offset (at + len)) (lt-leb at offset before)
outside_is_kept at len offset (inr behind) = elim (leb at offset) as (λ b. (b && ltb offset (at + len)) ≡ false) [ true ↦ le-ltb offset (at + len) behind | false ↦ refl ]

-- a write that is done or lost
pub torn_from : (at len greatest : ℕ) (held given : List ℕ) (file : FileState) → IsSound file
    → greatest ≤ max file.greatest (reach at len)
    → MayBeLeft (record { synced = file.synced; held = held; pending = file.pending ++ Written at len ∷ []; least = file.least; greatest = greatest }) given
    → (origin : List ℕ) × MayBeLeft file origin × Torn at len origin given
torn_from at len greatest held given file sound most left =
    let size = min (length given) file.greatest in
    let long = length-alike file given size in (
      alike file given size,
      alike_may_be_left file given size (omega (arith, left.no_shorter, sound.stays.no_shorter, sound.stays.no_longer)) (omega arith),
      record {
        no_shorter = omega (arith, long);
        no_longer = omega (arith, long, left.no_longer, most);
        same = λ offset inside outside.
            alike_same file (Written at len) given size offset (omega (arith, inside, long)) (outside_is_kept at len offset outside) (left.same offset (omega (arith, inside, long)));
      },
    )

-- a cut that is done or lost
pub cut_from : (len : ℕ) (held given : List ℕ) (file : FileState) → IsSound file
    → MayBeLeft (record { synced = file.synced; held = held; pending = file.pending ++ Shortened len ∷ []; least = min file.least len; greatest = max file.greatest len }) given
    → (origin : List ℕ) × MayBeLeft file origin × HalfCut len origin given
cut_from len held given file sound left =
    let size = max file.least (min (length given) file.greatest) in
    let long = length-alike file given size in
    let order : file.least ≤ file.greatest = omega (arith, sound.stays.no_shorter, sound.stays.no_longer) in (
      alike file given size,
      alike_may_be_left file given size (omega arith) (omega (arith, order)),
      record {
        no_shorter = omega (arith, long, left.no_shorter, order);
        no_longer = omega (arith, long, left.no_longer, order);
        same = λ offset below was is.
            alike_same file (Shortened len) given size offset (omega (arith, was, long)) (lt-leb len offset below) (left.same offset is);
      },
    )

-- after a sync there is one content
pub only_settled : (held given : List ℕ) → MayBeLeft (settled held) given → given ≡ held
only_settled held given left =
    let same_length : length given ≡ length held = omega (arith, left.no_shorter, left.no_longer) in
    ext_get_or 0 given held same_length
    (λ offset inside. left.same offset inside (ap (λ (b : Bool). b || false) (lt-leb (length held) offset (omega (arith, inside, same_length)))))

-- one file changes, and the image comes from one that might have been left before
pub reached : (files : Files) (file : ℕ) (change : FileState → FileState) (step : List ℕ → List ℕ → Type 0)
    → ((given : List ℕ) → MayBeLeft (change (state_of files file)) given → (origin : List ℕ) × MayBeLeft (state_of files file) origin × step origin given)
    → (image : Image) → IsLeft (updated file change files) image → Reached (OnFile file step) (IsLeft files) image
reached files file change step from image left =
    let here : MayBeLeft (change (state_of files file)) (bytes_of image file) =
    subst (λ (s : FileState). MayBeLeft s (bytes_of image file)) (state_of-updated files file change file ∙ ap (λ (b : Bool). cond b (change (state_of files file)) (state_of files file)) (eq-eqb file file refl)) (left file) in
    let origin = from (bytes_of image file) here in
    let at_file : bytes_of ((file, origin.0) ∷ image) file ≡ origin.0 = ap (λ (b : Bool). cond b origin.0 (bytes_of image file)) (eq-eqb file file refl) in (
      (file, origin.0) ∷ image,
      (λ other. elim (cases_eq file other) [
        | inl same ↦
            subst (λ (n : ℕ). MayBeLeft (state_of files n) (bytes_of ((file, origin.0) ∷ image) n)) same
            (subst (λ (b : List ℕ). MayBeLeft (state_of files file) b) (sym at_file) origin.1)
        | inr differs ↦
            subst (λ (b : List ℕ). MayBeLeft (state_of files other) b) (sym (ap (λ (b : Bool). cond b origin.0 (bytes_of image other)) (ne_eqb file other differs)))
            (subst (λ (s : FileState). MayBeLeft s (bytes_of image other)) (state_of-updated files file change other ∙ ap (λ (b : Bool). cond b (change (state_of files file)) (state_of files other)) (ne_eqb file other differs)) (left other))
      ]),
      record {
        besides = λ other differs. sym (ap (λ (b : Bool). cond b origin.0 (bytes_of image other)) (ne_eqb file other (λ e. differs (sym e))));
        changed = subst (λ (b : List ℕ). step b (bytes_of image file)) (sym at_file) origin.2;
      },
    )
