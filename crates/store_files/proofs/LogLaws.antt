-- A log stands for one list of batches, and then it doesn't break.
use Rattle.std.proofs.Common.{◌≡◌, ℕ, ◌+◌, List, [], ◌∷◌, ◌++◌, length, Ok, Err, refl, sym, ◌∙◌, ap, subst, arith}
use Rattle.span_types.specs.declared.spans.Span.{Span}
use Rattle.disk_model.specs.Images.{Image, bytes_of}
use Rattle.head_log.specs.Entries.{entries}
use Rattle.head_log.specs.Scanning.{segment_at}
use Rattle.head_log.specs.Stands.{SegmentHolds, SegmentKeeps}
use Rattle.head_log.proofs.AgainRecords.{segment_again, one_list}
use Rattle.block_list.specs.declared.body.SegmentRef.{SegmentRef}
use Rattle.store_images.specs.Log.{LogHolds}
use Rattle.store_images.specs.Log.LogHolds.{ended, goes_on}
use Rattle.store_files.specs.LogReading.{SegmentBreaks, LogBreaks}
use Rattle.store_files.specs.LogReading.SegmentBreaks.{malformed, astray}

-- the first segment of a log, and the others
record IsFirst (image : Image) (x : SegmentRef) (rest : List SegmentRef) (first : ℕ) (batches : List (List Span)) : Type 0 where
  mine : List (List Span)
  later : List (List Span)
  all : batches ≡ mine ++ later
  number : x.first ≡ first
  keeps : SegmentKeeps first mine (bytes_of image x.file)
  more : LogHolds image rest (first + length mine) later

first_of : (image : Image) (x : SegmentRef) (rest : List SegmentRef) (first : ℕ) (batches : List (List Span)) → LogHolds image (x ∷ rest) first batches → IsFirst image x rest first batches
first_of image _ _ _ _ (goes_on {number} {segments} {rest} file mine keeps more) = record { mine = mine; later = rest; all = refl; number = refl; keeps = keeps; more = more }

none_left : (image : Image) (first : ℕ) (batches : List (List Span)) → LogHolds image [] first batches → batches ≡ []
none_left image _ _ ended = refl

pub one_log : (image : Image) (segments : List SegmentRef) (first : ℕ) (a b : List (List Span)) → LogHolds image segments first a → LogHolds image segments first b → a ≡ b
one_log image [] first a b one other = none_left image first a one ∙ sym (none_left image first b other)
one_log image (x ∷ rest) first a b one other =
    let f = first_of image x rest first a one in
    let s = first_of image x rest first b other in
    let mine : f.mine ≡ s.mine = (one_list first f.keeps.0 s.keeps.0 f.mine s.mine (bytes_of image x.file) f.keeps.1 s.keeps.1).0 in
    f.all ∙ ap (λ (m : List (List Span)). m ++ f.later) mine
    ∙ ap (λ (l : List (List Span)). s.mine ++ l) (one_log image rest (first + length s.mine) f.later s.later (subst (λ (m : List (List Span)). LogHolds image rest (first + length m) f.later) mine f.more) s.more)
    ∙ sym s.all

module _ (image : Image) where
  here_holds : (ref : SegmentRef) (behind : List SegmentRef) (first : ℕ) (batches : List (List Span)) (at : ℕ) → LogHolds image (ref ∷ behind) first batches → SegmentBreaks ref behind (bytes_of image ref.file) at → ⊥
  here_holds ref behind first batches at holds (malformed breaks) =
      let f = first_of image ref behind first batches holds in
      let read : segment_at ref.first (bytes_of image ref.file) ≡ Ok (entries first f.mine, record { whole = bytes_of image ref.file; at = f.keeps.0 }) =
      ap (λ (n : ℕ). segment_at n (bytes_of image ref.file)) f.number ∙ segment_again first f.mine f.keeps.0 (bytes_of image ref.file) f.keeps.1 in
      let bad : Err at ≡ Ok (entries first f.mine, record { whole = bytes_of image ref.file; at = f.keeps.0 }) = sym breaks ∙ read in
      absurd cc
  here_holds ref behind first batches at holds (astray mine next rest stands is apart) =
      let f = first_of image ref behind first batches holds in
      let same : mine ≡ f.mine = (one_list first at f.keeps.0 mine f.mine (bytes_of image ref.file) (subst (λ (n : ℕ). SegmentHolds n mine at (bytes_of image ref.file)) f.number stands) f.keeps.1).0 in
      let s = first_of image next rest (first + length f.mine) f.later (subst (λ (l : List SegmentRef). LogHolds image l (first + length f.mine) f.later) is f.more) in
      let size = ap length same in
      apart (omega (arith, s.number, size, f.number))

  behind_holds : (front : List SegmentRef) (ref : SegmentRef) (behind : List SegmentRef) (first : ℕ) (batches before : List (List Span)) (at : ℕ) → LogHolds image (front ++ ref ∷ behind) first batches
      → LogHolds image front first before → SegmentBreaks ref behind (bytes_of image ref.file) at → ⊥
  behind_holds [] ref behind first batches before at holds whole breaks = here_holds ref behind first batches at holds breaks
  behind_holds (x ∷ front) ref behind first batches before at holds whole breaks =
      let f = first_of image x (front ++ ref ∷ behind) first batches holds in
      let w = first_of image x front first before whole in
      let same : w.mine ≡ f.mine = (one_list first w.keeps.0 f.keeps.0 w.mine f.mine (bytes_of image x.file) w.keeps.1 f.keeps.1).0 in
      behind_holds front ref behind (first + length f.mine) f.later w.later at f.more (subst (λ (m : List (List Span)). LogHolds image front (first + length m) w.later) same w.more) breaks

  -- what stands for batches doesn't break
  pub unbroken : (segments : List SegmentRef) (first : ℕ) (batches : List (List Span)) (file at : ℕ) → LogHolds image segments first batches → LogBreaks image segments first file at → ⊥
  unbroken segments first batches file at holds broken =
      behind_holds broken.front broken.here broken.behind first batches broken.before at (subst (λ (l : List SegmentRef). LogHolds image l first batches) broken.split holds) broken.whole broken.breaks
