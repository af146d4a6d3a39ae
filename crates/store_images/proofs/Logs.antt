-- Logs in images that have the same bytes in their files.
use Rattle.std.proofs.Common.{◌≡◌, ℕ, ◌+◌, List, [], ◌∷◌, ◌++◌, length, sym, subst, arith, append_assoc, length-append}
use Rattle.std.specs.List.{Contains}
use Rattle.std.proofs.lemmas.List.{append-nil}
use Rattle.span_types.specs.declared.spans.Span.{Span}
use Rattle.disk_model.specs.Images.{Image, bytes_of}
use Rattle.head_log.specs.Stands.{SegmentKeeps}
use Rattle.block_list.specs.declared.body.SegmentRef.{SegmentRef}
use Rattle.store_images.specs.Log.{LogHolds}
use Rattle.store_images.specs.Log.LogHolds.{ended, goes_on}
use Rattle.store_images.proofs.Lists.{at_front, behind}

pub log_same : (a b : Image) (segments : List SegmentRef) (first : ℕ) (batches : List (List Span))
    → ((s : SegmentRef) → Contains segments s → bytes_of b s.file ≡ bytes_of a s.file) → LogHolds a segments first batches → LogHolds b segments first batches
log_same a b _ _ _ same ended = ended
log_same a b _ _ _ same (goes_on {number} {segments} {rest} file mine keeps more) =
    let here : SegmentRef = record { file = file; first = number } in
    goes_on file mine
    (subst (λ (x : List ℕ). SegmentKeeps number mine x) (sym (same here (at_front here segments))) keeps)
    (log_same a b segments (number + length mine) rest (λ s c. same s (behind s here segments c)) more)

-- a log with one more segment at its end
pub log_with : (image : Image) (front : List SegmentRef) (first : ℕ) (before : List (List Span)) (file next : ℕ) (mine : List (List Span)) → LogHolds image front first before
    → next ≡ first + length before → SegmentKeeps next mine (bytes_of image file) → LogHolds image (front ++ record { file = file; first = next } ∷ []) first (before ++ mine)
log_with image _ _ _ file next mine (ended {number}) is keeps =
    let same : next ≡ number = omega arith in
    subst (λ (batches : List (List Span)). LogHolds image (record { file = file; first = next } ∷ []) number batches) (append-nil mine)
    (subst (λ (n : ℕ). LogHolds image (record { file = file; first = next } ∷ []) n (mine ++ [])) same (goes_on file mine keeps ended))
log_with image _ _ _ file next mine (goes_on {number} {segments} {rest} here own kept more) is keeps =
    let size = length-append own rest in
    subst (λ (batches : List (List Span)). LogHolds image (record { file = here; first = number } ∷ (segments ++ record { file = file; first = next } ∷ [])) number batches) (sym (append_assoc own rest mine))
    (goes_on here own kept (log_with image segments (number + length own) rest file next mine more (omega (arith, size, is)) keeps))
