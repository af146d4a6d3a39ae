-- Segments as what they stand for.
use Rattle.std.proofs.Common.{◌≡◌, ℕ, ◌+◌, List, [], ◌∷◌, ◌++◌, length, subst, arith, inl, inr}
use Rattle.span_types.specs.declared.spans.Span.{Span}
use Rattle.disk_model.specs.Images.{Image, OnFile}
use Rattle.disk_model.specs.Crash.{Follows, Reached, LeavesOnly, ButFor, RunInFile}
use Rattle.disk_model.proofs.Moments.{widened}
use Rattle.head_log.specs.Records.{HasBodies, SegmentIsEither}
use Rattle.head_log.specs.Stands.{IsBatchBody, AreBatchBodies, SegmentHolds, SegmentKeepsEither}

-- one batch more
AreBatchBodies-more : (first : ℕ) (batches : List (List Span)) (bodies : List (List ℕ)) (spans : List Span) (body : List ℕ) → AreBatchBodies first batches bodies
    → IsBatchBody (first + length batches) spans body → AreBatchBodies first (batches ++ spans ∷ []) (bodies ++ body ∷ [])
AreBatchBodies-more first [] [] spans body numbered is = let e : first + 0 ≡ first = omega arith in (subst (λ (n : ℕ). IsBatchBody n spans body) e is, tt)
AreBatchBodies-more first [] (b ∷ bodies) spans body numbered is = absurd numbered
AreBatchBodies-more first (s ∷ batches) [] spans body numbered is = absurd numbered
AreBatchBodies-more first (s ∷ batches) (b ∷ bodies) spans body numbered is =
    let e : first + length (s ∷ batches) ≡ first + 1 + length batches = omega arith in
    (numbered.0, AreBatchBodies-more (first + 1) batches bodies spans body numbered.1 (subst (λ (n : ℕ). IsBatchBody n spans body) e is))

pub stands_more : (first : ℕ) (batches : List (List Span)) (gate : ℕ) (known : List ℕ) (spans : List Span) (body : List ℕ) (number count gate' : ℕ) (bytes : List ℕ) (h : SegmentHolds first batches gate known)
    → number ≡ first + count → length batches ≡ count → IsBatchBody number spans body → HasBodies (h.bodies ++ body ∷ []) gate' bytes → SegmentHolds first (batches ++ spans ∷ []) gate' bytes
stands_more first batches gate known spans body number count gate' bytes h numbered counted is has =
    let e : number ≡ first + length batches = omega arith in
    record { bodies = h.bodies ++ body ∷ []; numbered = AreBatchBodies-more first batches h.bodies spans body h.numbered (subst (λ (n : ℕ). IsBatchBody n spans body) e is); has = has }

pub keeps_either : (first : ℕ) (batches : List (List Span)) (gate : ℕ) (known : List ℕ) (spans : List Span) (body : List ℕ) (number count : ℕ) (h : SegmentHolds first batches gate known)
    → number ≡ first + count → length batches ≡ count → IsBatchBody number spans body → (bytes : List ℕ) → SegmentIsEither h.bodies body bytes → SegmentKeepsEither first batches spans bytes
keeps_either first batches gate known spans body number count h numbered counted is bytes either =
    elim either [
      | inl earlier ↦ inl (earlier.0, record { bodies = h.bodies; numbered = h.numbered; has = earlier.1 })
      | inr with_it ↦ inr (with_it.0, stands_more first batches gate known spans body number count with_it.0 bytes h numbered counted is with_it.1)
    ]

-- ---- one file alone

abbrev pub Anything : List ℕ → Type 0
Anything bytes = Unit {0}

but_for_any : (file : ℕ) (step : List ℕ → List ℕ → Type 0) (images : Image → Type 0) (image : Image) → Reached (OnFile file step) images image → ButFor file Anything images image
but_for_any file step images image r = record { origin = r.0; possible = r.1; besides = r.2.besides; here = tt }

module _ {D : Type 0} (moment : D → ℕ) (left_since : D → ℕ → Image → Type 0) (may_leave : D → Image → Type 0) where
  pub passes_any : (file : ℕ) (step : List ℕ → List ℕ → Type 0) (old new : D) → LeavesOnly moment left_since old new (Reached (OnFile file step) (may_leave old))
      → Follows (OnFile file step) (may_leave old) (may_leave new) → RunInFile moment left_since may_leave file Anything Anything old new
  passes_any file step old new run follows = record {
    since = widened moment left_since old new (Reached (OnFile file step) (may_leave old)) (ButFor file Anything (may_leave old)) run (but_for_any file step (may_leave old));
    now = λ image left. but_for_any file step (may_leave old) image (follows image left);
  }
