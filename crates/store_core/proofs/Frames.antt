-- What an event, and a page read, make of the frames.
use Rattle.std.proofs.Common.{◌≡◌, ℕ, List, [], ◌∷◌, ◌++◌, None, Some, IfSome, sym, ◌∙◌, ap, subst}
use Rattle.std.specs.Prelude.{replicate, zero, suc}
use Rattle.std.specs.List.{AllByRecursion}
use Rattle.disk_model.specs.Images.{Image, bytes_of}
use Rattle.page_cache.specs.Frames.{Frame, IsBrought, IsTaken, full}
use Rattle.page_cache.specs.declared.frame.CachedPage.{CachedPage}
use Rattle.store_model.specs.State.{State}
use Rattle.store_model.specs.Event.{Event, Reply}
use Rattle.store_model.specs.Sound.{StateIsSound}
use Rattle.store_model.specs.Step.{Machine, Step}
use Rattle.store_model.proofs.KeptFiles.{kept_before, given_before}
use Rattle.store_state.specs.Written.{page_of}
use Rattle.store_core.specs.Frames.{IsKept, FrameFits, FramesFit}
use Rattle.store_core.proofs.KeptFiles.{kept_low, kept_closed}

-- ---- an event

frames_moved : (P Q : CachedPage → Type 0) → ((p : CachedPage) → P p → Q p) → (frames : List Frame)
    → AllByRecursion (λ frame. IfSome frame P) frames → AllByRecursion (λ frame. IfSome frame Q) frames
frames_moved P Q more [] all = tt
frames_moved P Q more (None ∷ frames) all = (tt, frames_moved P Q more frames all.1)
frames_moved P Q more (Some p ∷ frames) all = (more p all.0, frames_moved P Q more frames all.1)

-- The files that were kept before it hold what they held: the frames fit after it.
pub frames_stay : (told told' : Type 0) (held held' : Image) (m m' : Machine) (before faults : ℕ) (e : Event) (r : Reply) (frames : List Frame) → (told' → told)
    → (told → (file : ℕ) → IsKept file m.state → bytes_of held' file ≡ bytes_of held file) → Step before faults m e r m'
    → FramesFit told held m.state frames → FramesFit told' held' m'.state frames
frames_stay told told' held held' m m' before faults e r frames known same step = frames_moved (FrameFits told held m.state) (FrameFits told' held' m'.state)
    (λ p fits.
    let given = given_before before faults m m' e r p.file fits.given_out fits.apart step in record {
      given_out = given.0;
      apart = given.1;
      bytes = λ t kept.
          let was : IsKept p.file m.state = kept_before before faults m m' e r p.file fits.apart step kept in
          fits.bytes (known t) was ∙ ap (λ (b : List ℕ). page_of b p.page) (sym (same (known t) p.file was));
    })
    frames

-- ---- a page read

taken_out : (P : Frame → Type 0) (x : Frame) (front after : List Frame) → AllByRecursion P (front ++ x ∷ after) → P x × AllByRecursion P (front ++ after)
taken_out P x [] after all = all
taken_out P x (f ∷ front) after all = let rest = taken_out P x front after all.1 in (rest.0, (all.0, rest.1))

firsts_of : (P : Frame → Type 0) (front after : List Frame) → AllByRecursion P (front ++ after) → AllByRecursion P front
firsts_of P [] after all = tt
firsts_of P (f ∷ front) after all = (all.0, firsts_of P front after all.1)

module _ (told : Type 0) (held : Image) (u : State) (file page : ℕ) (bytes : List ℕ) (old new : List Frame) where
  -- a page that stood in a frame, and was brought to the front
  brought_out : (is : IsBrought file page bytes old new) → FramesFit told held u old
      → FrameFits told held u (record { file = file; page = page; bytes = bytes }) × FramesFit told held u (is.front ++ is.after)
  brought_out is fits = taken_out (λ frame. IfSome frame (FrameFits told held u)) (full file page bytes) is.front is.after (subst (FramesFit told held u) is.was fits)

  pub found_fits : IsBrought file page bytes old new → FramesFit told held u old → FramesFit told held u new
  found_fits is fits = subst (FramesFit told held u) (sym is.is) (brought_out is fits)

  -- its bytes are the file's
  pub found_bytes : IsBrought file page bytes old new → FramesFit told held u old → told → IsKept file u → bytes ≡ page_of (bytes_of held file) page
  found_bytes is fits t kept = (brought_out is fits).0.bytes t kept

  -- a page that was read, in the last frame
  pub taken_fits : StateIsSound u → IsKept file u → (told → bytes ≡ page_of (bytes_of held file) page) → IsTaken file page bytes old new
      → FramesFit told held u old → FramesFit told held u new
  taken_fits sound kept its is fits = subst (FramesFit told held u) (sym is.is) (
    record { given_out = kept_low u sound file kept; apart = kept_closed u sound file kept; bytes = λ t _. its t },
    firsts_of (λ frame. IfSome frame (FrameFits told held u)) is.others (is.last ∷ []) (subst (FramesFit told held u) is.was fits),
  )

-- ---- an opening

pub none_fit : (told : Type 0) (held : Image) (u : State) (n : ℕ) → FramesFit told held u (replicate n None)
none_fit told held u zero = tt
none_fit told held u (suc n) = (tt, none_fit told held u n)

pub empty_fit : (told : Type 0) (held : Image) (u : State) (frames : List Frame) → frames ≡ replicate 256 None → FramesFit told held u frames
empty_fit told held u frames is = subst (FramesFit told held u) (sym is) (none_fit told held u 256)
