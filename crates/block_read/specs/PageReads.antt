-- Reads of pages, one after another.
use Rattle.std.specs.Prelude.{◌≡◌, ◌≤◌, ℕ, Bool, true, false, IsTrue, List, [], ◌∷◌, Option, None, Some, Result, Ok, Err}
use Rattle.span_types.specs.Faults.{Rose}
use Rattle.span_types.specs.declared.errors.Failed.{Failed}
use Rattle.block_read.specs.Answers.{StaysSame}

-- a page that was asked for, and its bytes if it was given
pub record PageRead : Type 0 where
  pub block : ℕ
  pub page : ℕ
  pub bytes : Option (List ℕ)

abbrev pub page_read : {U : Type 0} → ℕ → ℕ → List ℕ → Result U Failed → PageRead
page_read block page bytes (Ok u) = record { block = block; page = page; bytes = Some bytes }
page_read block page bytes (Err e) = record { block = block; page = page; bytes = None }

-- These pages were read, one after another, and each was given. `went` says what one read makes of that which gives pages.
abbrev pub AreRead : {S : Type 0} → (S → PageRead → S → Type 0) → S → List PageRead → S → Type 0
AreRead went old [] new = new ≡ old
AreRead {S} went old (r ∷ rs) new = (between : S) × (bytes : List ℕ) × (r.bytes ≡ Some bytes) × went old r between × AreRead went between rs new

-- Pages were read, and no others were asked for: each was given, or each but the last.
abbrev pub HasRead : {S : Type 0} → (S → PageRead → S → Type 0) → S → Bool → S → Type 0
HasRead went old false new = (reads : List PageRead) × AreRead went old reads new
HasRead {S} went old true new = (reads : List PageRead) × (last : PageRead) × (between : S) × AreRead went old reads between × (last.bytes ≡ None) × went between last new

-- A call that reads pages, of which the last may fail, leaves all else as it was: the files, of which blocks pages may be asked for,
-- and what tells it from others.
pub record OnlyReads {S : Type 0} (tells : S → Bool) (held : S → ℕ → List ℕ) (faults : S → ℕ) (ready : S → ℕ → Type 0)
    (went : S → PageRead → S → Type 0) (name : S → ℕ) (old : S) (failed : Bool) (new : S) : Type 0 where
  pub read : HasRead went old failed new
  pub still_ready : (block : ℕ) → ready old block → ready new block
  pub named : name new ≡ name old
  pub stays : StaysSame tells held old new
  pub later : faults old ≤ faults new
  pub cause : IsTrue failed → Rose (faults old) (faults new)
