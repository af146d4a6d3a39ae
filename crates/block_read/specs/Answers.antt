-- What calls that read a block answer.
use Rattle.std.specs.Prelude.{◌≡◌, ℕ, ◌+◌, ◌≤◌, Bool, true, false, IsTrue, List, Result, Ok, Err}
use Rattle.span_types.specs.Faults.{Rose}
use Rattle.block_read.specs.Files.{SameFiles}
use Rattle.block_read.specs.declared.error.ReadError.{ReadError}
use Rattle.block_read.specs.declared.file.Unread.{Unread}
use Rattle.block_read.specs.declared.file.Unread.TheVariants as unread
use Rattle.block_read.specs.declared.error.ReadError.TheVariants.{Fault, NotBlock, Memory}

-- what is made of what was read
abbrev pub made_of : {A B : Type 0} → (A → B) → Result A ℕ → Result B ℕ
made_of make (Ok x) = Ok (make x)
made_of make (Err at) = Err at

-- What a call on this file answers, seen by view, is what reading gives: a value, or the first offset of the file where it is
-- malformed. A fault and out of memory say nothing of the bytes.
abbrev pub AnswersOf : {X A : Type 0} → (X → A) → ℕ → Result X ReadError → Result A ℕ → Type 0
AnswersOf view file (Ok x) read = read ≡ Ok (view x)
AnswersOf view file (Err (NotBlock other at)) read = (other ≡ file) × (read ≡ Err at)
AnswersOf view file (Err Fault) read = Unit {0}
AnswersOf view file (Err Memory) read = Unit {0}

-- A fault comes only where the count of faults rose.
abbrev pub FailsByFault : {X : Type 0} → ℕ → ℕ → Result X ReadError → Type 0
FailsByFault before now (Ok x) = Unit {0}
FailsByFault before now (Err Fault) = Rose before now
FailsByFault before now (Err (NotBlock file at)) = Unit {0}
FailsByFault before now (Err Memory) = Unit {0}

-- the count didn't fall, and rose by at most so much
pub record RoseAtMost (count before now : ℕ) : Type 0 where
  pub later : before ≤ now
  pub at_most : now ≤ before + count

-- a page could not be read
abbrev pub is_fault : {X : Type 0} → Result X ReadError → Bool
is_fault (Ok x) = false
is_fault (Err Fault) = true
is_fault (Err (NotBlock file at)) = false
is_fault (Err Memory) = false

abbrev pub is_of_a_page : Unread → Bool
is_of_a_page unread.Fault = true
is_of_a_page unread.Memory = false

-- the same of a call that reads a file's bytes alone
abbrev pub is_unread : {X : Type 0} → Result X Unread → Bool
is_unread (Ok x) = false
is_unread (Err e) = is_of_a_page e

-- Reads change nothing: it tells or it doesn't, as before, and where it tells, each file has the same bytes.
pub record StaysSame {P : Type 0} (tells : P → Bool) (held : P → ℕ → List ℕ) (old new : P) : Type 0 where
  pub telling : tells new ≡ tells old
  pub same_files : IsTrue (tells old) → SameFiles (held old) (held new)
