-- A block that was found to be whole, with as many rows as its list entry says.
use Rattle.std.proofs.Common.{◌≡◌, ℕ, List, length, Result, Ok, Err, IfOk, eqb, refl, sym, ◌∙◌, ap, subst}
use Rattle.std.proofs.lemmas.Bool.{eqb-true}
use Rattle.byte_fields.specs.Reading.{AreBytes}
use Rattle.span_types.specs.declared.spans.Row.{Row}
use Rattle.byte_fields.specs.Breaks.{Answers}
use Rattle.byte_fields.specs.declared.breaks.Break.{Break}
use Rattle.byte_fields.proofs.Meant.{bound}
use Rattle.block_info.specs.InfoParts.{InfoParts}
use Rattle.block_format.specs.Blocks.{BlockHasHeader, BlockHasInfo, info_of}
use Rattle.block_read.specs.Answers.{made_of}
use Rattle.block_read.specs.BlockReadings.{block_at, info_read, listed_at, unless_not}
use Rattle.block_read.specs.declared.block.Block.{Block}
use Rattle.block_read.proofs.BlockBoth.{block_means}
use Rattle.block_read.proofs.StripesBoth.{tested}

pub record FoundListed (rows : ℕ) (bytes : List ℕ) (block : Block) : Type 0 where
  pub holds : BlockHasHeader block.header bytes block.rows
  pub counted : length block.rows ≡ rows

listed_means : (rows : ℕ) (bytes : List ℕ) (block : Block) → AreBytes bytes → listed_at rows bytes ≡ Ok block → FoundListed rows bytes block
unfolding listed_at
listed_means rows bytes block fit e =
    let a = bound (block_at bytes) (λ b. unless_not (eqb (length b.rows) rows) 0 b) block e in
    let last = tested (eqb (length a.value.rows) rows) 0 a.value block a.last in
    let whole = block_means bytes a.value fit a.first in
    subst (λ (b : Block). FoundListed rows bytes b) last.same (record { holds = whole; counted = eqb-true (length a.value.rows) rows last.holds })

same_info : (a b : InfoParts) (r : Result InfoParts ℕ) → r ≡ Ok a → r ≡ Ok b → a ≡ b
same_info a b r one two = cc

found_by : (file level rows : ℕ) (bytes : List ℕ) (info : InfoParts) (read : Result Block ℕ) → AreBytes bytes → listed_at rows bytes ≡ read → made_of (info_read file level) read ≡ Ok info
    → (block : Block) × (info ≡ info_read file level block) × FoundListed rows bytes block
found_by file level rows bytes info (Ok block) fit e is = (block, same_info info (info_read file level block) (made_of (info_read file level) (Ok block)) is refl, listed_means rows bytes block fit e)
found_by file level rows bytes info (Err at) fit e is = absurd (let bad : Err at ≡ Ok info = is in cc)

pub names_it : (file level rows : ℕ) (bytes : List ℕ) (result : Result InfoParts Break) → AreBytes bytes → Answers (λ x. x) result (made_of (info_read file level) (listed_at rows bytes))
    → IfOk result (λ info. (info.file ≡ file) × (info.level ≡ level) × (info.rows ≡ rows))
names_it file level rows bytes (Ok info) fit answers =
    let found = found_by file level rows bytes info (listed_at rows bytes) fit refl answers in (
      ap (λ (i : InfoParts). i.file) found.1,
      ap (λ (i : InfoParts). i.level) found.1,
      ap (λ (i : InfoParts). i.rows) found.1 ∙ found.2.counted,
    )
names_it file level rows bytes (Err e) fit answers = tt

pub describes_it : (file level rows : ℕ) (bytes : List ℕ) (result : Result InfoParts Break) → AreBytes bytes → Answers (λ x. x) result (made_of (info_read file level) (listed_at rows bytes))
    → IfOk result (λ info. (found : List Row) × BlockHasInfo info bytes found)
describes_it file level rows bytes (Ok info) fit answers =
    let found = found_by file level rows bytes info (listed_at rows bytes) fit refl answers in (
      found.0.rows,
      record {
        header = found.0.header;
        parts = found.2.holds;
        info_is = subst (λ (i : InfoParts). i ≡ info_of i.file i.level found.0.header (length found.0.rows)) (sym found.1) refl;
      },
    )
describes_it file level rows bytes (Err e) fit answers = tt
