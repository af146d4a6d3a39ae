-- Blocks that stay described by their information.
use Rattle.std.proofs.Common.{◌≡◌, ℕ, List, [], ◌∷◌, sym, ap, subst}
use Rattle.std.specs.Prelude.{drop}
use Rattle.std.specs.List.{Contains}
use Rattle.disk_model.specs.Images.{Image, bytes_of}
use Rattle.block_info.specs.InfoParts.{InfoParts}
use Rattle.block_format.specs.Blocks.{BlockHasInfo, BlockHolds}
use Rattle.store_model.specs.State.{Block, block_files}
use Rattle.store_state.specs.Given.{info_files}
use Rattle.store_state.specs.Written.{AreBlocksOf, HoldRows}
use Rattle.store_images.proofs.Lists.{at_front, behind}
use Rattle.store_files.specs.Described.{AreDescribed, rows_by_block}

abbrev front : List ℕ → ℕ
front [] = 0
front (x ∷ xs) = x

pub described_same : (a b : Image) (infos : List InfoParts) (blocks : List Block) → info_files infos ≡ block_files blocks
    → ((x : Block) → Contains blocks x → bytes_of b x.file ≡ bytes_of a x.file) → AreDescribed a infos blocks → AreDescribed b infos blocks
described_same a b [] [] files same was = tt
described_same a b [] (x ∷ xs) files same was = absurd was
described_same a b (i ∷ is) [] files same was = absurd was
described_same a b (i ∷ is) (x ∷ xs) files same was =
    let its : i.file ≡ x.file = ap front files in
    let bytes : bytes_of b i.file ≡ bytes_of a i.file = subst (λ (f : ℕ). bytes_of b f ≡ bytes_of a f) (sym its) (same x (at_front x xs)) in (
      subst (λ (l : List ℕ). BlockHasInfo i l x.rows) (sym bytes) was.0,
      described_same a b is xs (ap (drop 1) files) (λ y inside. same y (behind y x xs inside)) was.1,
    )

-- where there is no information there is no block
pub none_described : (held : Image) (infos : List InfoParts) → info_files infos ≡ [] → AreDescribed held infos []
none_described held [] none = tt
none_described held (i ∷ is) none = absurd (let bad : i.file ∷ info_files is ≡ [] = none in cc)

-- their files hold their rows
pub described_holds : (bytes : ℕ → List ℕ) (infos : List InfoParts) (blocks : List Block) → info_files infos ≡ block_files blocks → AreBlocksOf bytes infos (rows_by_block blocks)
    → HoldRows bytes (block_files blocks) (rows_by_block blocks)
described_holds bytes [] [] same was = tt
described_holds bytes [] (b ∷ bs) same was = absurd was
described_holds bytes (i ∷ is) [] same was = absurd was
described_holds bytes (i ∷ is) (b ∷ bs) same was = (
  subst (λ (n : ℕ). BlockHolds (bytes n) b.rows) (ap front same) (record { header = was.0.header; parts = was.0.parts }),
  described_holds bytes is bs (ap (drop 1) same) was.1,
)
