-- The blocks of a core whose disk shows its bytes have as many rows as their information says.
use Rattle.std.proofs.Common.{◌≡◌, ℕ, List, [], ◌∷◌, IsTrue, length, map, sym, ◌∙◌, ap}
use Rattle.span_types.specs.declared.spans.Row.{Row}
use Rattle.disk_model.specs.Images.{Image, bytes_of}
use Rattle.disk_model.specs.declared.disk.Device.{Ghosts}
use Rattle.block_info.specs.InfoParts.{InfoParts}
use Rattle.block_format.specs.Blocks.{BlockHasInfo}
use Rattle.block_list.specs.declared.body.BlockRef.{BlockRef}
use Rattle.store_model.specs.State.{Block}
use Rattle.store_model.specs.Step.{Machine}
use Rattle.store_model.specs.Told.{AreCounted}
use Rattle.store_images.specs.Stored.{ref_of}
use Rattle.store_core.specs.Cores.{CoreStandsFor}
use Rattle.store_files.specs.Described.{AreDescribed}
use Rattle.store_files.specs.BlockReading.{listed_as}
use Rattle.store_core.specs.declared.store.Core.{Core}

same_first : (a b : BlockRef) (xs ys : List BlockRef) → a ∷ xs ≡ b ∷ ys → (a ≡ b) × (xs ≡ ys)
same_first a b xs ys e = (cc, cc)

rows_of : (info : InfoParts) (bytes : List ℕ) (rows : List Row) → BlockHasInfo info bytes rows → info.rows ≡ length rows
rows_of info bytes rows has = ap (λ (i : InfoParts). i.rows) has.info_is

counted : (held : Image) (infos : List InfoParts) (blocks : List Block) → AreDescribed held infos blocks → map listed_as infos ≡ map ref_of blocks → AreCounted blocks
counted held [] [] are same = tt
counted held [] (block ∷ blocks) are same = absurd are
counted held (info ∷ infos) [] are same = absurd are
counted held (info ∷ infos) (block ∷ blocks) are same =
    let first = same_first (listed_as info) (ref_of block) (map listed_as infos) (map ref_of blocks) same in
    (sym (ap (λ (r : BlockRef). r.rows) first.0) ∙ rows_of info (bytes_of held info.file) block.rows are.0, counted held infos blocks are.1 first.1)

pub blocks_counted : {D : Type 0} (g : Ghosts D) (core : Core D) (m : Machine) → CoreStandsFor g core m → IsTrue (g.tells core.disk) → AreCounted m.state.blocks
blocks_counted g core m stands tells = counted (g.held core.disk) core.state.infos.items m.state.blocks (stands.stands.built tells) (stands.stands.has.listed ∙ stands.stands.has.blocks)
