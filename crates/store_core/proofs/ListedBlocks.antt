-- The files of listed blocks go on to be blocks, and so is what a commit lists.
use Rattle.std.proofs.Common.{◌≡◌, inl, inr, ℕ, ◌≤◌, Bool, true, false, List, [], ◌∷◌, ◌++◌, drop, if◌then◌else◌, sym, ap, subst, arith}
use Rattle.std.specs.Prelude.{not}
use Rattle.std.specs.List.{Contains}
use Rattle.std.proofs.lemmas.List.Elements.{Contains-append_cases}
use Rattle.span_types.specs.declared.spans.Row.{Row}
use Rattle.disk_model.specs.Images.{Image, bytes_of}
use Rattle.block_info.specs.InfoParts.{InfoParts}
use Rattle.block_format.specs.Blocks.{BlockHasInfo, BlockHolds}
use Rattle.block_list.specs.declared.body.BlockRef.{BlockRef}
use Rattle.store_model.specs.Choice.{in_files}
use Rattle.store_model.specs.Sound.{times}
use Rattle.store_model.specs.State.{Block, block_files, is_among}
use Rattle.store_model.specs.Step.{Machine}
use Rattle.store_model.proofs.Numbers.{times-append, times_itself}
use Rattle.store_state.specs.Given.{info_files}
use Rattle.store_state.specs.Shown.{AreBlocks}
use Rattle.store_state.specs.Written.{AreBlocksOf, HoldRows}
use Rattle.store_images.proofs.Lists.{at_front, behind, in_cons, not_in_nil, was_in}
use Rattle.store_core.specs.Cores.{HasState}
use Rattle.store_files.specs.BlockReading.{listed_as}
use Rattle.store_core.specs.Frames.{IsKept}
use Rattle.store_core.specs.NextList.{infos_outside}
use Rattle.store_core.specs.declared.state.CoreState.{CoreState}

-- ---- each of the blocks is one

abbrev pub IsWhole : (ℕ → List ℕ) → InfoParts → Type 0
IsWhole bytes info = (rows : List Row) × BlockHasInfo info (bytes info.file) rows

pub from_each : (bytes : ℕ → List ℕ) (infos : List InfoParts) → ((info : InfoParts) → Contains infos info → IsWhole bytes info) → AreBlocks bytes infos
from_each bytes [] each = ([], tt)
from_each bytes (i ∷ infos) each =
    let one = each i (at_front i infos) in
    let rest = from_each bytes infos (λ x c. each x (behind x i infos c)) in
    (one.0 ∷ rest.0, (one.1, rest.1))

each_of : (bytes : ℕ → List ℕ) (infos : List InfoParts) (parts : List (List Row)) → AreBlocksOf bytes infos parts → (info : InfoParts) → Contains infos info → IsWhole bytes info
each_of bytes [] parts are info c = absurd (not_in_nil info c)
each_of bytes (i ∷ infos) [] are info c = absurd are
each_of bytes (i ∷ infos) (p ∷ ps) are info c = elim (in_cons info i infos c) [
  | inl same ↦ subst (λ (x : InfoParts). IsWhole bytes x) same (p, are.0)
  | inr rest ↦ each_of bytes infos ps are.1 info rest
]

pub each_whole : (bytes : ℕ → List ℕ) (infos : List InfoParts) → AreBlocks bytes infos → (info : InfoParts) → Contains infos info → IsWhole bytes info
each_whole bytes infos are info c = each_of bytes infos are.0 are.1 info c

-- over bytes that are the same in their files
pub whole_moved : (old new : ℕ → List ℕ) (infos : List InfoParts) → ((info : InfoParts) → Contains infos info → new info.file ≡ old info.file) → AreBlocks old infos → AreBlocks new infos
whole_moved old new infos same are = from_each new infos
    (λ info c. let one = each_whole old infos are info c in (one.0, subst (λ (b : List ℕ). BlockHasInfo info b one.0) (sym (same info c)) one.1))

-- by the same information
pub whole_same : (held : Image) (infos now : List InfoParts) → now ≡ infos → AreBlocks (λ file. bytes_of held file) infos → AreBlocks (λ file. bytes_of held file) now
whole_same held infos now same are = subst (λ (l : List InfoParts). AreBlocks (λ file. bytes_of held file) l) (sym same) are

-- ---- an event

listed_in : (infos : List InfoParts) (info : InfoParts) → Contains infos info → 1 ≤ times info.file (info_files infos)
listed_in [] info c = absurd (not_in_nil info c)
listed_in (i ∷ infos) info c = elim (in_cons info i infos c) [
  | inl same ↦ subst (λ (x : InfoParts). 1 ≤ times x.file (info_files (i ∷ infos))) same
      (let one = times_itself i.file in let joined = times-append i.file (i.file ∷ []) (info_files infos) in omega (arith, one, joined))
  | inr rest ↦ (let more = listed_in infos info rest in let joined = times-append info.file (i.file ∷ []) (info_files infos) in omega (arith, more, joined))
]

-- the file of a listed block is kept
pub listed_kept : (core : CoreState) (m : Machine) → HasState core m → (info : InfoParts) → Contains core.infos.items info → IsKept info.file m.state
listed_kept core m has info c =
    let some = listed_in core.infos.items info c in
    let same : times info.file (info_files core.infos.items) ≡ times info.file (block_files m.state.blocks) = ap (times info.file) has.infos in
    omega (arith, some, same)

-- where what is kept holds what it held
pub whole_kept : (held later : Image) (core : CoreState) (m : Machine) → HasState core m → ((file : ℕ) → IsKept file m.state → bytes_of later file ≡ bytes_of held file)
    → AreBlocks (λ file. bytes_of held file) core.infos.items → AreBlocks (λ file. bytes_of later file) core.infos.items
whole_kept held later core m has kept are =
    whole_moved (λ file. bytes_of held file) (λ file. bytes_of later file) core.infos.items (λ info c. kept info.file (listed_kept core m has info c)) are

-- ---- an opening

-- where the files that a list names hold what they held
pub whole_listed : (held later : Image) (refs : List BlockRef) (infos : List InfoParts) → ((x : InfoParts) → Contains infos x → Contains refs (listed_as x))
    → ((x : BlockRef) → Contains refs x → bytes_of later x.file ≡ bytes_of held x.file) → AreBlocks (λ file. bytes_of held file) infos → AreBlocks (λ file. bytes_of later file) infos
whole_listed held later refs infos named same are =
    whole_moved (λ file. bytes_of held file) (λ file. bytes_of later file) infos (λ info c. same (listed_as info) (named info c)) are

-- ---- a commit

pub whole_with : (bytes : ℕ → List ℕ) (infos : List InfoParts) (info : InfoParts) → AreBlocks bytes infos → IsWhole bytes info → AreBlocks bytes (infos ++ info ∷ [])
whole_with bytes infos info are one = from_each bytes (infos ++ info ∷ []) (λ x c. elim (Contains-append_cases infos (info ∷ []) x c) [
  | inl old ↦ each_whole bytes infos are x old
  | inr new ↦ elim (in_cons x info [] new) [
    | inl same ↦ subst (λ (y : InfoParts). IsWhole bytes y) same one
    | inr none ↦ absurd (not_in_nil x none)
  ]
])

pub whole_outside : (bytes : ℕ → List ℕ) (files : List ℕ) (infos : List InfoParts) → AreBlocks bytes infos → AreBlocks bytes (infos_outside files infos)
whole_outside bytes files infos are = from_each bytes (infos_outside files infos)
    (λ x c. each_whole bytes infos are x (was_in (λ (i : InfoParts). not (is_among i.file files)) infos x c))

abbrev first_file : List ℕ → ℕ
first_file [] = 0
first_file (x ∷ xs) = x

-- the files of some of them hold rows
pub hold_inside : (bytes : ℕ → List ℕ) (files : List ℕ) (infos : List InfoParts) (blocks : List Block) (parts : List (List Row)) → info_files infos ≡ block_files blocks → AreBlocksOf bytes infos parts
    → (inside : List (List Row)) × HoldRows bytes (block_files (in_files files blocks)) inside
hold_inside bytes files [] [] parts same are = ([], tt)
hold_inside bytes files [] (b ∷ bs) parts same are = absurd (let bad : [] ≡ b.file ∷ block_files bs = same in cc)
hold_inside bytes files (i ∷ infos) [] parts same are = absurd (let bad : i.file ∷ info_files infos ≡ [] = same in cc)
hold_inside bytes files (i ∷ infos) (b ∷ bs) [] same are = absurd are
hold_inside bytes files (i ∷ infos) (b ∷ bs) (p ∷ ps) same are = by_test (is_among b.file files) (hold_inside bytes files infos bs ps (ap (drop 1) same) are.1)
  where
    its : BlockHolds (bytes b.file) p
    its = subst (λ (n : ℕ). BlockHolds (bytes n) p) (ap first_file same) (record { header = are.0.header; parts = are.0.parts })

    by_test : (t : Bool) → ((inside : List (List Row)) × HoldRows bytes (block_files (in_files files bs)) inside)
        → (inside : List (List Row)) × HoldRows bytes (block_files (if t then b ∷ in_files files bs else in_files files bs)) inside
    by_test true rest = (p ∷ rest.0, (its, rest.1))
    by_test false rest = rest
