-- A look of a core shows the history.
use Rattle.std.proofs.Common.{◌≡◌, ℕ, ◌+◌, List, [], ◌∷◌, ◌++◌, length, take, drop, refl, sym, ◌∙◌, ap, subst, arith, ◌-◌}
use Rattle.std.specs.List.{flat_map}
use Rattle.span_types.specs.declared.ids.Key.{Key}
use Rattle.span_types.specs.declared.spans.Row.{Row}
use Rattle.span_types.specs.First.{first_at}
use Rattle.disk_model.specs.Images.{Image, bytes_of}
use Rattle.block_info.specs.InfoParts.{InfoParts}
use Rattle.store_model.specs.History.{History, history_rows, count_of, up_to}
use Rattle.store_model.specs.State.{Block, block_files, block_rows, live_rows}
use Rattle.store_model.specs.Event.Reply.{Looked}
use Rattle.store_model.specs.Step.{Machine}
use Rattle.store_model.proofs.KeepsFirsts.{look_is}
use Rattle.store_state.specs.Given.{info_files}
use Rattle.store_state.specs.Written.{AreBlocksOf, HoldRows}
use Rattle.store_state.specs.Shown.{ShowsHistory, IsLookTaken}
use Rattle.store_state.specs.declared.jobs.Look.{Look}
use Rattle.store_core.specs.declared.state.CoreState.{CoreState}
use Rattle.store_core.specs.Cores.{StandsFor}
use Rattle.store_files.specs.Described.{rows_by_block}
use Rattle.store_core.proofs.Described.{described_holds}
use Rattle.store_core.proofs.Looking.{waiting_in}

-- ---- the blocks that a core lists are those of its machine

each_one : (infos : List InfoParts) (blocks : List Block) → info_files infos ≡ block_files blocks → length (rows_by_block blocks) ≡ length infos
each_one [] [] same = refl
each_one [] (b ∷ bs) same = absurd (let bad : [] ≡ b.file ∷ block_files bs = same in cc)
each_one (i ∷ is) [] same = absurd (let bad : i.file ∷ info_files is ≡ [] = same in cc)
each_one (i ∷ is) (b ∷ bs) same = let rest = each_one is bs (ap (drop 1) same) in omega (arith, rest)

flattened : (blocks : List Block) → flat_map (λ (rows : List Row). rows) (rows_by_block blocks) ≡ block_rows blocks
flattened [] = refl
flattened (b ∷ bs) = ap (λ (r : List Row). b.rows ++ r) (flattened bs)

-- ---- the whole history

take_all : {X : Type 0} (xs : List X) → take (length xs) xs ≡ xs
take_all [] = refl
take_all (x ∷ xs) = ap (λ ys. x ∷ ys) (take_all xs)

whole : (h : History) (n : ℕ) → n ≡ count_of h → up_to n h ≡ h
whole h n is =
    let exact : n - h.start ≡ length h.entries = omega (arith, is) in
    ap (λ bs. record { base = h.base; start = h.start; entries = bs }) (ap (λ k. take k h.entries) exact ∙ take_all h.entries)

-- The rows of a look, and those of the blocks, have the first occurrences of the history.
look_firsts : (told : Type 0) (held : Image) (may_leave : Image → Type 0) (core : CoreState) (m : Machine) (as_of : ℕ) (rows : List Row) → StandsFor told held may_leave core m
    → as_of ≡ core.segment.first + core.segment.count → rows ≡ core.live.flushing ++ core.live.head ++ live_rows core.live.live
    → (k : Key) → first_at k (rows ++ flat_map (λ (part : List Row). part) (rows_by_block m.state.blocks)) ≡ first_at k (history_rows (up_to as_of m.history))
look_firsts told held may_leave core m as_of rows s length_is are = λ k.
    ap (λ (r : List Row). first_at k (rows ++ r)) (flattened m.state.blocks)
    ∙ look_is m rows s.agrees (waiting_in core m rows s.has are) k
    ∙ ap (λ (h : History). first_at k (history_rows h)) (sym (whole m.history as_of (length_is ∙ sym s.has.count)))

pub look_shows : (told : Type 0) (held : Image) (may_leave : Image → Type 0) (core : CoreState) (m : Machine) (look : Look) → StandsFor told held may_leave core m
    → look.pin.blocks ≡ core.infos.items → look.as_of ≡ core.segment.first + core.segment.count → look.rows ≡ core.live.flushing ++ core.live.head ++ live_rows core.live.live
    → ShowsHistory told (λ file. bytes_of held file) look m.history
look_shows told held may_leave core m look s blocks length_is rows = record {
  parts = rows_by_block m.state.blocks;
  one_each = each_one core.infos.items m.state.blocks s.has.infos ∙ sym (ap length blocks);
  their_rows = λ t. subst (λ (i : List InfoParts). AreBlocksOf (λ file. bytes_of held file) i (rows_by_block m.state.blocks)) (sym blocks) (s.built t);
  firsts = look_firsts told held may_leave core m look.as_of look.rows s length_is rows;
}

-- and so do its rows, and those that the files of its blocks hold
pub look_taken : (told : Type 0) (held : Image) (may_leave : Image → Type 0) (core : CoreState) (m : Machine) (number as_of : ℕ) (files : List ℕ) (rows : List Row) → told → StandsFor told held may_leave core m
    → files ≡ info_files core.infos.items → as_of ≡ core.segment.first + core.segment.count → rows ≡ core.live.flushing ++ core.live.head ++ live_rows core.live.live
    → IsLookTaken (Looked (record { pin = number; files = files; as_of = as_of; rows = rows })) (λ file. bytes_of held file) m.history
look_taken told held may_leave core m number as_of files rows t s listed length_is are = (
  rows_by_block m.state.blocks,
  subst (λ (fs : List ℕ). HoldRows (λ file. bytes_of held file) fs (rows_by_block m.state.blocks)) (sym (listed ∙ s.has.infos))
      (described_holds (λ file. bytes_of held file) core.infos.items m.state.blocks s.has.infos (s.built t)),
  look_firsts told held may_leave core m as_of rows s length_is are,
)
