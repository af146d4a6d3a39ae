-- What a core keeps stays, where its list, the rows in its memory and the bytes of its disk do.
use Rattle.std.proofs.Common.{◌≡◌, ℕ, List, [], ◌∷◌, ◌++◌, IsTrue, sym, ◌∙◌, ap, subst}
use Rattle.span_types.specs.declared.spans.Row.{Row}
use Rattle.block_format.specs.Blocks.{BlockHasInfo}
use Rattle.block_info.specs.InfoParts.{InfoParts}
use Rattle.disk_model.specs.Images.{bytes_of}
use Rattle.disk_model.specs.declared.disk.Device.{Ghosts}
use Rattle.store_state.specs.Kept.{Kept}
use Rattle.store_state.specs.Meaning.{LeavesKept}
use Rattle.store_state.specs.Written.{AreBlocksOf}
use Rattle.store_model.specs.State.{LiveRow, live_rows}
use Rattle.store_model.specs.Step.{Machine}
use Rattle.store_core.specs.declared.state.CoreState.{CoreState}
use Rattle.store_core.specs.declared.store.Core.{Core}
use Rattle.store_core.specs.Cores.{HasState}
use Rattle.store_core.specs.Waiting.{rows_outside}
use Rattle.store_core.specs.Kept.{CoreKeeps, IsLeft, rows_held}
use Rattle.store_core.specs.Port.{port_of}

-- blocks are those of the same rows over the same bytes
blocks_same : (old new : ℕ → List ℕ) → ((file : ℕ) → new file ≡ old file) → (infos : List InfoParts) (parts : List (List Row)) → AreBlocksOf old infos parts → AreBlocksOf new infos parts
blocks_same old new same [] [] are = tt
blocks_same old new same (info ∷ infos) (rows ∷ parts) are =
    (subst (λ (b : List ℕ). BlockHasInfo info b rows) (sym (same info.file)) are.0, blocks_same old new same infos parts are.1)
blocks_same old new same [] (rows ∷ parts) are = absurd are
blocks_same old new same (info ∷ infos) [] are = absurd are

-- what is so from the old core on is so from the new one back
back : {D : Type 0} (g : Ghosts D) (old new : Core D) → IsLeft g old new → IsLeft g new old
back g old new left = record {
  infos = sym left.infos;
  live = sym left.live;
  telling = sym left.telling;
  bytes = λ told file. sym (left.bytes (subst IsTrue left.telling told) file);
}

keeps : {D : Type 0} (g : Ghosts D) (old new : Core D) → IsLeft g old new → (kept : Kept) → CoreKeeps g old kept → CoreKeeps g new kept
keeps g old new left kept k = record {
  told = subst IsTrue (sym left.telling) k.told;
  infos = k.infos ∙ ap (λ i. i.items) (sym left.infos);
  blocks = blocks_same (λ file. bytes_of (g.held old.disk) file) (λ file. bytes_of (g.held new.disk) file) (left.bytes k.told) kept.infos kept.parts k.blocks;
  outside = k.outside ∙ ap (λ l. rows_held (record old.state { live = l })) (sym left.live);
}

pub left_kept : {D : Type 0} (g : Ghosts D) (old new : Core D) → IsLeft g old new → LeavesKept (port_of g) old new
left_kept g old new left = record {
  lists = λ infos. (λ is. is ∙ ap (λ i. i.items) (sym left.infos), λ is. is ∙ ap (λ i. i.items) left.infos);
  keeps = λ kept. (keeps g old new left kept, keeps g new old (back g old new left) kept);
}

-- the rows of a machine that wait outside of blocks are those in the core's memory
pub outside_is : (core : CoreState) (m : Machine) → HasState core m → rows_outside m.state ≡ rows_held core
outside_is core m has =
    ap (λ (f : List Row). f ++ m.state.head ++ live_rows m.state.live) (sym has.flushing)
    ∙ ap (λ (h : List Row). core.live.flushing ++ h ++ live_rows m.state.live) has.head
    ∙ ap (λ (l : List LiveRow). core.live.flushing ++ core.live.head ++ live_rows l) has.live
