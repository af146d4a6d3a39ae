use Rattle.std.proofs.Common.{ℕ, List, [], ◌∷◌, ◌++◌, sym, ◌∙◌, ap, arith}
use Rattle.block_info.specs.InfoParts.{InfoParts}
use Rattle.store_core.proofs.ChosenBlocks.{places_next}
use Rattle.store_core.proofs.state.CoreState.infos_at.Goals as goal

pub loop-at-preserved : goal.loop-at-preserved
loop-at-preserved c =
    let places : List ℕ = c.args.chosen.now in
    let infos : List InfoParts = c.args.self.now.infos.items in
    let one = c.in_ok-info.ensures in
    c.in_ok-push.ensures.items ∙ ap (λ (l : List InfoParts). l ++ c.in_ok-info.info ∷ []) c.loop-at.invariant
    ∙ sym (places_next places infos c.loop-at.at-index 0 c.in_ok-info.info (omega arith) one.0 one.1)
