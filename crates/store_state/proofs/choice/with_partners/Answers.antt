use Rattle.std.proofs.Common.{◌∙◌, ◌++◌, ◌∷◌, [], ◌+◌, ap, arith, drop}
use Rattle.store_state.specs.Pairing.{joined_at}
use Rattle.store_state.proofs.Choosing.{all_joined}
use Rattle.store_state.proofs.choice.with_partners.Goals as goal

pub returns : goal.returns
returns c =
    all_joined c.args.level c.args.start c.saturating_sub.result c.args.blocks.now _ c.loop-at.joining.chosen.items
    c.loop-at.joining.level c.loop-at.joining.room c.loop-at.joining.left c.loop-at.at (omega arith) c.saturating_sub.ensures (omega arith)
    (c.loop-at.invariant
    ∙ ap (λ xs. xs ++ joined_at c.args.level c.saturating_sub.result 3 (c.args.start + 1) (drop (c.args.start + 1) c.args.blocks.now))
    (c.in_ok-push.ensures.items ∙ ap (λ xs. xs ++ c.args.start ∷ []) c.new-chosen.ensures.items))
