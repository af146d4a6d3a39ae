use Rattle.std.proofs.Common.{rules, ◌∙◌, ap, ◌∷◌, Some}
use Rattle.atomic_table.specs.Table.{rest}
use Rattle.shared_store.proofs.Keeps.{frees_at}
use Rattle.shared_store.proofs.turn.give_back.Goals as goal

pub store-requires : goal.store-requires
store-requires g c =
    let is = c.exchange-before.ensures.3 in (
      search rules,
      search rules,
      frees_at g.Q.LookPort.meaning _ _ _ _ c.args.port (ap (λ me. me.0.shown) is ∙ c.requires.shown)
          (ap (λ me. me.1) is ∙ ap (λ xs. (0, Some c.args.port) ∷ rest xs) c.requires.out),
    )
