use Rattle.std.proofs.Common.{rules, ◌∙◌, ap, sym, ◌∷◌, Some}
use Rattle.atomic_table.specs.Table.{rest}
use Rattle.shared_store.proofs.Keeps.{wins_at}
use Rattle.shared_store.proofs.turn.take.Goals as goal

pub compare_exchange-requires : goal.compare_exchange-requires
compare_exchange-requires g c = (
  search rules,
  search rules,
  wins_at g.Q.LookPort.meaning _ _ _ _ (ap (λ me. me.1) c.loop.invariant.2 ∙ c.requires.idle),
)

pub exchange-requires : goal.exchange-requires
exchange-requires g c =
    let h = c.compare_exchange.ensures.2.0 c.if-compare_exchange-eq0.true in
    let out = ap (λ me. me.1) h.shows in
    (search rules, (Some h.core, out ∙ ap (λ xs. (0, Some h.core) ∷ rest xs) (sym out)))
