use Rattle.std.proofs.Common.{rules}
use Rattle.shared_store.proofs.Appends.{appends_at}
use Rattle.shared_store.proofs.turn.append.Goals as goal

pub fetch_add-requires : goal.fetch_add-requires
fetch_add-requires g c = (
  search rules,
  search rules,
  appends_at g.Q.LookPort.meaning _ _ _ _ _ _ _ _ _ _ _ c.requires.part c.requires.called.1 c.requires.said.2 c.requires.said.0 c.requires.said.1 c.requires.called.2 c.requires.mine,
)
