use Rattle.std.proofs.Common.{ap, None}
use Rattle.shared_store.proofs.Appends.{appended_shown}
use Rattle.shared_store.proofs.turn.finish.Goals as goal

pub returns-clause-appended : goal.returns-clause-appended
returns-clause-appended g c = λ key before start shown.
    appended_shown g.Q.LookPort.meaning key before _ _ _ _ _ _ None (ap (λ me. me.0) c.give_back.ensures.2)
    (c.append.ensures.appended key before start shown)
