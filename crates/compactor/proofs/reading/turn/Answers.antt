use Rattle.std.proofs.Common.{◌+◌, ◌++◌, sym, subst}
use Rattle.compactor.specs.Phases.{Turned}
use Rattle.compactor.specs.Phases.Turned.{Starved}
use Rattle.compactor.specs.Tasks.{Task}
use Rattle.compactor.proofs.reading.turn.Goals as goal

pub returns-in-Err-clause-turned : goal.returns-in-Err-clause-turned
returns-in-Err-clause-turned c =
    subst (λ (t : Task). Turned c.args.reading.job c.args.reading.parts.items (c.args.reading.pages + 1) (c.args.reading.bytes.items ++ c.args.page.now) t) (sym c.fail.ensures) Starved
