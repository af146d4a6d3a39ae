use Rattle.std.proofs.Common.{ap, sym, ◌∙◌}
use Rattle.session_meaning.specs.Statuses.{status_of}
use Rattle.trace_shell.proofs.RunLemmas.{ended_before}
use Rattle.trace_shell.proofs.top.run_alone.Goals as goal

pub returns-clause-ran : goal.returns-clause-ran
returns-clause-ran g c =
    let ran = c.dispatch-ending.ensures.ran in
    (ran.0, ran.2, ran.3, c.status.ensures ∙ ap status_of (sym ran.1), ran.4)

pub returns-clause-recovers : goal.returns-clause-recovers
returns-clause-recovers g c = λ told sound.
    let ran = c.dispatch-ending.ensures.recovers told sound in
    (ran.0, ran.2, ran.3, c.status.ensures ∙ ap status_of (sym ran.1), ran.4)

pub returns-clause-left : goal.returns-clause-left
returns-clause-left g c = λ told file at breaks other.
    c.dispatch-ending.ensures.left told file at breaks (λ is. other (c.status.ensures ∙ ap status_of is))

pub returns-clause-unread : goal.returns-clause-unread
returns-clause-unread g c = λ early. c.dispatch-ending.ensures.unread (ended_before c.dispatch-ending.result.0 c.status.result c.status.ensures early)
