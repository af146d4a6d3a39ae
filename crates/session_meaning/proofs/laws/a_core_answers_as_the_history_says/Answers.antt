use Rattle.session_meaning.proofs.CoreSessions.{shown_means, since_means}
use Rattle.session_meaning.proofs.laws.a_core_answers_as_the_history_says.Goals as goal

pub returns-clause-shown : goal.returns-clause-shown
returns-clause-shown g c = λ items replies over m shows. shown_means g.D.Device items replies c.args.old.now c.args.new.now m shows over

pub returns-clause-since : goal.returns-clause-since
returns-clause-since g c = λ items replies over m start least since tells.
    let all = since_means g.D.Device start least items replies c.args.old.now c.args.new.now m (since, tells) over in (all.0, all.1.0, all.2)
