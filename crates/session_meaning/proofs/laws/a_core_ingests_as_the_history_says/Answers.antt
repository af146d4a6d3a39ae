use Rattle.session_meaning.proofs.CoreSessions.{shown_ingests, since_ingests}
use Rattle.session_meaning.proofs.laws.a_core_ingests_as_the_history_says.Goals as goal

pub returns-clause-shown : goal.returns-clause-shown
returns-clause-shown g c = λ todo left told to_tell items replies over m shows.
    shown_ingests g.D.Device todo told items replies c.args.old.now c.args.new.now m left to_tell shows over

pub returns-clause-since : goal.returns-clause-since
returns-clause-since g c = λ todo left told to_tell items replies over m start least since tells.
    let all = since_ingests g.D.Device start least todo told items replies c.args.old.now c.args.new.now m left to_tell (since, tells) over in (all.0, all.1.0, all.2)
