use Rattle.headline.proofs.Kept.{served_amid, served_throughout}
use Rattle.headline.proofs.laws.the_headline_of_clients.Goals as goal

pub returns-clause-answers : goal.returns-clause-answers
returns-clause-answers g c words s old new serves =
    c.what_was_seen_counts.ensures s.first s.last s.scripts s.answers s.entries serves.3.ran

pub returns-clause-pushes : goal.returns-clause-pushes
returns-clause-pushes g c told words s old new serves =
    c.clients_make_the_history.ensures told s.first s.last s.scripts s.answers s.entries serves.3.ran

pub returns-clause-stored : goal.returns-clause-stored
returns-clause-stored g c s recovers = (recovers.begins.stored, recovers.returned)

pub returns-clause-at_any_moment : goal.returns-clause-at_any_moment
returns-clause-at_any_moment g c told words s old new serves recovers =
    let theirs = c.clients_make_the_history.ensures told s.first s.last s.scripts s.answers s.entries serves.3.ran in
    served_throughout g.D.Device c.args.disk.now c.args.later.now s _ theirs.grows recovers

pub returns-clause-at_any_moment_after_a_fault : goal.returns-clause-at_any_moment_after_a_fault
returns-clause-at_any_moment_after_a_fault g c = served_amid g.D.Device c.args.disk.now c.args.later.now
