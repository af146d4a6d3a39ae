use Rattle.headline.proofs.Telling.{acts_tell_all}
use Rattle.session_meaning.specs.Place.{opened_at}
use Rattle.headline.proofs.Kept.{kept_amid, kept_throughout, some_history, unopened_stands}
use Rattle.headline.proofs.laws.the_headline.Goals as goal

pub returns-clause-answers : goal.returns-clause-answers
returns-clause-answers g c = λ words o old new run. acts_tell_all o.acts o.replies (opened_at o.first) o.last run.session

pub returns-clause-stored : goal.returns-clause-stored
returns-clause-stored g c = some_history g.D.Device c.args.disk.now c.args.later.now

pub returns-clause-at_any_moment : goal.returns-clause-at_any_moment
returns-clause-at_any_moment g c = kept_throughout g.D.Device c.args.disk.now c.args.later.now

pub returns-clause-at_any_moment_after_a_fault : goal.returns-clause-at_any_moment_after_a_fault
returns-clause-at_any_moment_after_a_fault g c = kept_amid g.D.Device c.args.disk.now c.args.later.now

pub returns-clause-before_it_opens : goal.returns-clause-before_it_opens
returns-clause-before_it_opens g c = unopened_stands g.D.Device c.args.disk.now c.args.later.now
