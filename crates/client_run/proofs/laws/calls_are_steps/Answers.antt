use Rattle.client_run.proofs.CoreLemmas.{shows_stepped, since_stepped, stands_stepped, unsure_stepped}
use Rattle.client_run.proofs.laws.calls_are_steps.Goals as goal

pub returns-clause-stands : goal.returns-clause-stands
returns-clause-stands g c = λ calls made m stands. stands_stepped g.D.Device c.args.old.now c.args.new.now calls made m stands

pub returns-clause-shown : goal.returns-clause-shown
returns-clause-shown g c = λ calls made m shown. shows_stepped g.D.Device c.args.old.now c.args.new.now calls made m shown

pub returns-clause-since : goal.returns-clause-since
returns-clause-since g c = λ calls made m start least since. since_stepped g.D.Device c.args.old.now c.args.new.now calls made m start least since

pub returns-clause-unsure : goal.returns-clause-unsure
returns-clause-unsure g c = λ calls made m stands. unsure_stepped g.D.Device c.args.old.now c.args.new.now calls made m stands
