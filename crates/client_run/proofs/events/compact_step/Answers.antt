use Rattle.client_run.proofs.CompactLemmas.{compaction_goes_on, has_ended_compaction}
use Rattle.client_run.proofs.events.compact_step.Goals as goal

pub step-requires : goal.step-requires
step-requires g c = c.requires.1.fit.1

pub returns-in-Ended : goal.returns-in-Ended
returns-in-Ended g c = λ items ready.
    has_ended_compaction g.P.LookPort.meaning c.args.port.now c.step.new.port items c.args.tasks.now c.step.new.self c.new.result c.in-Ended.round
    c.jobs_have_own_files.ensures c.step.ensures.steps c.step.ensures.found c.in-Ended.ensures.answers c.new.ensures ready

pub returns-in-More : goal.returns-in-More
returns-in-More g c = λ items ready.
    compaction_goes_on g.P.LookPort.meaning c.args.port.now c.step.new.port items c.args.tasks.now c.step.new.self
    c.jobs_have_own_files.ensures c.step.ensures.steps c.step.ensures.fits c.step.ensures.found c.in-More.ensures.answers ready
