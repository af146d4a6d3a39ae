use Rattle.std.proofs.Common.{Some}
use Rattle.client_run.proofs.CallLemmas.{holds_kept}
use Rattle.store_core.specs.Port.{port_of}
use Rattle.trace_shell.proofs.AloneLemmas.{alone_ends, line_ends, no_read_fault, not_spent}
use Rattle.trace_shell.proofs.IngestEnds.{ran_early, ran_first, ran_last}
use Rattle.trace_shell.proofs.ingesting.ingest.Goals as goal

pub push_all-requires-after_bounds : goal.push_all-requires-after_bounds
push_all-requires-after_bounds g c = λ κs outlives.
    let kept = c.keep_small.ensures.kept in holds_kept (port_of g.D.Device) c.args.core.now c.keep_small.new.core kept.2.answered.calls kept.2.answered.made c.requires

pub finish-requires-after_bounds : goal.finish-requires-after_bounds
finish-requires-after_bounds g c = λ κs outlives.
    let kept = c.keep_small.ensures.kept in
    let pushed = c.push_all.ensures.pushed in
    holds_kept (port_of g.D.Device) c.keep_small.new.core c.push_all.new.core pushed.3.answered.calls pushed.3.answered.made
    (holds_kept (port_of g.D.Device) c.args.core.now c.keep_small.new.core kept.2.answered.calls kept.2.answered.made c.requires)

pub returns-in-Some-clause-ran : goal.returns-in-Some-clause-ran
returns-in-Some-clause-ran g c =
    ran_first g.D.Device c.args.core.now c.keep_small.new.core _ _ _ _ _ c.new-tally.result c.keep_small.new.tally c.keep_small.result c.in-Some.ending c.new-tally.ensures c.in-Some.is c.in-Some.ensures.endings c.keep_small.ensures.kept

pub returns-in-Some-push_all-clause-ran : goal.returns-in-Some-push_all-clause-ran
returns-in-Some-push_all-clause-ran g c =
    ran_early g.D.Device c.args.core.now c.keep_small.new.core c.push_all.new.core _ _ _ _ _ _ _ c.new-tally.result c.keep_small.new.tally c.push_all.new.tally c.keep_small.result c.push_all.result c.in-Some-push_all.early
    c.new-tally.ensures c.in_default.is c.in-Some-push_all.is c.keep_small.ensures.kept c.push_all.ensures.pushed

pub returns-in-None-clause-ran : goal.returns-in-None-clause-ran
returns-in-None-clause-ran g c =
    ran_last g.D.Device c.args.core.now c.keep_small.new.core c.push_all.new.core c.finish.new.core _ _ _ _ _ _ _ _ c.new-tally.result c.keep_small.new.tally c.push_all.new.tally c.finish.new.tally c.keep_small.result c.push_all.result c.finish.result
    c.new-tally.ensures c.in_default.is c.in-None.is c.keep_small.ensures.kept c.push_all.ensures.pushed c.finish.ensures.finished

pub returns-in-Some-clause-read_fault : goal.returns-in-Some-clause-read_fault
returns-in-Some-clause-read_fault g c = no_read_fault _ (Some c.in-Some.ending) c.in-Some.ensures.endings

pub returns-in-Some-clause-spent : goal.returns-in-Some-clause-spent
returns-in-Some-clause-spent g c = not_spent _ (Some c.in-Some.ending) c.in-Some.ensures.endings

pub returns-in-Some-clause-endings : goal.returns-in-Some-clause-endings
returns-in-Some-clause-endings g c = line_ends (Some c.in-Some.ending) c.in-Some.ensures.endings

pub returns-in-None-clause-read_fault : goal.returns-in-None-clause-read_fault
returns-in-None-clause-read_fault g c = λ is. absurd ((alone_ends c.finish.result c.finish.ensures.endings).0 is)

pub returns-in-None-clause-spent : goal.returns-in-None-clause-spent
returns-in-None-clause-spent g c = λ is. absurd ((alone_ends c.finish.result c.finish.ensures.endings).1 is)

pub returns-in-None-clause-endings : goal.returns-in-None-clause-endings
returns-in-None-clause-endings g c = (alone_ends c.finish.result c.finish.ensures.endings).3
