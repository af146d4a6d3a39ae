use Rattle.store_core.proofs.JobRooms.{renewed_flush, renewed_compaction}
use Rattle.store_core.proofs.jobs.Jobs.renew.Goals as goal

pub returns-in-Some-clause-rooms : goal.returns-in-Some-clause-rooms
returns-in-Some-clause-rooms c = λ list count fits. renewed_flush c.args.self.now _ c.args.room list count c.in-Some.is c.requires fits

pub returns-in-Some-compaction-clause-rooms : goal.returns-in-Some-compaction-clause-rooms
returns-in-Some-compaction-clause-rooms c = λ list count fits. renewed_compaction c.args.self.now _ c.args.room list count c.in-Some-compaction.is c.requires fits
