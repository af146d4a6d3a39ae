-- What the trait says of a sync, from what it made of the disk.
use Rattle.std.proofs.Common.{length, refl}
use Rattle.disk_model.specs.Counts.{Plain}
use Rattle.disk_model.specs.Images.{SameBytes}
use Rattle.disk_model.specs.Crash.{Elapses, Within}
use Rattle.disk_model.specs.History.{Past, MayLeave, LeftSince, held_now}
use Rattle.disk_model.specs.Memory.{noted}
use Rattle.disk_model.specs.declared.change.Change.TheVariants.{Sync}
use Rattle.disk_model.proofs.Counting.{change_met, noted_counts, same_counts}
use Rattle.disk_model.proofs.Steps.{lasts_at_ok, pasts_kept, sync_within, synced_same, same_elapses, added_elapses}
use Rattle.disk_model.proofs.memory.MemDiskDevice.sync.Goals as goal

pub returns-clause-lasting : goal.returns-clause-lasting
returns-clause-lasting c = λ told. lasts_at_ok c.args.self.now c.sync.new.self c.args.file c.sync.result c.sync.ensures.outcome

pub returns-clause-same_bytes : goal.returns-clause-same_bytes
returns-clause-same_bytes c = λ told.
    let past = c.args.self.now.history in
    pasts_kept c.args.self.now c.sync.new.self (Sync c.args.file) c.sync.result (λ new. SameBytes (held_now past) (held_now new)) c.sync.ensures.outcome (λ file. refl) (synced_same past c.args.file)

pub returns-clause-crash : goal.returns-clause-crash
returns-clause-crash c =
    let past = c.args.self.now.history in
    pasts_kept c.args.self.now c.sync.new.self (Sync c.args.file) c.sync.result (λ new. Within (MayLeave past) (MayLeave new)) c.sync.ensures.outcome (λ image left. left) (sync_within past c.args.file)

pub returns-clause-time : goal.returns-clause-time
returns-clause-time c =
    let past = c.args.self.now.history in
    pasts_kept c.args.self.now c.sync.new.self (Sync c.args.file) c.sync.result
    (λ (new : Past). Elapses (length past.changes) (length new.changes) (LeftSince past) (LeftSince new) (MayLeave new)) c.sync.ensures.outcome (same_elapses past) (added_elapses past (Sync c.args.file))

pub returns-clause-counted : goal.returns-clause-counted
returns-clause-counted c = change_met Plain c.args.self.now c.sync.new.self c.sync.result (noted (Sync c.args.file)) (λ disk. disk)
    c.counts_fit.ensures (λ far. far) (λ before now e. e) (noted_counts (Sync c.args.file)) same_counts c.sync.ensures.outcome
