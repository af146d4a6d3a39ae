-- What the trait says of a cut, from what it made of the disk.
use Rattle.std.proofs.Common.{length, refl}
use Rattle.disk_model.specs.Counts.{Plain}
use Rattle.disk_model.specs.Images.{Besides, OnFile}
use Rattle.disk_model.specs.Bytes.{HalfCut}
use Rattle.disk_model.specs.Crash.{Elapses, Follows}
use Rattle.disk_model.specs.History.{Past, MayLeave, LeftSince, held_now}
use Rattle.disk_model.specs.Memory.{noted}
use Rattle.disk_model.specs.declared.change.Change.TheVariants.{Cut, LostCut}
use Rattle.disk_model.proofs.Counting.{change_met, noted_counts}
use Rattle.disk_model.proofs.Passing.{cut_same}
use Rattle.disk_model.proofs.Steps.{cut_at_ok, pasts, besides_added, same_follows, cut_follows, lost_cut_follows, same_elapses, added_elapses}
use Rattle.disk_model.proofs.memory.MemDiskDevice.cut.Goals as goal

pub returns-clause-shortened : goal.returns-clause-shortened
returns-clause-shortened c = λ told. cut_at_ok c.args.self.now c.cut.new.self c.args.file c.args.len c.cut.result (noted (LostCut c.args.file c.args.len)) c.cut.ensures.outcome

pub returns-clause-besides : goal.returns-clause-besides
returns-clause-besides c = λ told.
    let past = c.args.self.now.history in
    pasts c.args.self.now c.cut.new.self (Cut c.args.file c.args.len) c.cut.result (λ (new : Past). Besides c.args.file (held_now past) (held_now new)) (LostCut c.args.file c.args.len) c.cut.ensures.outcome
    (λ other differs. refl) (besides_added past (Cut c.args.file c.args.len)) (besides_added past (LostCut c.args.file c.args.len))

pub returns-clause-crash : goal.returns-clause-crash
returns-clause-crash c =
    let past = c.args.self.now.history in
    pasts c.args.self.now c.cut.new.self (Cut c.args.file c.args.len) c.cut.result (λ (new : Past). Follows (OnFile c.args.file (HalfCut c.args.len)) (MayLeave past) (MayLeave new)) (LostCut c.args.file c.args.len) c.cut.ensures.outcome
    (same_follows c.args.file (HalfCut c.args.len) (cut_same c.args.len) past) (cut_follows past c.args.file c.args.len) (lost_cut_follows past c.args.file c.args.len)

pub returns-clause-time : goal.returns-clause-time
returns-clause-time c =
    let past = c.args.self.now.history in
    pasts c.args.self.now c.cut.new.self (Cut c.args.file c.args.len) c.cut.result
    (λ (new : Past). Elapses (length past.changes) (length new.changes) (LeftSince past) (LeftSince new) (MayLeave new)) (LostCut c.args.file c.args.len) c.cut.ensures.outcome
    (same_elapses past) (added_elapses past (Cut c.args.file c.args.len)) (added_elapses past (LostCut c.args.file c.args.len))

pub returns-clause-counted : goal.returns-clause-counted
returns-clause-counted c = change_met Plain c.args.self.now c.cut.new.self c.cut.result (noted (Cut c.args.file c.args.len)) (noted (LostCut c.args.file c.args.len))
    c.counts_fit.ensures (λ far. far) (λ before now e. e) (noted_counts (Cut c.args.file c.args.len)) (noted_counts (LostCut c.args.file c.args.len)) c.cut.ensures.outcome
