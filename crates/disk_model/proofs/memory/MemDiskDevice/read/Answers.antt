-- What the trait says of a read, from what the call made of the disk.
use Rattle.std.proofs.Common.{length, refl}
use Rattle.disk_model.specs.Images.{SameBytes}
use Rattle.disk_model.specs.Crash.{Elapses, Within}
use Rattle.disk_model.specs.History.{Past, MayLeave, LeftSince, held_now}
use Rattle.disk_model.proofs.Counting.{read_met, read_past}
use Rattle.disk_model.proofs.Steps.{same_elapses}
use Rattle.disk_model.proofs.memory.MemDiskDevice.read.Goals as goal

pub returns-clause-same_bytes : goal.returns-clause-same_bytes
returns-clause-same_bytes c = λ told.
    let past = c.args.self.now.history in
    read_past c.args.self.now c.read.new.self c.read.result (λ new. SameBytes (held_now past) (held_now new)) c.read.ensures.answer (λ file. refl)

pub returns-clause-crash : goal.returns-clause-crash
returns-clause-crash c =
    let past = c.args.self.now.history in
    read_past c.args.self.now c.read.new.self c.read.result (λ new. Within (MayLeave past) (MayLeave new)) c.read.ensures.answer (λ image left. left)

pub returns-clause-time : goal.returns-clause-time
returns-clause-time c =
    let past = c.args.self.now.history in
    read_past c.args.self.now c.read.new.self c.read.result
    (λ (new : Past). Elapses (length past.changes) (length new.changes) (LeftSince past) (LeftSince new) (MayLeave new)) c.read.ensures.answer (same_elapses past)

pub returns-clause-counted : goal.returns-clause-counted
returns-clause-counted c = read_met c.args.self.now c.read.new.self c.read.result c.counts_fit.ensures c.read.ensures.answer
