-- What the trait says of a length, from what the call made of the disk.
use Rattle.std.proofs.Common.{length, refl}
use Rattle.disk_model.specs.Images.{SameBytes}
use Rattle.disk_model.specs.Crash.{Elapses, Within}
use Rattle.disk_model.specs.History.{Past, MayLeave, LeftSince, held_now}
use Rattle.disk_model.proofs.Counting.{len_met, answer_past}
use Rattle.disk_model.proofs.Steps.{same_elapses}
use Rattle.disk_model.proofs.memory.MemDiskDevice.len.Goals as goal

pub returns-clause-same_bytes : goal.returns-clause-same_bytes
returns-clause-same_bytes c = λ told.
    let past = c.args.self.now.history in
    answer_past c.args.self.now c.len.new.self c.len.result (λ new. SameBytes (held_now past) (held_now new)) c.len.ensures.answer (λ file. refl)

pub returns-clause-crash : goal.returns-clause-crash
returns-clause-crash c =
    let past = c.args.self.now.history in
    answer_past c.args.self.now c.len.new.self c.len.result (λ new. Within (MayLeave past) (MayLeave new)) c.len.ensures.answer (λ image left. left)

pub returns-clause-time : goal.returns-clause-time
returns-clause-time c =
    let past = c.args.self.now.history in
    answer_past c.args.self.now c.len.new.self c.len.result
    (λ (new : Past). Elapses (length past.changes) (length new.changes) (LeftSince past) (LeftSince new) (MayLeave new)) c.len.ensures.answer (same_elapses past)

pub returns-clause-counted : goal.returns-clause-counted
returns-clause-counted c = len_met c.args.self.now c.len.new.self c.len.result c.counts_fit.ensures c.len.ensures.answer
