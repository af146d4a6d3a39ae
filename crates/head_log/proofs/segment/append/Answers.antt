use Rattle.std.proofs.Common.{◌+◌, ◌≤◌, Ok, length, refl, ap, arith}
use Rattle.disk_model.proofs.CallRuns.{calls_failed, calls_wider}
use Rattle.disk_model.proofs.Passing.{passes_more}
use Rattle.head_log.proofs.Appending.{framed_size}
use Rattle.head_log.proofs.Standing.{keeps_either, stands_more}
use Rattle.head_log.proofs.segment.append.Goals as goal

pub returns-in_err-append_record-clause-any_moment : goal.returns-in_err-append_record-clause-any_moment
returns-in_err-append_record-clause-any_moment g c = λ batches spans known tells only stands counted is.
    let seg = c.args.seg.now in
    let text = c.text-text.ensures in
    let run = c.in_err-append_record.ensures.any_moment stands.bodies c.args.entry.now.body known tells text.text text.short only stands.has in
    let more = keeps_either seg.first batches seg.gate known spans c.args.entry.now.body c.args.entry.now.number seg.count stands c.requires.number counted is in
    passes_more _ _ _ _ _ _ _ _ _ _ run more more

pub returns-clause-any_moment : goal.returns-clause-any_moment
returns-clause-any_moment g c = λ batches spans known tells only stands counted is.
    let seg = c.args.seg.now in
    let text = c.text-text.ensures in
    let run = c.in_ok-append_record.ensures.any_moment stands.bodies c.args.entry.now.body known tells text.text text.short only stands.has in
    let more = keeps_either seg.first batches seg.gate known spans c.args.entry.now.body c.args.entry.now.number seg.count stands c.requires.number counted is in
    passes_more _ _ _ _ _ _ _ _ _ _ run more more

pub returns-clause-acknowledged : goal.returns-clause-acknowledged
returns-clause-acknowledged g c = λ batches spans known tells only stands counted is.
    let seg = c.args.seg.now in
    let text = c.text-text.ensures in
    let done = c.in_ok-append_record.ensures.acknowledged stands.bodies c.args.entry.now.body known tells text.text text.short only stands.has in
    (stands_more seg.first batches seg.gate known spans c.args.entry.now.body c.args.entry.now.number seg.count _ _ stands c.requires.number counted is done.0, done.1)

pub returns-clause-gate : goal.returns-clause-gate
returns-clause-gate g c =
    let size = framed_size c.args.entry.now.body in
    omega (arith, size, ap length c.text-text.ensures.text)

pub returns-in_err-append_record-clause-counted : goal.returns-in_err-append_record-clause-counted
returns-in_err-append_record-clause-counted g c =
    let seg = c.args.seg.now in
    let old = c.args.disk.now in
    let new = c.append_record.new.disk in
    let end = seg.gate + 1 + length c.text-text.result.now in
    let wider : end ≤ seg.gate + 10 + length c.args.entry.now.body = omega (arith, framed_size c.args.entry.now.body, ap length c.text-text.ensures.text) in
    calls_wider g.D.Device old new c.from_residual.result 4 end _ wider
    (calls_failed g.D.Device 4 0 end old new _ c.from_residual.result c.in_err-append_record.ensures.counted refl c.from_residual.ensures.0)

pub returns-clause-counted : goal.returns-clause-counted
returns-clause-counted g c =
    let seg = c.args.seg.now in
    let end = seg.gate + 1 + length c.text-text.result.now in
    let wider : end ≤ seg.gate + 10 + length c.args.entry.now.body = omega (arith, framed_size c.args.entry.now.body, ap length c.text-text.ensures.text) in
    calls_wider g.D.Device c.args.disk.now c.append_record.new.disk (Ok tt) 4 end _ wider c.in_ok-append_record.ensures.counted
