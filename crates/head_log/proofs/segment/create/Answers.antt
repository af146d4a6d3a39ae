use Rattle.disk_model.specs.Bytes.{Torn, HalfCut}
use Rattle.disk_model.proofs.Passing.{one_change, cut_same, passes_then}
use Rattle.head_log.proofs.Standing.{Anything, passes_any}
use Rattle.head_log.proofs.segment.create.Goals as goal

pub returns-in_err-cut-clause-any_moment : goal.returns-in_err-cut-clause-any_moment
returns-in_err-cut-clause-any_moment g c =
    let D = g.D.Device in
    let file = c.args.file in
    let cut = one_change D.moment D.left_since D.may_leave file (HalfCut 0) (cut_same 0) c.args.disk.now c.cut.new.self (g.met.D.Device.only_now c.args.disk.now) c.in_err-cut.ensures.crash c.in_err-cut.ensures.time in
    passes_any D.moment D.left_since D.may_leave file (HalfCut 0) c.args.disk.now c.cut.new.self cut c.in_err-cut.ensures.crash

pub returns-clause-any_moment : goal.returns-clause-any_moment
returns-clause-any_moment g c =
    let D = g.D.Device in
    let file = c.args.file in
    let cut = one_change D.moment D.left_since D.may_leave file (HalfCut 0) (cut_same 0) c.args.disk.now c.cut.new.self (g.met.D.Device.only_now c.args.disk.now) c.in_ok-cut.ensures.crash c.in_ok-cut.ensures.time in
    let first = passes_any D.moment D.left_since D.may_leave file (HalfCut 0) c.args.disk.now c.cut.new.self cut c.in_ok-cut.ensures.crash in
    let second = passes_any D.moment D.left_since D.may_leave file (Torn 0 2) c.cut.new.self c.write_through.new.disk c.write_through.ensures.any_moment c.write_through.ensures.crash in
    passes_then D.moment D.left_since D.may_leave file Anything Anything Anything Anything c.args.disk.now c.cut.new.self c.write_through.new.disk first second (λ bytes is. is)
