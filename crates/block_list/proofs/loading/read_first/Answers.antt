use Rattle.disk_model.proofs.Runs.{untouched_call, untouched_same}
use Rattle.block_list.proofs.loading.read_first.Goals as goal

pub returns-in_default-clause-untouched : goal.returns-in_default-clause-untouched
returns-in_default-clause-untouched g c =
    let d = g.D.Device in
    untouched_same d.tells d.held d.may_leave d.moment d.left_since c.args.disk.now (g.met.D.Device.only_now c.args.disk.now)

pub returns-in_err-count-clause-untouched : goal.returns-in_err-count-clause-untouched
returns-in_err-count-clause-untouched g c =
    let d = g.D.Device in
    let r = c.read.ensures in
    untouched_call d.tells d.held d.may_leave d.moment d.left_since c.args.disk.now c.read.new.self (g.met.D.Device.only_now c.args.disk.now) r.counted.telling r.same_bytes r.crash r.time

pub returns-clause-untouched : goal.returns-clause-untouched
returns-clause-untouched g c =
    let d = g.D.Device in
    let r = c.read.ensures in
    untouched_call d.tells d.held d.may_leave d.moment d.left_since c.args.disk.now c.read.new.self (g.met.D.Device.only_now c.args.disk.now) r.counted.telling r.same_bytes r.crash r.time
